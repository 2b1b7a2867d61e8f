-- Lists of numbers as little-endian bytes, k bytes for each entry.
use Rattle.std.specs.Prelude.{◌≡◌, ℕ, zero, suc, ◌+◌, ◌*◌, ◌/◌, ◌%◌, ◌≤◌, ◌<◌, List, [], ◌∷◌, ◌++◌, length, take, drop, get_or}

-- every number of a list is a byte
abbrev pub Bytes : List ℕ → Type 0
Bytes bs = (i : ℕ) → get_or bs i 0 < 256

-- the number whose bytes these are, lowest first
abbrev pub value : List ℕ → ℕ
value [] = 0
value (b ∷ bs) = b + 256 * value bs

-- the k lowest bytes of x, lowest first
abbrev pub bytes_of : ℕ → ℕ → List ℕ
bytes_of zero x = []
bytes_of (suc k) x = x % 256 ∷ bytes_of k (x / 256)

-- entry number i
unfoldable pub entry_at : ℕ → List ℕ → ℕ → ℕ
entry_at k bs i = value (take k (drop (k * i) bs))

-- the first n entries
abbrev pub entries : ℕ → ℕ → List ℕ → List ℕ
entries k zero bs = []
entries k (suc n) bs = value (take k bs) ∷ entries k n (drop k bs)

-- the bytes of a list of entries
abbrev pub bytes : ℕ → List ℕ → List ℕ
bytes k [] = []
bytes k (x ∷ xs) = bytes_of k x ++ bytes k xs

-- all entries of 16 bits, all of 32 bits, and all of 64 bits
unfoldable pub entries16 : List ℕ → List ℕ
entries16 bs = entries 2 (length bs / 2) bs

unfoldable pub entries32 : List ℕ → List ℕ
entries32 bs = entries 4 (length bs / 4) bs

unfoldable pub entries64 : List ℕ → List ℕ
entries64 bs = entries 8 (length bs / 8) bs

-- The first n entries of s were decoded to the front of a list, which held d₀ and holds d: all of them, or as many as there is
-- room for. An entry has k bytes, and `front` gives the first entries of a list of bytes. The first two parts are what lending
-- `&d[..n]` asks.
pub record Filled {A : Type 0} (k : ℕ) (front : ℕ → List ℕ → List A) (n : ℕ) (s : List ℕ) (d₀ d : List A) : Type 0 where
  pub within : n ≤ length d
  pub count : n ≡ length (take n d)
  pub held : take n d ≡ take (length d₀) (front (length s / k) s)
  pub most : k * n ≤ length s
