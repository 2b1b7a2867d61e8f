-- The bits of the marks, byte by byte: bit j of byte i is bit 8 i + j of the words that the bytes hold.
-- From the definitions of both.
use mathlib.Core.Path.{◌≡◌, refl, sym, ◌∙◌, ap}
use mathlib.Core.Bool.{false}
use mathlib.Core.List.{List, [], ◌∷◌}
use Prim.Native.Nat.{ℕ, zero, suc, ◌+◌, ◌*◌, ◌/◌, ◌%◌, ◌^◌, ◌<◌}
use native.Mathlib.Nat.{pow-succ', mul_assoc, le_of_suc-le-suc}
use native.Mathlib.Omega.{arith}
use lib.Dec.{eqb}
use lib.ListN.{length, get_or, take, drop}
use lib.Seq.{get_or-take, get_or-drop}
use Rattle.model.specs.LiveWords.{bit, is_set, is_live}
use Rattle.model.proofs.LiveWords.{is_set-suc}
use Rattle.wire.specs.Entries.{Bytes, value, entry_at, entries64}
use Rattle.wire.proofs.Entries.{take-bytes, drop-bytes, entries_at}

-- ---- Bits of a number in two parts

-- twice a number, as a part of the next
doubled : (n v : ℕ) → 2 ^ suc n * v ≡ 2 * (2 ^ n * v)
doubled n v = ap (λ (x : ℕ). x * v) (pow-succ' 2 n) ∙ mul_assoc 2 (2 ^ n) v

low_bit : (b y : ℕ) → is_set (b + 2 * y) 0 ≡ is_set b 0
unfolding is_set bit
low_bit b y = let e : (b + 2 * y) / 2 ^ 0 % 2 ≡ b / 2 ^ 0 % 2 = omega arith in ap (λ (x : ℕ). eqb x 1) e

next_bit : (b y j : ℕ) → is_set (b + 2 * y) (suc j) ≡ is_set (b / 2 + y) j
next_bit b y j = let e : (b + 2 * y) / 2 ≡ b / 2 + y = omega arith in is_set-suc (b + 2 * y) j ∙ ap (λ (x : ℕ). is_set x j) e

-- the bits below n
pub is_set-low : (n b v j : ℕ) → j < n → is_set (b + 2 ^ n * v) j ≡ is_set b j
is_set-low zero b v j h = absurd (omega arith)
is_set-low (suc n) b v zero h = ap (λ (x : ℕ). is_set (b + x) 0) (doubled n v) ∙ low_bit b (2 ^ n * v)
is_set-low (suc n) b v (suc j) h =
    ap (λ (x : ℕ). is_set (b + x) (suc j)) (doubled n v)
    ∙ next_bit b (2 ^ n * v) j
    ∙ is_set-low n (b / 2) v j (le_of_suc-le-suc h)
    ∙ sym (is_set-suc b j)

-- .. and from n on
pub is_set-high : (n b v j : ℕ) → b < 2 ^ n → is_set (b + 2 ^ n * v) (n + j) ≡ is_set v j
is_set-high zero b v j h =
    let e : b + 1 * v ≡ v = omega arith in
    let k : 0 + j ≡ j = omega arith in
    ap (λ (x : ℕ). is_set x (0 + j)) e ∙ ap (is_set v) k
is_set-high (suc n) b v j h =
    let k : suc n + j ≡ suc (n + j) = omega arith in
    let half : b / 2 < 2 ^ n = omega (arith, h, pow-succ' 2 n) in
    ap (is_set (b + 2 ^ suc n * v)) k
    ∙ ap (λ (x : ℕ). is_set (b + x) (suc (n + j))) (doubled n v)
    ∙ next_bit b (2 ^ n * v) (n + j)
    ∙ is_set-high n (b / 2) v j half

pub none-set : (j : ℕ) → is_set 0 j ≡ false
unfolding is_set bit
none-set zero = refl
none-set (suc j) = is_set-suc 0 j ∙ none-set j

-- ---- Bytes

pub is_set-value : (bs : List ℕ) → Bytes bs → (i j : ℕ) → j < 8 → is_set (value bs) (8 * i + j) ≡ is_set (get_or bs i 0) j
is_set-value [] b i j h = none-set (8 * i + j) ∙ sym (none-set j)
is_set-value (x ∷ bs) b zero j h =
    let k : 8 * 0 + j ≡ j = omega arith in
    ap (is_set (x + 256 * value bs)) k ∙ is_set-low 8 x (value bs) j h
is_set-value (x ∷ bs) b (suc i) j h =
    let k : 8 * suc i + j ≡ 8 + (8 * i + j) = omega arith in
    ap (is_set (x + 256 * value bs)) k
    ∙ is_set-high 8 x (value bs) (8 * i + j) (b 0)
    ∙ is_set-value bs (λ l. b (suc l)) i j h

-- a bit of the marks' bytes, in the words that they hold
pub marks-bit : (ms : List ℕ) → Bytes ms → (i j : ℕ) → i / 8 < length ms / 8 → j < 8 → is_live (entries64 ms) (8 * i + j) ≡ is_set (get_or ms i 0) j
unfolding is_live entries64 entry_at
marks-bit ms b i j w h =
    let q : (8 * i + j) / 64 ≡ i / 8 = omega arith in
    let r : (8 * i + j) % 64 ≡ 8 * (i % 8) + j = omega arith in
    let part = take 8 (drop (8 * (i / 8)) ms) in
    let l : i % 8 < 8 = omega arith in
    let at : 8 * (i / 8) + i % 8 ≡ i = omega arith in
    ap (λ (k : ℕ). is_set (get_or (entries64 ms) k 0) ((8 * i + j) % 64)) q
    ∙ ap (is_set (get_or (entries64 ms) (i / 8) 0)) r
    ∙ ap (λ (x : ℕ). is_set x (8 * (i % 8) + j)) (entries_at 8 (length ms / 8) ms (i / 8) w)
    ∙ is_set-value part (take-bytes 8 (drop (8 * (i / 8)) ms) (drop-bytes (8 * (i / 8)) ms b)) (i % 8) j h
    ∙ ap (λ (x : ℕ). is_set x j) (get_or-take 8 (drop (8 * (i / 8)) ms) (i % 8) 0 l ∙ get_or-drop (8 * (i / 8)) ms (i % 8) 0 ∙ ap (λ (k : ℕ). get_or ms k 0) at)
