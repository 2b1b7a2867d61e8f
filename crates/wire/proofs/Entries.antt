-- Entries and their bytes: each is the other's; an entry is its two halves; and what one entry more does to a list that is decoded or
-- encoded. All over the number k of bytes of an entry.
use mathlib.Core.Path.{◌≡◌, refl, sym, ap, ◌∙◌}
use mathlib.Core.List.{List, [], ◌∷◌, ◌++◌, append_assoc, append-nil}
use Prim.Native.Nat.{ℕ, zero, suc, ◌+◌, ◌-◌, ◌*◌, ◌/◌, ◌%◌, ◌^◌, ◌≤◌, ◌<◌, min}
use native.Mathlib.Nat.{zero-add, add-zero, suc-add, add_comm, add_assoc, mul-zero, mul-suc, mul_comm, mul_assoc, mul_left_comm, add-mul, mul-le-mul_left, div-one, div-div-eq-div-mul, mul-div-le, pow-zero, pow-suc, pow-succ', one-le-pow, le_trans, not-suc-le-zero}
use native.Mathlib.Numerals.{add-one}
use native.Mathlib.Omega.{arith}
use lib.Arith.{mod-mul}
use lib.ListN.{length, take, drop, get_or, set, length-append, length-drop, take-append-drop, drop_of_length-le}
use lib.Seq.{take-append-le, drop-cons, drop-nil, drop-drop, drop_at, take-nil, take-suc, take-take, take_at, take_all, length-take-le, get_or-drop, set_at}
use Rattle.wire.specs.Laws.{behind}
use Rattle.wire.specs.Entries.{Bytes, value, bytes_of, entry_at, entries, bytes, entries16, entries32, entries64, Filled}

-- ---- One entry

pub bytes_of-length : (k x : ℕ) → length (bytes_of k x) ≡ k
bytes_of-length zero x = refl
bytes_of-length (suc k) x = ap suc (bytes_of-length k (x / 256))

-- an entry that its bytes hold is what they say
pub value-bytes_of : (k x : ℕ) → x < 256 ^ k → value (bytes_of k x) ≡ x
value-bytes_of zero x h = let h' = rw pow-zero at h in omega arith
value-bytes_of (suc k) x h =
    let h' : x < 256 * 256 ^ k = rw pow-succ' at h in
    let q : x / 256 < 256 ^ k = omega arith in
    rw (value-bytes_of k (x / 256) q) (omega arith)

-- bytes are those of the entry that they say
pub bytes_of-value : (bs : List ℕ) → Bytes bs → bytes_of (length bs) (value bs) ≡ bs
bytes_of-value [] h = refl
bytes_of-value (b ∷ bs) h =
    let low : b < 256 = h 0 in
    let m : (b + 256 * value bs) % 256 ≡ b = omega arith in
    let d : (b + 256 * value bs) / 256 ≡ value bs = omega arith in
    rw (m, d, bytes_of-value bs (λ i. h (suc i)))

-- the value of j + k bytes is that of the first j, and of the others above them
value-add : (j k : ℕ) (bs : List ℕ) → value (take (j + k) bs) ≡ value (take j bs) + 256 ^ j * value (take k (drop j bs))
value-add zero k bs = rw (zero-add k) (omega arith)
value-add (suc j) k [] = rw (suc-add, take-nil k, mul-zero)
value-add (suc j) k (b ∷ bs) = rw (suc-add, value-add j k bs, pow-succ', mul_assoc) (omega arith)

-- the bytes of x are those of its lower part, and of its upper part behind them
bytes_of-add : (j k x : ℕ) → bytes_of (j + k) x ≡ bytes_of j (x % 256 ^ j) ++ bytes_of k (x / 256 ^ j)
bytes_of-add zero k x = rw (zero-add, div-one)
bytes_of-add (suc j) k x =
    let parts : x % (256 ^ j * 256) ≡ x / 256 % 256 ^ j * 256 + x % 256 = mod-mul x (one-le-pow j 256 (omega arith)) (omega arith) in
    let low : x % (256 ^ j * 256) % 256 ≡ x % 256 = omega arith in
    let high : x % (256 ^ j * 256) / 256 ≡ x / 256 % 256 ^ j = omega arith in
    rw (suc-add, bytes_of-add j k (x / 256), pow-suc, low, high, div-div-eq-div-mul, mul_comm 256)

-- ---- Lists of entries

pub entries-length : (k n : ℕ) (bs : List ℕ) → length (entries k n bs) ≡ n
entries-length k zero bs = refl
entries-length k (suc n) bs = ap suc (entries-length k n (drop k bs))

pub bytes-length : (k : ℕ) (xs : List ℕ) → length (bytes k xs) ≡ k * length xs
bytes-length k [] = sym (mul-zero k)
bytes-length k (x ∷ xs) = length-append (bytes_of k x) (bytes k xs) ∙ rw (bytes_of-length, bytes-length k xs, mul-suc) (add_comm k (k * length xs))

pub bytes-append : (k : ℕ) (xs ys : List ℕ) → bytes k (xs ++ ys) ≡ bytes k xs ++ bytes k ys
bytes-append k [] ys = refl
bytes-append k (x ∷ xs) ys = rw (bytes-append k xs ys, append_assoc)

pub entries_at : (k n : ℕ) (bs : List ℕ) (i : ℕ) → i < n → get_or (entries k n bs) i 0 ≡ entry_at k bs i
unfolding entry_at
entries_at k zero bs i h = omega arith
entries_at k (suc n) bs zero h = rw mul-zero
entries_at k (suc n) bs (suc i) h = entries_at k n (drop k bs) i (omega arith) ∙ ap (λ (d : List ℕ). value (take k d)) (behind k i bs)

pub entries16-length : (bs : List ℕ) → length (entries16 bs) ≡ length bs / 2
unfolding entries16
entries16-length bs = entries-length 2 (length bs / 2) bs

pub entries32-length : (bs : List ℕ) → length (entries32 bs) ≡ length bs / 4
unfolding entries32
entries32-length bs = entries-length 4 (length bs / 4) bs

pub entries64-length : (bs : List ℕ) → length (entries64 bs) ≡ length bs / 8
unfolding entries64
entries64-length bs = entries-length 8 (length bs / 8) bs

pub entries16-at : (bs : List ℕ) (i : ℕ) → i < length bs / 2 → get_or (entries16 bs) i 0 ≡ entry_at 2 bs i
unfolding entries16
entries16-at bs i h = entries_at 2 (length bs / 2) bs i h

pub entries32-at : (bs : List ℕ) (i : ℕ) → i < length bs / 4 → get_or (entries32 bs) i 0 ≡ entry_at 4 bs i
unfolding entries32
entries32-at bs i h = entries_at 4 (length bs / 4) bs i h

-- ---- Both ways

-- decoded from their bytes, entries that their width holds are the same
pub entries-bytes : (k : ℕ) (xs : List ℕ) → ((i : ℕ) → get_or xs i 0 < 256 ^ k) → entries k (length xs) (bytes k xs) ≡ xs
entries-bytes k [] h = refl
entries-bytes k (x ∷ xs) h =
    rw (take_at (bytes_of k x) (bytes k xs) k (bytes_of-length k x), drop_at (bytes_of k x) (bytes k xs) k (bytes_of-length k x), value-bytes_of k x (h 0), entries-bytes k xs (λ i. h (suc i)))

-- entries of bytes are held by their width
value-below : (k : ℕ) (bs : List ℕ) → Bytes bs → value (take k bs) < 256 ^ k
value-below zero bs h = rw pow-zero (omega arith)
value-below (suc k) [] h = one-le-pow (suc k) 256 (omega arith)
value-below (suc k) (b ∷ bs) h =
    let low : b < 256 = h 0 in
    let rest : value (take k bs) < 256 ^ k = value-below k bs (λ i. h (suc i)) in
    rw pow-succ' (omega arith)

-- a part of a list of bytes is one
pub take-bytes : (k : ℕ) (bs : List ℕ) → Bytes bs → Bytes (take k bs)
take-bytes zero bs h i = omega arith
take-bytes (suc k) [] h i = omega arith
take-bytes (suc k) (b ∷ bs) h zero = h 0
take-bytes (suc k) (b ∷ bs) h (suc i) = take-bytes k bs (λ j. h (suc j)) i

pub drop-bytes : (k : ℕ) (bs : List ℕ) → Bytes bs → Bytes (drop k bs)
drop-bytes k bs h i = rw get_or-drop (h (k + i))

pub append-bytes : (bs cs : List ℕ) → Bytes bs → Bytes cs → Bytes (bs ++ cs)
append-bytes [] cs h l i = l i
append-bytes (b ∷ bs) cs h l zero = h 0
append-bytes (b ∷ bs) cs h l (suc i) = append-bytes bs cs (λ j. h (suc j)) l i

pub entries_below : (k n : ℕ) (bs : List ℕ) → Bytes bs → (i : ℕ) → get_or (entries k n bs) i 0 < 256 ^ k
entries_below k zero bs h i = one-le-pow k 256 (omega arith)
entries_below k (suc n) bs h zero = value-below k bs h
entries_below k (suc n) bs h (suc i) = entries_below k n (drop k bs) (drop-bytes k bs h) i

pub entries16-bytes : (xs : List ℕ) → ((i : ℕ) → get_or xs i 0 < 65536) → entries16 (bytes 2 xs) ≡ xs
unfolding entries16
entries16-bytes xs h =
    let n : length (bytes 2 xs) / 2 ≡ length xs = omega (arith, bytes-length 2 xs) in
    ap (λ (k : ℕ). entries 2 k (bytes 2 xs)) n ∙ entries-bytes 2 xs h

pub entries32-bytes : (xs : List ℕ) → ((i : ℕ) → get_or xs i 0 < 2 ^ 32) → entries32 (bytes 4 xs) ≡ xs
unfolding entries32
entries32-bytes xs h =
    let n : length (bytes 4 xs) / 4 ≡ length xs = omega (arith, bytes-length 4 xs) in
    ap (λ (k : ℕ). entries 4 k (bytes 4 xs)) n ∙ entries-bytes 4 xs h

pub entries64-bytes : (xs : List ℕ) → ((i : ℕ) → get_or xs i 0 < 2 ^ 64) → entries64 (bytes 8 xs) ≡ xs
unfolding entries64
entries64-bytes xs h =
    let n : length (bytes 8 xs) / 8 ≡ length xs = omega (arith, bytes-length 8 xs) in
    ap (λ (k : ℕ). entries 8 k (bytes 8 xs)) n ∙ entries-bytes 8 xs h

-- the bytes of entries are bytes
bytes_of-bytes : (k x : ℕ) (bs : List ℕ) → Bytes bs → Bytes (bytes_of k x ++ bs)
bytes_of-bytes zero x bs h i = h i
bytes_of-bytes (suc k) x bs h zero = omega arith
bytes_of-bytes (suc k) x bs h (suc i) = bytes_of-bytes k (x / 256) bs h i

pub bytes-bytes : (k : ℕ) (xs : List ℕ) → Bytes (bytes k xs)
bytes-bytes k [] i = omega arith
bytes-bytes k (x ∷ xs) i = bytes_of-bytes k x (bytes k xs) (bytes-bytes k xs) i

pub drop-take : (j k : ℕ) (bs : List ℕ) → drop j (take (j + k) bs) ≡ take k (drop j bs)
drop-take zero k bs = rw zero-add
drop-take (suc j) k [] = rw (suc-add, take-nil)
drop-take (suc j) k (b ∷ bs) = rw suc-add (drop-take j k bs)

-- the first entries are those of the first bytes
pub entries-take : (k n m : ℕ) (bs : List ℕ) → n ≤ m → entries k n (take (k * n) bs) ≡ take n (entries k m bs)
entries-take k zero m bs h = refl
entries-take k (suc n) zero bs h = absurd (not-suc-le-zero h)
entries-take k (suc n) (suc m) bs h =
    let e : k * suc n ≡ k + k * n = mul-suc k n ∙ add_comm (k * n) k in
    let first : take k (take (k * suc n) bs) ≡ take k bs = take-take k (k * suc n) bs (omega arith) in
    let rest : drop k (take (k * suc n) bs) ≡ take (k * n) (drop k bs) = ap (λ (j : ℕ). drop k (take j bs)) e ∙ drop-take k (k * n) bs in
    rw (first, rest) (ap (λ (r : List ℕ). value (take k bs) ∷ r) (entries-take k n m (drop k bs) (omega arith)))

-- encoded from their entries, the bytes of whole entries are the same
pub bytes-entries : (k n : ℕ) (bs : List ℕ) → length bs ≡ k * n → Bytes bs → bytes k (entries k n bs) ≡ bs
bytes-entries k zero bs e h = sym (drop_of_length-le bs {i = 0} (omega (arith, mul-zero k)))
bytes-entries k (suc n) bs e h =
    let m = mul-suc k n in
    let l : length (take k bs) ≡ k = length-take-le k bs (omega arith) in
    let f : bytes_of k (value (take k bs)) ≡ take k bs = rw l at (bytes_of-value (take k bs) (take-bytes k bs h)) in
    let r : bytes k (entries k n (drop k bs)) ≡ drop k bs = bytes-entries k n (drop k bs) (length-drop k bs ∙ omega arith) (drop-bytes k bs h) in
    rw (f, r) (take-append-drop k bs)

-- the bytes behind the first j entries are those of the other entries
pub bytes-behind : (k j : ℕ) (xs bs : List ℕ) → bytes k xs ≡ bs → bytes k (drop j xs) ≡ drop (k * length (take j xs)) bs
bytes-behind k j xs bs e =
    let whole : bytes k (take j xs) ++ bytes k (drop j xs) ≡ bs = sym (bytes-append k (take j xs) (drop j xs)) ∙ ap (bytes k) (take-append-drop j xs) ∙ e in
    rw (← whole) (sym (drop_at (bytes k (take j xs)) (bytes k (drop j xs)) (k * length (take j xs)) (bytes-length k (take j xs))))

-- ---- As the code reads and writes them

-- what d holds once x is written as entry number i
abbrev pub put : ℕ → ℕ → ℕ → List ℕ → List ℕ
put k i x d = take (k * i) d ++ bytes_of k x ++ drop (k * i + k) d

-- where the next entry begins
next-at : (k i : ℕ) → k * (i + 1) ≡ k * i + k
next-at k i = rw (add-one, mul-suc)

-- where an entry of twice the width begins
twice-at : (k i : ℕ) → (k + k) * i ≡ k * (2 * i)
twice-at k i = rw (add-mul, mul_left_comm) (omega arith)

-- what is written behind a list
put-behind : (k i : ℕ) (w p q : List ℕ) → length p ≡ k * i → take (k * i) (p ++ q) ++ w ++ drop (k * i + k) (p ++ q) ≡ p ++ w ++ drop k q
put-behind k i w p q e = rw (take_at p q (k * i) e, ← drop-drop k (k * i) (p ++ q), drop_at p q (k * i) e)

-- an entry of one byte, and one of twice the width by its halves
pub entry-one : (bs : List ℕ) (i : ℕ) → entry_at 1 bs i ≡ get_or bs i 0
unfolding entry_at
entry-one [] i = rw drop-nil
entry-one (b ∷ bs) zero = omega arith
entry-one (b ∷ bs) (suc i) = rw (mul-suc, add-one) (entry-one bs i)

pub entry-halves : (k i low high : ℕ) (bs : List ℕ) → low ≡ entry_at k bs (2 * i) → high ≡ entry_at k bs (2 * i + 1) → low + 256 ^ k * high ≡ entry_at (k + k) bs i
unfolding entry_at
entry-halves k i low high bs e e' = rw (e, e', twice-at, next-at, ← drop-drop) (sym (value-add k k (drop (k * (2 * i)) bs)))

-- an entry of twice the width is written by its halves
pub put-halves : (k i x : ℕ) (d d' d'' : List ℕ) → (k + k) * i + (k + k) ≤ length d
    → d' ≡ put k (2 * i) (x % 256 ^ k) d → d'' ≡ put k (2 * i + 1) (x / 256 ^ k) d' → d'' ≡ put (k + k) i x d
put-halves k i x d d' d'' h first second =
    let at = k * (2 * i) in
    let low = bytes_of k (x % 256 ^ k) in
    let high = bytes_of k (x / 256 ^ k) in
    let long : length (take at d ++ low) ≡ k * (2 * i + 1) = simp (length-append, length-take-le at d (omega (arith, twice-at k i)), bytes_of-length, next-at) in
    rw (second, first, put-behind k (2 * i + 1) (bytes_of k (x / 256 ^ k)) (take at d ++ low) (drop (at + k) d) long, twice-at, bytes_of-add, drop-drop, append_assoc (take at d) low high, add_assoc)

-- ---- The loops

-- Decoding, in any type of entries: from what the first entries of a list of bytes are.
module _ {A : Type 0} (front : ℕ → List ℕ → List A) (entry : List ℕ → ℕ → A) (none : (s : List ℕ) → front 0 s ≡ []) (next : (n : ℕ) (s : List ℕ) → front (n + 1) s ≡ front n s ++ (entry s n ∷ [])) where
  -- the first n entries are n
  pub front-length : (n : ℕ) (s : List ℕ) → length (front n s) ≡ n
  front-length zero s = ap length (none s)
  front-length (suc n) s = rw (← add-one n, next n s, length-append, front-length n s)

  -- the first entries of more are the same
  pub front-take : (n m : ℕ) (s : List ℕ) → take n (front (n + m) s) ≡ front n s
  front-take n zero s = rw add-zero (take_all n (front n s) (omega (arith, front-length n s)))
  front-take n (suc m) s =
      let e : n + suc m ≡ n + m + 1 = omega arith in
      rw (e, next (n + m) s) (take-append-le n (front (n + m) s) (entry s (n + m) ∷ []) (omega (arith, front-length (n + m) s)) ∙ front-take n m s)

  -- one entry more
  pub loaded-next : (i : ℕ) (s : List ℕ) (d₀ d : List A) → i < length d₀ → d ≡ front i s ++ drop i d₀ → set d i (entry s i) ≡ front (i + 1) s ++ drop (i + 1) d₀
  loaded-next i s d₀ d h holds =
      rw (holds, drop-cons d₀ i (entry s i) h, set_at (front i s) (get_or d₀ i (entry s i)) (drop (suc i) d₀) (entry s i) i (front-length i s), next, append_assoc, add-one)

  -- as many entries as there are, or as there is room for
  front-least : (n more room : ℕ) (s : List ℕ) → n ≡ min (n + more) room → take room (front (n + more) s) ≡ front n s
  front-least n zero room s e = rw add-zero (take_all room (front n s) (omega (arith, front-length n s)))
  front-least n (suc more) room s e = let full : room ≡ n = omega arith in rw full (front-take n (suc more) s)

  -- a list into which n entries were decoded, and what stands behind them
  pub loaded-end : (k n i : ℕ) (s : List ℕ) (d₀ d : List A) → n ≡ min (length s / k) (length d₀) → length (take n d₀) ≤ i → i ≤ length (take n d₀) → d ≡ front i s ++ drop i (take n d₀) → Filled k front n s d₀ (d ++ drop n d₀)
  loaded-end k n i s d₀ d least all within holds =
      let long : length (take n d₀) ≡ n = length-take-le n d₀ (omega arith) in
      let same : i ≡ n = omega arith in
      let is : d ≡ front n s = holds ∙ rw (same, drop_of_length-le (take n d₀) {i = n} (omega arith)) (append-nil _) in
      let front_is : take n (d ++ drop n d₀) ≡ front n s = rw is (take_at (front n s) (drop n d₀) n (front-length n s)) in
      let entries : n + (length s / k - n) ≡ length s / k = omega arith in
      record {
        within = simp (is, length-append, front-length) (omega arith);
        count = sym (ap length front_is ∙ front-length n s);
        held = front_is ∙ sym (rw entries at (front-least n (length s / k - n) (length d₀) s (omega arith)));
        most = le_trans (mul-le-mul_left k (omega arith)) (mul-div-le (length s) k);
      }

-- Encoding, in any type of entries: from what the bytes of a list are.
module _ {A : Type 0} (k : ℕ) (own : A → List ℕ) (all : List A → List ℕ) (none : all [] ≡ []) (more : (x : A) (xs : List A) → all (x ∷ xs) ≡ own x ++ all xs) (count : (x : A) → length (own x) ≡ k) where
  -- the bytes of all are k for each, and those of one more stand behind
  pub all-length : (xs : List A) → length (all xs) ≡ k * length xs
  all-length [] = ap length none ∙ sym (mul-zero k)
  all-length (x ∷ xs) = rw (more x xs, length-append, count x, all-length xs, mul-suc) (add_comm k (k * length xs))

  pub all-push : (xs : List A) (y : A) → all (xs ++ (y ∷ [])) ≡ all xs ++ own y
  all-push [] y = rw (more y [], none, append-nil)
  all-push (x ∷ xs) y = rw (more x (xs ++ (y ∷ [])), all-push xs y, more x xs, append_assoc)

  -- one entry more
  pub stored-next : (i : ℕ) (x : A) (s : List A) (d₀ d d' : List ℕ) → i < length s → x ≡ get_or s i x → d ≡ all (take i s) ++ drop (k * i) d₀
      → d' ≡ take (k * i) d ++ own x ++ drop (k * i + k) d → d' ≡ all (take (i + 1) s) ++ drop (k * (i + 1)) d₀
  stored-next i x s d₀ d d' h here holds wrote =
      let long : length (all (take i s)) ≡ k * i = all-length (take i s) ∙ ap (λ (n : ℕ). k * n) (length-take-le i s (omega arith)) in
      let push : all (take (i + 1) s) ≡ all (take i s) ++ own x = rw (add-one, take-suc s i x h, ← here) (all-push (take i s) x) in
      rw (wrote, holds, put-behind k i (own x) (all (take i s)) (drop (k * i) d₀) long, drop-drop, next-at, push)
