-- What the machine's operations on words make of their bits: shifts, `&`, `|`, `!`, and the counts of ones and of trailing zeros.
-- From the program logic's laws of these operations, and the model's laws of words.
use mathlib.Core.Path.{◌≡◌, refl, sym, ap, ap₂, ◌∙◌}
use mathlib.Core.Bool.{Bool, true, false, not, ◌&&◌, ◌||◌, cond}
use mathlib.Core.List.{List, map}
use Prim.Native.Nat.{ℕ, zero, suc, ◌+◌, ◌-◌, ◌*◌, ◌/◌, ◌%◌, ◌^◌, ◌≤◌, ◌<◌, min, max}
use native.Mathlib.Nat.{add-zero, zero-add, div-one, mod-one, div-eq_of_lt, pow-succ', lt_of_lt_of_le, lt_of_le_of_lt, lt_of_not-le, one-mul}
use native.Mathlib.Numerals.{add-one}
use native.Mathlib.Omega.{arith}
use lib.Dec.{eqb, eqb-zero-suc, eqb-suc-zero, eqb-suc-suc}
use lib.ListN.{get_or}
use lib.Pow.{pow_mono, pow-lt, shl_exact, shr-shr, field, mod-mod-pow}
use lib.Bits.{bit_and, bit_or, and_shr, or_shr, and_step, or_step, and_le_l, and_le_r, or_lt, or_add_and}
use lib.Count.{ones, ones_step, count_trailing_zeros, under}
use borrow.Author.Tests.{eq-eqb}
use Rattle.model.specs.Limits.{word_bits}
use Rattle.model.specs.Lists.{from}
use Rattle.model.specs.TupleSet.{count}
use Rattle.model.specs.LiveWords.{bit, is_set, is_live, living_from, word}
use Rattle.model.proofs.Bools.{and_left, and_right, and_intro, not-both}
use Rattle.model.proofs.LiveWords.{is_set-suc, is_live-at, living_from-word, digit_low, digit-half, digit-mod, word-ext, map-from-cong, count-cons}

-- ---- One bit

is_set-zero : (w : ℕ) → is_set w 0 ≡ eqb (w % 2) 1
unfolding is_set bit
is_set-zero w = rw (div-one w)

-- the lowest bit is the word's last binary digit
is_set-low : (w : ℕ) → cond (is_set w 0) 1 0 ≡ w % 2
is_set-low w = digit-mod w (is_set w 0) (sym (is_set-zero w))

-- `w >> k`
pub is_set-shr : (w k j : ℕ) → is_set (w / 2 ^ k) j ≡ is_set w (k + j)
unfolding is_set bit
is_set-shr w k j = ap (λ (x : ℕ). eqb (x % 2) 1) (shr-shr w k j)

-- no bit is set at n or above it in a word of n bits
pub is_set-high : (w n j : ℕ) → w < 2 ^ n → n ≤ j → is_set w j ≡ false
unfolding is_set bit
is_set-high w n j h l = rw (div-eq_of_lt (lt_of_lt_of_le h (pow_mono l)))

pub is_set-nought : (j : ℕ) → is_set 0 j ≡ false
is_set-nought j = is_set-high 0 0 j (omega arith) (omega arith)

pub is_set-below : (w n j : ℕ) → w < 2 ^ n → is_set w j ≡ true → j < n
is_set-below w n j h e = lt_of_not-le (λ (l : n ≤ j). not-both e (is_set-high w n j h l))

-- bit j of an id's word, shifted right to the id's bit, is the bit of the j-th id after it
pub is_live-shr : (ws : List ℕ) (g j : ℕ) → g % word_bits + j < word_bits → is_live ws (g + j) ≡ is_set (get_or ws (g / word_bits) 0 / 2 ^ (g % word_bits)) j
is_live-shr ws g j h =
    let e : g + j ≡ word_bits * (g / word_bits) + (g % word_bits + j) = omega arith in
    ap (is_live ws) e ∙ is_live-at ws (g / word_bits) (g % word_bits + j) h ∙ sym (is_set-shr (get_or ws (g / word_bits) 0) (g % word_bits) j)

-- ---- `&` and `|`

-- an operation that takes the words digit by digit, as `f` takes two digits and `t` two bits
module _ (op f : ℕ → ℕ → ℕ) (t : Bool → Bool → Bool) (shr : (a b k : ℕ) → op a b / 2 ^ k ≡ op (a / 2 ^ k) (b / 2 ^ k)) (step : (a b : ℕ) → op a b ≡ op (a / 2) (b / 2) * 2 + f (a % 2) (b % 2)) (digit : (x y : Bool) → f (cond x 1 0) (cond y 1 0) ≡ cond (t x y) 1 0) where
  is_set-lowest : (a b : ℕ) → is_set (op a b) 0 ≡ t (is_set a 0) (is_set b 0)
  is_set-lowest a b =
      let x = is_set a 0 in
      let y = is_set b 0 in
      let e : op a b ≡ cond (t x y) 1 0 + 2 * op (a / 2) (b / 2) = omega (arith, step a b, ap₂ f (is_set-low a) (is_set-low b), digit x y) in
      ap (λ (w : ℕ). is_set w 0) e ∙ digit_low (t x y) (op (a / 2) (b / 2))

  is_set-op : (a b j : ℕ) → is_set (op a b) j ≡ t (is_set a j) (is_set b j)
  is_set-op a b j =
      let at : (w : ℕ) → is_set (w / 2 ^ j) 0 ≡ is_set w j = λ w. is_set-shr w j 0 ∙ ap (is_set w) (add-zero j) in
      sym (at (op a b)) ∙ ap (λ (w : ℕ). is_set w 0) (shr a b j) ∙ is_set-lowest (a / 2 ^ j) (b / 2 ^ j) ∙ ap₂ t (at a) (at b)

min-digit : (x y : Bool) → min (cond x 1 0) (cond y 1 0) ≡ cond (x && y) 1 0
min-digit true true = refl
min-digit true false = refl
min-digit false true = refl
min-digit false false = refl

max-digit : (x y : Bool) → max (cond x 1 0) (cond y 1 0) ≡ cond (x || y) 1 0
max-digit true true = refl
max-digit true false = refl
max-digit false true = refl
max-digit false false = refl

pub is_set-and : (a b j : ℕ) → is_set (bit_and a b) j ≡ (is_set a j && is_set b j)
is_set-and = is_set-op bit_and min (λ x y. x && y) and_shr and_step min-digit

pub is_set-or : (a b j : ℕ) → is_set (bit_or a b) j ≡ (is_set a j || is_set b j)
is_set-or = is_set-op bit_or max (λ x y. x || y) or_shr or_step max-digit

-- ---- `1u64 << k` and `!w`

pub one_shl : (k : ℕ) → k < 64 → 1 * 2 ^ k % 2 ^ 64 ≡ 2 ^ k
one_shl k h = shl_exact 1 k 64 (omega arith) (omega arith) ∙ one-mul (2 ^ k)

pub is_set-pow : (k j : ℕ) → is_set (2 ^ k) j ≡ eqb k j
is_set-pow zero zero = digit_low true 0
is_set-pow zero (suc j) = is_set-high 1 1 (suc j) (omega arith) (omega arith) ∙ sym (eqb-zero-suc j)
is_set-pow (suc k) zero =
    let e : 2 ^ suc k ≡ cond false 1 0 + 2 * 2 ^ k = omega (arith, pow-succ' 2 k) in
    ap (λ (w : ℕ). is_set w 0) e ∙ digit_low false (2 ^ k) ∙ sym (eqb-suc-zero k)
is_set-pow (suc k) (suc j) =
    let e : 2 ^ suc k / 2 ≡ 2 ^ k = omega (arith, pow-succ' 2 k) in
    is_set-suc (2 ^ suc k) j ∙ ap (λ (w : ℕ). is_set w j) e ∙ is_set-pow k j ∙ sym (eqb-suc-suc k j)

not-digits : (n w : ℕ) → w < 2 ^ suc n → 2 ^ suc n - 1 - w ≡ cond (not (is_set w 0)) 1 0 + 2 * (2 ^ n - 1 - w / 2)
not-digits n w h = go (is_set w 0) (is_set-low w)
  where
    go : (b : Bool) → cond b 1 0 ≡ w % 2 → 2 ^ suc n - 1 - w ≡ cond (not b) 1 0 + 2 * (2 ^ n - 1 - w / 2)
    go true e = omega (arith, pow-succ' 2 n)
    go false e = omega (arith, pow-succ' 2 n)

pub is_set-not : (n w j : ℕ) → w < 2 ^ n → j < n → is_set (2 ^ n - 1 - w) j ≡ not (is_set w j)
is_set-not zero w j h l = absurd (omega arith)
is_set-not (suc n) w zero h l = rw (not-digits n w h) (digit_low (not (is_set w 0)) (2 ^ n - 1 - w / 2))
is_set-not (suc n) w (suc j) h l =
    is_set-suc (2 ^ suc n - 1 - w) j
    ∙ ap (λ (x : ℕ). is_set (x / 2) j) (not-digits n w h)
    ∙ ap (λ (x : ℕ). is_set x j) (digit-half (not (is_set w 0)) (2 ^ n - 1 - w / 2))
    ∙ is_set-not n (w / 2) j (omega (arith, pow-succ' 2 n)) (omega arith)
    ∙ ap not (sym (is_set-suc w j))

-- `w & !(1 << k)`
pub word-clear : (w k : ℕ) → w < 2 ^ 64 → k < 64 → bit_and w (2 ^ 64 - 1 - 1 * 2 ^ k % 2 ^ 64) ≡ word (λ (j : ℕ). is_set w j && not (eqb k j))
word-clear w k h l =
    let m = 2 ^ 64 - 1 - 2 ^ k in
    rw (one_shl k l)
    (word-ext (λ (j : ℕ). is_set w j && not (eqb k j)) (bit_and w m) (lt_of_le_of_lt (and_le_l w m) h)
    (λ j b. is_set-and w m j ∙ ap (λ (x : Bool). is_set w j && x) (is_set-not 64 (2 ^ k) j (pow-lt l) b ∙ ap not (is_set-pow k j))))

-- `w | (1 << k)`
pub word-raise : (w k : ℕ) → w < 2 ^ 64 → k < 64 → bit_or w (1 * 2 ^ k % 2 ^ 64) ≡ word (λ (j : ℕ). is_set w j || eqb k j)
word-raise w k h l =
    rw (one_shl k l)
    (word-ext (λ (j : ℕ). is_set w j || eqb k j) (bit_or w (2 ^ k)) (or_lt 64 w (2 ^ k) h (pow-lt l))
    (λ j b. is_set-or w (2 ^ k) j ∙ ap (λ (x : Bool). is_set w j || x) (is_set-pow k j)))

-- ---- The counts

ones_none : ones 0 ≡ 0
unfolding ones
ones_none = refl

ones-count : (k w : ℕ) → ones (w % 2 ^ k) ≡ count (map (is_set w) (from 0 k))
ones-count zero w = ap ones (mod-one w) ∙ ones_none
ones-count (suc k) w =
    let x = w % 2 ^ suc k in
    let r : x % 2 ≡ w % 2 = ap (λ (n : ℕ). w % 2 ^ n % 2) (sym (add-one k)) ∙ mod-mod-pow w k 1 in
    let q : x / 2 ≡ w / 2 % 2 ^ k = ap (λ (n : ℕ). w % 2 ^ n / 2) (sym (add-one k)) ∙ field w k 1 in
    let e = map-from-cong (is_set (w / 2)) (is_set w) 0 1 k (λ j l. ap (is_set (w / 2)) (zero-add j) ∙ is_set-shr w 1 j) in
    omega (arith, ones_step x, ap ones q, ones-count k (w / 2), ap count e, is_set-low w, count-cons (is_set w 0) (map (is_set w) (from 1 k)))

-- the ones of the low k bits of word i are its first k ids that live
pub ones-living_from : (ws : List ℕ) (i k : ℕ) → k ≤ word_bits → ones (get_or ws i 0 % 2 ^ k) ≡ count (living_from (word_bits * i) k ws)
ones-living_from ws i k h = ones-count k (get_or ws i 0) ∙ sym (ap count (living_from-word ws i k h))

pub trailing_below : (k w j : ℕ) → j < count_trailing_zeros k w → is_set w j ≡ false
unfolding count_trailing_zeros
trailing_below zero w j h = absurd (omega arith)
trailing_below (suc k) w j h = go (trailing_below k (w / 2)) (w % 2) refl j h
  where
    go : ((i : ℕ) → i < count_trailing_zeros k (w / 2) → is_set (w / 2) i ≡ false) → (d : ℕ) → w % 2 ≡ d → (i : ℕ) → i < under d (count_trailing_zeros k (w / 2)) → is_set w i ≡ false
    go rest zero e zero l = is_set-zero w ∙ ap (λ (x : ℕ). eqb x 1) e
    go rest zero e (suc i) l = is_set-suc w i ∙ rest i (omega arith)
    go rest (suc d) e i l = absurd (omega arith)

pub trailing_at : (k w : ℕ) → 0 < w → w < 2 ^ k → is_set w (count_trailing_zeros k w) ≡ true
unfolding count_trailing_zeros
trailing_at zero w p h = absurd (omega arith)
trailing_at (suc k) w p h = go (trailing_at k (w / 2)) (w % 2) refl
  where
    go : (0 < w / 2 → w / 2 < 2 ^ k → is_set (w / 2) (count_trailing_zeros k (w / 2)) ≡ true) → (d : ℕ) → w % 2 ≡ d → is_set w (under d (count_trailing_zeros k (w / 2))) ≡ true
    go rest zero e = is_set-suc w (count_trailing_zeros k (w / 2)) ∙ rest (omega arith) (omega (arith, pow-succ' 2 k))
    go rest (suc d) e = is_set-zero w ∙ eq-eqb (w % 2) 1 (omega arith)

-- ---- Sets that have a member in common

lt-pow : (w : ℕ) → w < 2 ^ w
lt-pow zero = omega arith
lt-pow (suc w) = omega (arith, pow-succ' 2 w, lt-pow w)

-- a word that is not 0 has a bit set
some-bit : (w : ℕ) → (w ≡ 0 → ⊥) → (j : ℕ) × (is_set w j ≡ true)
some-bit w d = (count_trailing_zeros w w, trailing_at w w (omega arith) (lt-pow w))

-- `a & b` is not 0 exactly if some bit is set in both
pub and-some : (a b : ℕ) → (bit_and a b ≡ 0 → ⊥) → (j : ℕ) × (is_set a j ≡ true) × (is_set b j ≡ true)
and-some a b d =
    let k = some-bit (bit_and a b) d in
    let e = sym (is_set-and a b k.0) ∙ k.1 in
    (k.0, and_left (is_set a k.0) (is_set b k.0) e, and_right (is_set a k.0) (is_set b k.0) e)

pub and_none : (a b j : ℕ) → is_set a j ≡ true → is_set b j ≡ true → bit_and a b ≡ 0 → ⊥
and_none a b j e f z =
    not-both (is_set-and a b j ∙ and_intro e f) (ap (λ (w : ℕ). is_set w j) z ∙ is_set-high 0 0 j (omega arith) (omega arith))

-- `a | b` is no less than `a`
pub le-or : (a b : ℕ) → a ≤ bit_or a b
le-or a b = omega (arith, or_add_and a b, and_le_r a b)

-- no bit is set in the one word nor in the other
pub or-none : (a b : ℕ) → bit_or a b ≡ 0 → (a ≡ 0) × (b ≡ 0)
or-none a b e =
    let z : a ≡ 0 = omega (arith, le-or a b) in
    (z, omega (arith, or_add_and a b, and_le_l a b))
