-- Laws of live words: a word is its bits, live ids are counted part by part, what is written is read back, and every other bit stays.
-- From the definitions, and the laws of lists and of sets of tuples.
use mathlib.Core.Path.{◌≡◌, refl, sym, ◌∙◌, ap, subst}
use mathlib.Core.Bool.{Bool, true, false, not, ◌&&◌, ◌||◌, cond, and-true, or-false}
use mathlib.Core.List.{List, [], ◌∷◌, ◌++◌, map}
use Prim.Native.Nat.{ℕ, zero, suc, ◌+◌, ◌*◌, ◌-◌, ◌/◌, ◌%◌, ◌^◌, ◌≤◌, ◌<◌}
use native.Mathlib.Nat.{add-zero, zero-add, add-suc, suc-add, pow-suc, pow-succ', div-div-eq-div-mul, le_of_suc-le-suc}
use native.Mathlib.Omega.{arith}
use native.Mathlib.Decide.{ℕ_discrete, dec_le}
use lib.Dec.{ltb, eqb}
use lib.ListN.{length, get_or, set, take, drop, replicate, length-map, length-set, get_or-eq_default}
use lib.Seq.{ext_get_or, get_or-set_same, get_or-set_other, get_or-take, length-take-le}
use borrow.Author.Tests.{eqb-true, eqb-false, eq-eqb, ne_eqb, lt-ltb, le-ltb, ltb-true, ltb-false}
use Rattle.model.specs.Limits.{word_bits}
use Rattle.model.specs.Lists.{from}
use Rattle.model.specs.TupleSet.{TupleSet, has, count, without}
use Rattle.model.specs.LiveWords.{bit, is_set, is_live, living_from, living, next_live, digits, word, cleared, raised, bit_after, written_from, written}
use Rattle.model.proofs.Bools.{iff-eq}
use Rattle.model.proofs.Lists.{length_from, get_d-map-from, First, select-from}
use Rattle.model.proofs.TupleSet.{restrict-has, without-length, count-length, without-count, count-one}

-- ---- Bits of a number

pub digit-half : (b : Bool) (x : ℕ) → (cond b 1 0 + 2 * x) / 2 ≡ x
digit-half true x = omega arith
digit-half false x = omega arith

pub digit_low : (b : Bool) (x : ℕ) → is_set (cond b 1 0 + 2 * x) 0 ≡ b
unfolding is_set bit
digit_low true x = eq-eqb ((1 + 2 * x) / 2 ^ 0 % 2) 1 (omega arith)
digit_low false x = ne_eqb ((0 + 2 * x) / 2 ^ 0 % 2) 1 (omega arith)

-- bit j + 1 of a number is bit j of its half
pub bit-suc : (w j : ℕ) → bit w (suc j) ≡ bit (w / 2) j
unfolding bit
bit-suc w j = ap (λ (x : ℕ). w / x % 2) (pow-succ' 2 j) ∙ ap (λ (x : ℕ). x % 2) (sym (div-div-eq-div-mul w 2 (2 ^ j)))

pub is_set-suc : (w j : ℕ) → is_set w (suc j) ≡ is_set (w / 2) j
unfolding is_set
is_set-suc w j = ap (λ (x : ℕ). eqb x 1) (bit-suc w j)

pub digits-is_set : (f : ℕ → Bool) (i k j : ℕ) → j < k → is_set (digits f i k) j ≡ f (i + j)
digits-is_set f i zero j h = absurd (omega arith)
digits-is_set f i (suc k) zero h = rw add-zero (digit_low (f i) (digits f (suc i) k))
digits-is_set f i (suc k) (suc j) h =
    is_set-suc (digits f i (suc k)) j
    ∙ ap (λ (x : ℕ). is_set x j) (digit-half (f i) (digits f (suc i) k))
    ∙ digits-is_set f (suc i) k j (omega arith)
    ∙ ap f (suc-add i j ∙ sym (add-suc i j))

pub digits-cong : (f g : ℕ → Bool) (i k : ℕ) → ((j : ℕ) → i ≤ j → j < i + k → f j ≡ g j) → digits f i k ≡ digits g i k
digits-cong f g i zero h = refl
digits-cong f g i (suc k) h =
    let e = h i (omega arith) (omega arith) in
    let r = digits-cong f g (suc i) k (λ j a b. h j (omega arith) (omega arith)) in
    ap (λ (x : Bool). cond x 1 0 + 2 * digits f (suc i) k) e ∙ ap (λ (x : ℕ). cond (g i) 1 0 + 2 * x) r

pub digits-below : (f : ℕ → Bool) (i k : ℕ) → digits f i k < 2 ^ k
digits-below f i zero = omega arith
digits-below f i (suc k) = go (f i) (digits-below f (suc i) k)
  where
    go : (b : Bool) → digits f (suc i) k < 2 ^ k → cond b 1 0 + 2 * digits f (suc i) k < 2 ^ suc k
    go true h = rw pow-succ' (omega arith)
    go false h = rw pow-succ' (omega arith)

pub digit-mod : (y : ℕ) (b : Bool) → eqb (y % 2) 1 ≡ b → cond b 1 0 ≡ y % 2
digit-mod y true e = sym (eqb-true (y % 2) 1 e)
digit-mod y false e = let d = eqb-false (y % 2) 1 e in omega arith

digits_from : (w i k : ℕ) → w / 2 ^ i < 2 ^ k → digits (is_set w) i k ≡ w / 2 ^ i
unfolding is_set bit
digits_from w i zero h = omega arith
digits_from w i (suc k) h =
    let y = w / 2 ^ i in
    let up : w / 2 ^ suc i ≡ y / 2 = ap (λ (x : ℕ). w / x) (pow-suc 2 i) ∙ sym (div-div-eq-div-mul w (2 ^ i) 2) in
    let r : y / 2 < 2 ^ k = omega (arith, pow-succ' 2 k) in
    let e = digits_from w (suc i) k (subst (λ (x : ℕ). x < 2 ^ k) (sym up) r) ∙ up in
    omega (arith, e, digit-mod y (eqb (y % 2) 1) refl)

-- ---- Words

pub word-is_set : (f : ℕ → Bool) (j : ℕ) → j < word_bits → is_set (word f) j ≡ f j
unfolding word
word-is_set f j h = digits-is_set f 0 word_bits j h ∙ ap f (zero-add j)

pub word-cong : (f g : ℕ → Bool) → ((j : ℕ) → j < word_bits → f j ≡ g j) → word f ≡ word g
unfolding word
word-cong f g h = digits-cong f g 0 word_bits (λ j a b. h j (omega arith))

pub word_below : (f : ℕ → Bool) → word f < 2 ^ 64
unfolding word
word_below f = digits-below f 0 word_bits

-- a word is the word with its bits
pub word-self : (w : ℕ) → w < 2 ^ 64 → word (is_set w) ≡ w
unfolding word
word-self w h = digits_from w 0 word_bits (omega arith) ∙ omega arith

pub word-ext : (f : ℕ → Bool) (w : ℕ) → w < 2 ^ 64 → ((j : ℕ) → j < word_bits → is_set w j ≡ f j) → w ≡ word f
word-ext f w h same = sym (word-self w h) ∙ word-cong (is_set w) f same

-- ---- Tests of numbers in a row

-- the same tests at two places
pub map-from-cong : (f g : ℕ → Bool) (a b n : ℕ) → ((j : ℕ) → j < n → f (a + j) ≡ g (b + j)) → map f (from a n) ≡ map g (from b n)
map-from-cong f g a b n same =
    let l : length (map f (from a n)) ≡ n = length-map (from a n) f ∙ length_from a n in
    ext_get_or false (map f (from a n)) (map g (from b n)) (l ∙ sym (length-map (from b n) g ∙ length_from b n))
    (λ j h. let k : j < n = omega arith in get_d-map-from f a n j false k ∙ same j k ∙ sym (get_d-map-from g b n j false k))

pub count-cons : (b : Bool) (S : TupleSet) → count (b ∷ S) ≡ cond b 1 0 + count S
count-cons true S = omega arith
count-cons false S = omega arith

pub count-from-le : (f : ℕ → Bool) (i n : ℕ) → count (map f (from i n)) ≤ n
count-from-le f i n = omega (arith, count-length (map f (from i n)), length-map (from i n) f, length_from i n)

pub count_add : (f : ℕ → Bool) (i m n : ℕ) → count (map f (from i (m + n))) ≡ count (map f (from i m)) + count (map f (from (i + m) n))
count_add f i zero n = simp (zero-add, add-zero)
count_add f i (suc m) n =
    let e : suc i + m ≡ i + suc m = omega arith in
    let r = rw e at (count_add f (suc i) m n) in
    rw suc-add (omega (arith, r, count-cons (f i) (map f (from (suc i) (m + n))), count-cons (f i) (map f (from (suc i) m))))

-- the numbers from a to b and those from b to e are counted apart
pub count-split : (f : ℕ → Bool) (a b e : ℕ) → a ≤ b → b ≤ e → count (map f (from a (e - a))) ≡ count (map f (from a (b - a))) + count (map f (from b (e - b)))
count-split f a b e h k =
    let p : e - a ≡ (b - a) + (e - b) = omega arith in
    let q : a + (b - a) ≡ b = omega arith in
    rw p (rw q at (count_add f a (b - a) (e - b)))

-- ---- Live ids

pub living-length : (n : ℕ) (ws : List ℕ) → length (living n ws) ≡ n
unfolding living
living-length n ws = length-map (from 0 n) (is_live ws) ∙ length_from 0 n

pub living-has : (n : ℕ) (ws : List ℕ) (g : ℕ) → g < n → has (living n ws) g ≡ is_live ws g
unfolding living
living-has n ws g h = get_d-map-from (is_live ws) 0 n g false h ∙ ap (is_live ws) (zero-add g)

-- bit j of word i is the bit of id 64 i + j
pub is_live-at : (ws : List ℕ) (i j : ℕ) → j < word_bits → is_live ws (word_bits * i + j) ≡ is_set (get_or ws i 0) j
unfolding is_live
is_live-at ws i j h =
    let q : (word_bits * i + j) / word_bits ≡ i = omega arith in
    let r : (word_bits * i + j) % word_bits ≡ j = omega arith in
    ap (λ (x : ℕ). is_set (get_or ws x 0) ((word_bits * i + j) % word_bits)) q ∙ ap (is_set (get_or ws i 0)) r

-- the ids of word i are live as its bits are set
pub living_from-word : (ws : List ℕ) (i k : ℕ) → k ≤ word_bits → living_from (word_bits * i) k ws ≡ map (is_set (get_or ws i 0)) (from 0 k)
living_from-word ws i k h =
    map-from-cong (is_live ws) (is_set (get_or ws i 0)) (word_bits * i) 0 k
    (λ j l. is_live-at ws i j (omega arith) ∙ ap (is_set (get_or ws i 0)) (sym (zero-add j)))

-- ---- The next live id

pub next_live-past : (ws : List ℕ) (i end : ℕ) → end ≤ i → next_live ws i end ≡ end
unfolding next_live
next_live-past ws i end h = let e : end - i ≡ 0 = omega arith in rw e

pub next_live-here : (ws : List ℕ) (i end : ℕ) → i < end → is_live ws i ≡ true → next_live ws i end ≡ i
unfolding next_live
next_live-here ws i end h live = let e : end - i ≡ suc (end - suc i) = omega arith in rw (e, live)

next_live-step : (ws : List ℕ) (i end : ℕ) → is_live ws i ≡ false → Dec (end ≤ i) → next_live ws i end ≡ next_live ws (suc i) end
unfolding next_live
next_live-step ws i end dead (yes h) = next_live-past ws i end h ∙ sym (next_live-past ws (suc i) end (omega arith))
next_live-step ws i end dead (no h) = let e : end - i ≡ suc (end - suc i) = omega arith in rw (e, dead)

-- dead ids are passed over
pub next_live-skip : (ws : List ℕ) (i n end : ℕ) → ((j : ℕ) → j < n → is_live ws (i + j) ≡ false) → next_live ws i end ≡ next_live ws (i + n) end
next_live-skip ws i zero end dead = rw add-zero
next_live-skip ws i (suc n) end dead =
    next_live-skip ws i n end (λ j l. dead j (omega arith))
    ∙ next_live-step ws (i + n) end (dead n (omega arith)) (dec_le end (i + n))
    ∙ ap (λ (x : ℕ). next_live ws x end) (sym (add-suc i n))

-- no id before it is live, and it is, where it is below end
pub next_live-first : (ws : List ℕ) (i end : ℕ) → i ≤ end → First (is_live ws) i end (next_live ws i end)
unfolding next_live
next_live-first ws i end h = select-from (is_live ws) i (end - i) end (omega arith)

-- word lists with the same bits are the same
pub words-ext : (vs ws : List ℕ) → length vs ≡ length ws → ((i : ℕ) → i < length vs → get_or vs i 0 < 2 ^ 64) → ((i : ℕ) → i < length ws → get_or ws i 0 < 2 ^ 64) → ((g : ℕ) → g < word_bits * length vs → is_live vs g ≡ is_live ws g) → vs ≡ ws
words-ext vs ws l small-v small-w same =
    ext_get_or 0 vs ws l (λ i h.
    sym (word-self (get_or vs i 0) (small-v i h))
    ∙ word-cong (is_set (get_or vs i 0)) (is_set (get_or ws i 0))
    (λ j k. sym (is_live-at vs i j k) ∙ same (word_bits * i + j) (omega arith) ∙ is_live-at ws i j k)
    ∙ word-self (get_or ws i 0) (small-w i (omega arith)))

-- ---- Words written

written_from-length : (k n : ℕ) (S : TupleSet) (ws : List ℕ) → length (written_from k n S ws) ≡ length ws
written_from-length k n S [] = refl
written_from-length k n S (w ∷ ws) = ap suc (written_from-length (suc k) n S ws)

pub written-length : (n : ℕ) (S : TupleSet) (ws : List ℕ) → length (written n S ws) ≡ length ws
unfolding written
written-length n S ws = written_from-length 0 n S ws

written_from-at : (k n : ℕ) (S : TupleSet) (ws : List ℕ) (i : ℕ) → i < length ws → get_or (written_from k n S ws) i 0 ≡ word (bit_after n S (k + i) (get_or ws i 0))
written_from-at k n S [] i h = absurd (omega arith)
written_from-at k n S (w ∷ ws) zero h = rw add-zero
written_from-at k n S (w ∷ ws) (suc i) h =
    written_from-at (suc k) n S ws i (le_of_suc-le-suc h)
    ∙ ap (λ (x : ℕ). word (bit_after n S x (get_or ws i 0))) (suc-add k i ∙ sym (add-suc k i))

pub written_at : (n : ℕ) (S : TupleSet) (ws : List ℕ) (i : ℕ) → i < length ws → get_or (written n S ws) i 0 ≡ word (bit_after n S i (get_or ws i 0))
unfolding written
written_at n S ws i h = written_from-at 0 n S ws i h ∙ ap (λ (x : ℕ). word (bit_after n S x (get_or ws i 0))) (zero-add i)

-- an id below n is live as in S, every other bit is as it was
pub written-is_live : (n : ℕ) (S : TupleSet) (ws : List ℕ) (g : ℕ) → g < word_bits * length ws → is_live (written n S ws) g ≡ cond (ltb g n) (has S g) (is_live ws g)
unfolding is_live
written-is_live n S ws g h =
    let q = g / word_bits in
    let r = g % word_bits in
    let e : word_bits * q + r ≡ g = omega arith in
    ap (λ (x : ℕ). is_set x r) (written_at n S ws q (omega arith))
    ∙ word-is_set (bit_after n S q (get_or ws q 0)) r (omega arith)
    ∙ ap (λ (x : ℕ). cond (ltb x n) (has S x) (is_set (get_or ws q 0) r)) e

pub living-written : (n : ℕ) (S : TupleSet) (ws : List ℕ) → length S ≡ n → n ≤ word_bits * length ws → living n (written n S ws) ≡ S
living-written n S ws l h =
    ext_get_or false (living n (written n S ws)) S (living-length n (written n S ws) ∙ sym l)
    (λ g k. let b : g < n = subst (λ (x : ℕ). g < x) (living-length n (written n S ws)) k in
    living-has n (written n S ws) g b ∙ written-is_live n S ws g (omega arith) ∙ ap (λ (x : Bool). cond x (has S g) (is_live ws g)) (lt-ltb g n b))

bit_after-again : (n : ℕ) (S R : TupleSet) (k w j : ℕ) → j < word_bits → (x : Bool) → ltb (word_bits * k + j) n ≡ x → cond x (has S (word_bits * k + j)) (is_set (word (bit_after n R k w)) j) ≡ cond x (has S (word_bits * k + j)) (is_set w j)
bit_after-again n S R k w j h true e = refl
bit_after-again n S R k w j h false e =
    word-is_set (bit_after n R k w) j h ∙ ap (λ (y : Bool). cond y (has R (word_bits * k + j)) (is_set w j)) e

written_from-again : (k n : ℕ) (S R : TupleSet) (ws : List ℕ) → written_from k n S (written_from k n R ws) ≡ written_from k n S ws
written_from-again k n S R [] = refl
written_from-again k n S R (w ∷ ws) =
    ap {B = List ℕ} (λ x. x ∷ written_from (suc k) n S (written_from (suc k) n R ws))
    (word-cong (bit_after n S k (word (bit_after n R k w))) (bit_after n S k w) (λ j h. bit_after-again n S R k w j h (ltb (word_bits * k + j) n) refl))
    ∙ ap {B = List ℕ} (λ t. word (bit_after n S k w) ∷ t) (written_from-again (suc k) n S R ws)

-- what is written last stands
pub written-written : (n : ℕ) (S R : TupleSet) (ws : List ℕ) → written n S (written n R ws) ≡ written n S ws
unfolding written
written-written n S R ws = written_from-again 0 n S R ws

-- to write what lives changes nothing
pub written-living : (n : ℕ) (ws : List ℕ) → ((i : ℕ) → i < length ws → get_or ws i 0 < 2 ^ 64) → written n (living n ws) ws ≡ ws
written-living n ws small =
    words-ext (written n (living n ws) ws) ws (written-length n (living n ws) ws)
    (λ i h. subst (λ (x : ℕ). x < 2 ^ 64) (sym (written_at n (living n ws) ws i (omega (arith, written-length n (living n ws) ws)))) (word_below (bit_after n (living n ws) i (get_or ws i 0))))
    small
    (λ g h. written-is_live n (living n ws) ws g (omega (arith, written-length n (living n ws) ws)) ∙ same g (ltb g n) refl)
  where
    same : (g : ℕ) (x : Bool) → ltb g n ≡ x → cond x (has (living n ws) g) (is_live ws g) ≡ is_live ws g
    same g true e = living-has n ws g (ltb-true g n e)
    same g false e = refl

-- ---- One id changed

-- the words once each bit of id g's word is what `f` makes of it, told whether it is g's
abbrev changed : (Bool → Bool → Bool) → ℕ → List ℕ → List ℕ
changed f g ws = set ws (g / word_bits) (word (λ (j : ℕ). f (is_set (get_or ws (g / word_bits) 0) j) (eqb (g % word_bits) j)))

-- the bits of word i then
bits : (Bool → Bool → Bool) → ℕ → List ℕ → ℕ → ℕ → Bool
bits f g ws i j = f (is_set (get_or ws i 0) j) (eqb g (word_bits * i + j))

same_place : (g j : ℕ) → j < word_bits → eqb (g % word_bits) j ≡ eqb g (word_bits * (g / word_bits) + j)
same_place g j h =
    iff-eq (eqb (g % word_bits) j) (eqb g (word_bits * (g / word_bits) + j))
    (λ e. let q = eqb-true (g % word_bits) j e in eq-eqb g (word_bits * (g / word_bits) + j) (omega arith))
    (λ e. let q = eqb-true g (word_bits * (g / word_bits) + j) e in eq-eqb (g % word_bits) j (omega arith))

module _ (f : Bool → Bool → Bool) (keeps : (b : Bool) → f b false ≡ b) (g : ℕ) (ws : List ℕ) (small : (i : ℕ) → i < length ws → get_or ws i 0 < 2 ^ 64) where
  changed-at : (i : ℕ) → i < length ws → Dec (i ≡ g / word_bits) → get_or (changed f g ws) i 0 ≡ word (bits f g ws i)
  unfolding bits
  changed-at i h (yes e) =
      let k = g / word_bits in
      let w = get_or ws k 0 in
      subst (λ (x : ℕ). get_or (changed f g ws) x 0 ≡ word (λ (j : ℕ). f (is_set (get_or ws x 0) j) (eqb g (word_bits * x + j)))) (sym e)
      (get_or-set_same ws k (word (λ (j : ℕ). f (is_set w j) (eqb (g % word_bits) j))) 0 (omega arith)
      ∙ word-cong (λ (j : ℕ). f (is_set w j) (eqb (g % word_bits) j)) (λ (j : ℕ). f (is_set w j) (eqb g (word_bits * k + j)))
      (λ j hj. ap (f (is_set w j)) (same_place g j hj)))
  changed-at i h (no d) =
      let w = get_or ws i 0 in
      get_or-set_other ws (g / word_bits) i (word (λ (j : ℕ). f (is_set (get_or ws (g / word_bits) 0) j) (eqb (g % word_bits) j))) 0 d
      ∙ word-ext (λ (j : ℕ). f (is_set w j) (eqb g (word_bits * i + j))) w (small i h)
      (λ j hj. sym (ap (f (is_set w j)) (ne_eqb g (word_bits * i + j) (omega arith)) ∙ keeps (is_set w j)))

  changed-is_live : (h : ℕ) → h < word_bits * length ws → is_live (changed f g ws) h ≡ f (is_live ws h) (eqb g h)
  unfolding is_live bits
  changed-is_live h below =
      let q = h / word_bits in
      let r = h % word_bits in
      let e : word_bits * q + r ≡ h = omega arith in
      ap (λ (x : ℕ). is_set x r) (changed-at q (omega arith) (ℕ_discrete q (g / word_bits)))
      ∙ word-is_set (bits f g ws q) r (omega arith)
      ∙ ap (λ (x : ℕ). f (is_set (get_or ws q 0) r) (eqb g x)) e

abbrev clears : Bool → Bool → Bool
clears b here = b && not here

pub cleared-length : (g : ℕ) (ws : List ℕ) → length (cleared g ws) ≡ length ws
unfolding cleared
cleared-length g ws = simp length-set

-- every bit but id g's stays
pub cleared-is_live : (g : ℕ) (ws : List ℕ) → ((i : ℕ) → i < length ws → get_or ws i 0 < 2 ^ 64) → (h : ℕ) → h < word_bits * length ws → is_live (cleared g ws) h ≡ (is_live ws h && not (eqb g h))
unfolding cleared
cleared-is_live = changed-is_live clears and-true

abbrev raises : Bool → Bool → Bool
raises b here = b || here

pub raised-length : (g : ℕ) (ws : List ℕ) → length (raised g ws) ≡ length ws
unfolding raised
raised-length g ws = simp length-set

pub raised-is_live : (g : ℕ) (ws : List ℕ) → ((i : ℕ) → i < length ws → get_or ws i 0 < 2 ^ 64) → (h : ℕ) → h < word_bits * length ws → is_live (raised g ws) h ≡ (is_live ws h || eqb g h)
unfolding raised
raised-is_live = changed-is_live raises or-false

-- no id of empty words is live
pub none-is_live : (n g : ℕ) → is_live (replicate n 0) g ≡ false
unfolding is_live is_set bit
none-is_live n g = ap (λ (w : ℕ). is_set w (g % word_bits)) (empty n (g / word_bits)) ∙ unset (g % word_bits)
  where
    empty : (n i : ℕ) → get_or (replicate n zero) i zero ≡ zero
    empty zero i = refl
    empty (suc n) zero = refl
    empty (suc n) (suc i) = empty n i

    unset : (k : ℕ) → is_set 0 k ≡ false
    unset zero = refl
    unset (suc k) = is_set-suc 0 k ∙ unset k

-- no id past the words is live
pub is_live-past : (ws : List ℕ) (g : ℕ) → word_bits * length ws ≤ g → is_live ws g ≡ false
unfolding is_live
is_live-past ws g h = ap (λ (w : ℕ). is_set w (g % word_bits)) (get_or-eq_default ws 0 (omega arith)) ∙ none-is_live 0 g

pub cleared-below : (g : ℕ) (ws : List ℕ) → ((i : ℕ) → i < length ws → get_or ws i 0 < 2 ^ 64) → (i : ℕ) → i < length ws → get_or (cleared g ws) i 0 < 2 ^ 64
unfolding cleared
cleared-below g ws small i h =
    subst (λ (x : ℕ). x < 2 ^ 64) (sym (changed-at clears and-true g ws small i h (ℕ_discrete i (g / word_bits)))) (word_below (bits clears g ws i))

pub raised_below : (g : ℕ) (ws : List ℕ) → ((i : ℕ) → i < length ws → get_or ws i 0 < 2 ^ 64) → (i : ℕ) → i < length ws → get_or (raised g ws) i 0 < 2 ^ 64
unfolding raised
raised_below g ws small i h =
    subst (λ (x : ℕ). x < 2 ^ 64) (sym (changed-at raises or-false g ws small i h (ℕ_discrete i (g / word_bits)))) (word_below (bits raises g ws i))

-- ---- How many ids are live once one is changed

pub living-count : (n : ℕ) (ws : List ℕ) → count (living n ws) ≤ n
unfolding living
living-count n ws = count-from-le (is_live ws) 0 n

module _ (n g : ℕ) (ws : List ℕ) (small : (i : ℕ) → i < length ws → get_or ws i 0 < 2 ^ 64) (inside : n ≤ word_bits * length ws) where
  pub living-cleared : living n (cleared g ws) ≡ without (eqb g) (living n ws)
  living-cleared =
      ext_get_or false (living n (cleared g ws)) (without (eqb g) (living n ws))
      (living-length n (cleared g ws) ∙ sym (without-length (eqb g) (living n ws) ∙ living-length n ws))
      (λ h k.
      let b : h < n = subst (λ (x : ℕ). h < x) (living-length n (cleared g ws)) k in
      living-has n (cleared g ws) h b
      ∙ cleared-is_live g ws small h (omega arith)
      ∙ sym (restrict-has (λ h. not (eqb g h)) (living n ws) h ∙ ap (λ (x : Bool). x && not (eqb g h)) (living-has n ws h b)))

  -- a live id less
  pub cleared-count : g < n → is_live ws g ≡ true → suc (count (living n (cleared g ws))) ≡ count (living n ws)
  cleared-count h live =
      let one = count-one g (living n ws) ∙ ap (λ (b : Bool). cond b 1 0) (living-has n ws g h ∙ live) in
      omega (arith, one, without-count (eqb g) (living n ws), ap count living-cleared)

pub written_below : (n : ℕ) (S : TupleSet) (ws : List ℕ) (i : ℕ) → i < length ws → get_or (written n S ws) i 0 < 2 ^ 64
written_below n S ws i h = subst (λ (x : ℕ). x < 2 ^ 64) (sym (written_at n S ws i h)) (word_below (bit_after n S i (get_or ws i 0)))

bit-cleared : (n : ℕ) (S : TupleSet) (g i w j : ℕ) → g < n → (x : Bool) → ltb (word_bits * i + j) n ≡ x → (cond x (has S (word_bits * i + j)) (is_set w j) && not (eqb g (word_bits * i + j))) ≡ cond x (has (without (eqb g) S) (word_bits * i + j)) (is_set w j)
bit-cleared n S g i w j h true e = sym (restrict-has (λ y. not (eqb g y)) S (word_bits * i + j))
bit-cleared n S g i w j h false e =
    let l = ltb-false (word_bits * i + j) n e in
    ap (λ (y : Bool). is_set w j && not y) (ne_eqb g (word_bits * i + j) (omega arith)) ∙ and-true (is_set w j)

-- to clear an id is to write the set without it
pub cleared-written : (n : ℕ) (S : TupleSet) (g : ℕ) (ws : List ℕ) → g < n → cleared g (written n S ws) ≡ written n (without (eqb g) S) ws
unfolding cleared bits
cleared-written n S g ws h =
    ext_get_or 0 (cleared g vs) (written n (without (eqb g) S) ws)
    (cleared-length g vs ∙ written-length n S ws ∙ sym (written-length n (without (eqb g) S) ws))
    (λ i k. at i (omega (arith, cleared-length g vs, written-length n S ws)))
  where
    vs : List ℕ
    vs = written n S ws

    at : (i : ℕ) → i < length ws → get_or (cleared g vs) i 0 ≡ get_or (written n (without (eqb g) S) ws) i 0
    at i k =
        changed-at clears and-true g vs (λ i l. written_below n S ws i (omega (arith, written-length n S ws))) i (omega (arith, written-length n S ws)) (ℕ_discrete i (g / word_bits))
        ∙ word-cong (λ (j : ℕ). is_set (get_or vs i 0) j && not (eqb g (word_bits * i + j))) (bit_after n (without (eqb g) S) i (get_or ws i 0))
        (λ j hj.
        ap (λ (x : Bool). x && not (eqb g (word_bits * i + j))) (ap (λ (x : ℕ). is_set x j) (written_at n S ws i k) ∙ word-is_set (bit_after n S i (get_or ws i 0)) j hj)
        ∙ bit-cleared n S g i (get_or ws i 0) j h (ltb (word_bits * i + j) n) refl)
        ∙ sym (written_at n (without (eqb g) S) ws i k)

-- ---- The first words

-- ids below 64 k are read from k words
pub living-same : (n k : ℕ) (vs ws : List ℕ) → n ≤ word_bits * k → ((i : ℕ) → i < k → get_or vs i 0 ≡ get_or ws i 0) → living n vs ≡ living n ws
unfolding living is_live
living-same n k vs ws h same =
    map-from-cong (is_live vs) (is_live ws) 0 0 n
    (λ j l. ap (λ (w : ℕ). is_set w ((0 + j) % word_bits)) (same ((0 + j) / word_bits) (omega arith)))

pub living-take : (n k : ℕ) (ws : List ℕ) → n ≤ word_bits * k → living n (take k ws) ≡ living n ws
living-take n k ws h = living-same n k (take k ws) ws h (λ i l. get_or-take k ws i 0 l)

written_from-past : (i n : ℕ) (S : TupleSet) (ws : List ℕ) → ((k : ℕ) → k < length ws → get_or ws k 0 < 2 ^ 64) → n ≤ word_bits * i → written_from i n S ws ≡ ws
written_from-past i n S [] small h = refl
written_from-past i n S (w ∷ ws) small h =
    ap (λ (v : ℕ). v ∷ written_from (suc i) n S ws)
    (word-cong (bit_after n S i w) (is_set w) (λ j l. ap (λ (b : Bool). cond b (has S (word_bits * i + j)) (is_set w j)) (le-ltb (word_bits * i + j) n (omega arith)))
    ∙ word-self w (small 0 (omega arith)))
    ∙ ap {B = List ℕ} (λ vs. w ∷ vs) (written_from-past (suc i) n S ws (λ k l. small (suc k) (omega arith)) (omega arith))

written_from-take : (i n k : ℕ) (S : TupleSet) (ws : List ℕ) → ((k : ℕ) → k < length ws → get_or ws k 0 < 2 ^ 64) → n ≤ word_bits * (i + k) → written_from i n S ws ≡ written_from i n S (take k ws) ++ drop k ws
written_from-take i n zero S ws small h = written_from-past i n S ws small (omega arith)
written_from-take i n (suc k) S [] small h = refl
written_from-take i n (suc k) S (w ∷ ws) small h =
    ap {B = List ℕ} (λ vs. word (bit_after n S i w) ∷ vs) (written_from-take (suc i) n k S ws (λ j l. small (suc j) (omega arith)) (omega arith))

-- .. and written to them; later words stay
pub written-take : (n k : ℕ) (S : TupleSet) (ws : List ℕ) → ((i : ℕ) → i < length ws → get_or ws i 0 < 2 ^ 64) → n ≤ word_bits * k → written n S ws ≡ written n S (take k ws) ++ drop k ws
unfolding written
written-take n k S ws small h = written_from-take 0 n k S ws small (omega (arith, zero-add k))

-- .. or written to a copy that begins with them, of which they are put back
pub written-copy : (n k : ℕ) (S : TupleSet) (copy ws : List ℕ) → k ≤ length copy → k ≤ length ws → ((i : ℕ) → i < k → get_or copy i 0 ≡ get_or ws i 0) → ((i : ℕ) → i < length ws → get_or ws i 0 < 2 ^ 64) → n ≤ word_bits * k → take k (written n S copy) ++ drop k ws ≡ written n S ws
written-copy n k S copy ws c l same small h =
    ap (λ (vs : List ℕ). vs ++ drop k ws) (ext_get_or 0 (take k (written n S copy)) (written n S (take k ws)) (long ∙ sym long-first) (λ i b. at i (omega (arith, long))))
    ∙ sym (written-take n k S ws small h)
  where
    long : length (take k (written n S copy)) ≡ k
    long = length-take-le k (written n S copy) (omega (arith, written-length n S copy))

    long-first : length (written n S (take k ws)) ≡ k
    long-first = written-length n S (take k ws) ∙ length-take-le k ws l

    at : (i : ℕ) → i < k → get_or (take k (written n S copy)) i 0 ≡ get_or (written n S (take k ws)) i 0
    at i b =
        get_or-take k (written n S copy) i 0 b
        ∙ written_at n S copy i (omega arith)
        ∙ ap (λ (w : ℕ). word (bit_after n S i w)) (same i b ∙ sym (get_or-take k ws i 0 b))
        ∙ sym (written_at n S (take k ws) i (omega (arith, length-take-le k ws l)))
