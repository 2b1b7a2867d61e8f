-- Walks of a combination's members, and of the combinations of a list: how what is left from one place on goes with the next.
-- From the definitions, and the model's laws of combinations.
use mathlib.Core.Path.{◌≡◌, refl, sym, ◌∙◌, ap}
use mathlib.Core.Bool.{Bool, true, false}
use mathlib.Core.List.{List, [], ◌∷◌, ◌++◌, map, Memᴰ}
use Prim.Native.Nat.{ℕ, suc, ◌+◌, ◌*◌, ◌/◌, ◌≤◌, ◌<◌}
use native.Mathlib.Nat.{suc-mul, le-div_iff_mul-le}
use native.Mathlib.Decide.{dec_lt}
use native.Mathlib.Numerals.{add-one}
use native.Mathlib.Omega.{arith}
use borrow.Author.Tests.{ltb-true, lt-ltb}
use lib.Dec.{ltb}
use lib.ListN.{length, get_or, take, drop, length-drop, length-append, drop_of_length-le}
use lib.Seq.{drop-cons, drop-drop, take-append_seam, drop-append_seam}
use Rattle.model.specs.Limits.{max_relations}
use Rattle.model.specs.Lists.{all, pairwise, sum}
use Rattle.model.specs.Combination.{combinations}
use Rattle.model.proofs.Bools.{and_left, and_right, and_intro, iff-eq}
use Rattle.model.proofs.Lists.{here, all_more, all_get_d}
use Rattle.model.proofs.Combination.{combination-count, combination-at, combination-within}
use Rattle.combination.specs.Masks.{common, known}
use Rattle.std.specs.List.{IsAllAdjacentAnswer}
use Rattle.layout.proofs.StdLists.{pairwise_fails_at}
use Rattle.combination.specs.Proper.{below}

-- ---- One combination

pub member_below : (count : ℕ) (c : List ℕ) (i : ℕ) → below count c ≡ true → i < length c → get_or c i 0 < count
member_below count c i e h = ltb-true (get_or c i 0) count (all_get_d (λ (r : ℕ). ltb r count) c i 0 e h)

-- known relations are below 64
pub known-below : (ms c : List ℕ) → all (known ms) c ≡ true → below max_relations c ≡ true
known-below ms c e = all_more (known ms) (λ (r : ℕ). ltb r max_relations) c (λ r k. and_left (ltb r max_relations) (common ms r r) k) e

pub first_member : (c : List ℕ) → 0 < length c → Memᴰ (get_or c 0 0) c
first_member [] h = absurd (omega arith)
first_member (r ∷ c) h = here

pub sum-next : (f : ℕ → ℕ) (c : List ℕ) (i : ℕ) → i < length c → sum (map f (drop i c)) ≡ f (get_or c i 0) + sum (map f (drop (i + 1) c))
sum-next f c i h = rw (drop-cons c i 0 h, add-one)

pub sum-end : (f : ℕ → ℕ) (c : List ℕ) (i : ℕ) → length c ≤ i → sum (map f (drop i c)) ≡ 0
sum-end f c i h = rw (drop_of_length-le c h)

-- ---- Rising members

rise-next : (x y : ℕ) (ys : List ℕ) → x < y → pairwise ltb (x ∷ y ∷ ys) ≡ pairwise ltb (y ∷ ys)
rise-next x y ys h =
    iff-eq (pairwise ltb (x ∷ y ∷ ys)) (pairwise ltb (y ∷ ys))
    (λ e. and_right (all (ltb x) (y ∷ ys)) (pairwise ltb (y ∷ ys)) e)
    (λ e. and_intro
    (and_intro (lt-ltb x y h)
    (all_more (ltb y) (ltb x) ys (λ z k. let l = ltb-true y z k in lt-ltb x z (omega arith)) (and_left (all (ltb y) ys) (pairwise ltb ys) e))) e)

rising-adjacent : (xs : List ℕ) → ((k d : ℕ) → suc k < length xs → ltb (get_or xs k d) (get_or xs (suc k) d) ≡ true) → pairwise ltb xs ≡ true
rising-adjacent [] h = refl
rising-adjacent (x ∷ []) h = refl
rising-adjacent (x ∷ y ∷ ys) h = rise-next x y ys (ltb-true x y (h 0 0 (omega arith))) ∙ rising-adjacent (y ∷ ys) (λ k d l. h (suc k) d (omega arith))

-- the members rise exactly where each is below the next
pub rising-answer : (xs : List ℕ) (r : Bool) → IsAllAdjacentAnswer (λ (x y : ℕ) (b : Bool). b ≡ ltb x y) xs r → r ≡ pairwise ltb xs
rising-answer xs true h = sym (rising-adjacent xs (λ k d l. rw (← add-one k) (sym (h k d (omega arith)))))
rising-answer xs false h = sym (pairwise_fails_at ltb xs h.0 (h.0 + 1) 0 (omega arith) h.1 (sym (h.2 0)))

-- ---- The list of combinations, piece after piece

module _ (m k : ℕ) (list : List ℕ) (low : 1 ≤ m) where
  -- What is left from combination k on begins with it.
  pub record Comes (x left : List ℕ) : Type 0 where
    pub below : k < length (combinations m list)
    pub is : get_or (combinations m list) k [] ≡ x
    pub left_is : left ≡ drop ((k + 1) * m) list

  next_start : k * m + m ≡ (k + 1) * m
  next_start = sym (ap (λ (x : ℕ). x * m) (add-one k) ∙ suc-mul k m)

  -- a piece that comes is the next combination
  pub comes : (rest x left : List ℕ) → rest ≡ drop (k * m) list → rest ≡ x ++ left → length x ≡ m → Comes x left
  comes rest x left e f g =
      let long : length (drop (k * m) list) ≡ length x + length left = ap length (sym e ∙ f) ∙ length-append x left in
      let reach : (k + 1) * m ≤ length list = omega (arith, long, g, length-drop (k * m) list, next_start) in
      let end : k + 1 ≤ length list / m = (le-div_iff_mul-le {k = m} {x = k + 1} {y = length list} (omega arith)).1 reach in
      let listed : k < length list / m = omega arith in
      record {
        below = omega (arith, listed, combination-count m list);
        is = combination-at m list k listed ∙ ap (take m) (sym e ∙ f) ∙ ap (λ (n : ℕ). take n (x ++ left)) (sym g) ∙ take-append_seam x left;
        left_is = sym (ap (λ (n : ℕ). drop n list) (sym next_start) ∙ sym (drop-drop m (k * m) list) ∙ ap (drop m) (sym e ∙ f) ∙ ap (λ (n : ℕ). drop n (x ++ left)) (sym g) ∙ drop-append_seam x left);
      }

  -- and none is left where too little is left for one
  pub none_comes : (rest : List ℕ) → rest ≡ drop (k * m) list → length rest < m → length (combinations m list) ≤ k
  none_comes rest e h = go (dec_lt k (length list / m))
    where
      go : Dec (k < length list / m) → length (combinations m list) ≤ k
      go (yes l) = absurd (omega (arith, combination-within m list k l, length-drop (k * m) list, ap length e))
      go (no l) = omega (arith, combination-count m list)
