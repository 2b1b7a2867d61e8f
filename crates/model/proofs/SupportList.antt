-- Laws of the support list by pairs of combination and member: where each tuple's numbers stand, and that a list with all of
-- them is the support list. From the laws of lists laid end to end.
use mathlib.Core.Path.{◌≡◌, refl, sym, ◌∙◌, ap, subst}
use mathlib.Core.List.{List, [], ◌++◌, map}
use Prim.Native.Nat.{ℕ, zero, suc, ◌+◌, ◌*◌, ◌/◌, ◌≤◌, ◌<◌}
use native.Mathlib.Nat.{add-zero, zero-add, add-suc, suc-add, zero-mul, add-mul, mul-le-mul_right, div-eq_of_lt-le}
use native.Mathlib.Omega.{arith}
use lib.ListN.{length, get_or, take, drop}
use lib.Seq.{take-take, take-add, take-length, drop-drop, drop-cons}
use Rattle.model.specs.Lists.{from, sum, each}
use Rattle.model.specs.TupleSet.{TupleSet}
use Rattle.model.specs.Network.{Network, size, first_id, ids_of}
use Rattle.model.specs.Combination.{Combination, combinations, pair_combination, pair_member}
use Rattle.model.specs.Support.{first_support}
use Rattle.model.specs.Consistency.{support_list, needed, support_start}
use Rattle.model.proofs.Lists.{from-mem, length_from, map-places, from-append, each_append, each-cong, each_map, sum-take-suc, sum-take-le}
use Rattle.model.proofs.Combination.{pair-length}
use Rattle.model.proofs.Consistency.{each-length, sum-times, sum_same, support_list-length}
use Rattle.model.proofs.Support.{first_support-length}

-- ---- Lists laid end to end

-- a list that holds the piece of each number of a range, one behind the other, begins with all of them
each_from : {B : Type 0} (f : ℕ → List B) (len : ℕ → ℕ) (i n : ℕ) (list : List B) → ((k : ℕ) → k < n → take (len (i + k)) (drop (sum (map len (from i k))) list) ≡ f (i + k)) → take (sum (map len (from i n))) list ≡ each f (from i n)
each_from f len i zero list h = refl
each_from {B} f len i (suc n) list h =
    let a = len i in
    let first : take a list ≡ f i = subst (λ (x : ℕ). take (len x) list ≡ f x) (add-zero i) (h 0 (omega arith)) in
    take-add a (sum (map len (from (suc i) n))) list
    ∙ ap (λ (t : List B). t ++ take (sum (map len (from (suc i) n))) (drop a list)) first
    ∙ ap (λ (t : List B). f i ++ t)
    (each_from f len (suc i) n (drop a list)
    (λ k b.
    ap (take (len (suc i + k))) (drop-drop (sum (map len (from (suc i) k))) a list)
    ∙ subst (λ (x : ℕ). take (len x) (drop (a + sum (map len (from (suc i) k))) list) ≡ f x) (add-suc i k ∙ sym (suc-add i k)) (h (suc k) (omega arith))))

-- ---- The support list by pairs

-- f of each element of a part of a list, by places
each_part : {B : Type 0} (f : ℕ → List B) (list : List ℕ) (m i : ℕ) → i + m ≤ length list → each f (take m (drop i list)) ≡ each (λ (p : ℕ). f (get_or list p 0)) (from i m)
each_part f list zero i h = refl
each_part {B} f list (suc m) i h =
    ap (λ (t : List ℕ). each f (take (suc m) t)) (drop-cons list i 0 (omega arith))
    ∙ ap (λ (t : List B). f (get_or list i 0) ++ t) (each_part f list m (suc i) (omega arith))

-- n ranges of m numbers, one behind the other
each-blocks : {B : Type 0} (f : ℕ → List B) (m i n : ℕ) → each (λ (k : ℕ). each f (from (k * m) m)) (from i n) ≡ each f (from (i * m) (n * m))
each-blocks f m i zero = let e : 0 ≡ 0 * m = omega arith in ap (λ (k : ℕ). each f (from (i * m) k)) e
each-blocks {B} f m i (suc n) =
    let e : m + n * m ≡ suc n * m = omega arith in
    let s : i * m + m ≡ suc i * m = omega arith in
    ap (λ (t : List B). each f (from (i * m) m) ++ t) (each-blocks f m (suc i) n)
    ∙ ap (λ (k : ℕ). each f (from (i * m) m) ++ each f (from k (n * m))) (sym s)
    ∙ sym (each_append f (from (i * m) m) (from (i * m + m) (n * m)))
    ∙ ap (each f) (sym (from-append (i * m) m (n * m)))
    ∙ ap (λ (k : ℕ). each f (from (i * m) k)) e

module _ (N : Network) (S : TupleSet) (m : ℕ) (list : List ℕ) where
  -- the numbers of pair p
  pub pair_supports : ℕ → List ℕ
  pair_supports p = each (first_support N S (pair_combination m list p)) (ids_of N (pair_member list p))

  block : (k : ℕ) → 0 < m → k * m + m ≤ length list → each (λ (r : ℕ). each (first_support N S (take m (drop (k * m) list))) (ids_of N r)) (take m (drop (k * m) list)) ≡ each pair_supports (from (k * m) m)
  unfolding pair_supports
  block k pos h =
      each_part (λ (r : ℕ). each (first_support N S (take m (drop (k * m) list))) (ids_of N r)) list m (k * m) h
      ∙ each-cong (λ (p : ℕ). each (first_support N S (take m (drop (k * m) list))) (ids_of N (get_or list p 0))) pair_supports (from (k * m) m)
      (λ p mem. ap (λ (j : ℕ). each (first_support N S (take m (drop (j * m) list))) (ids_of N (get_or list p 0))) (sym (same p (from-mem (k * m) m p mem))))
    where
      same : (p : ℕ) → (k * m ≤ p) × (p < k * m + m) → p / m ≡ k
      same p b = div-eq_of_lt-le m b.0 (omega arith)

  -- the support list is that of the pairs, one behind the other
  support_list-pairs : 0 < m → length list / m * m ≡ length list → support_list N (combinations m list) S ≡ each pair_supports (from 0 (length list))
  unfolding support_list combinations
  support_list-pairs pos whole =
      let q = length list / m in
      each_map (λ (c : Combination). each (λ (r : ℕ). each (first_support N S c) (ids_of N r)) c) (λ (k : ℕ). take m (drop (k * m) list)) (from 0 q)
      ∙ each-cong (λ (k : ℕ). each (λ (r : ℕ). each (first_support N S (take m (drop (k * m) list))) (ids_of N r)) (take m (drop (k * m) list))) (λ (k : ℕ). each pair_supports (from (k * m) m)) (from 0 q)
      (λ k mem. block k pos (inside k (from-mem 0 q k mem).1))
      ∙ each-blocks pair_supports m 0 q
      ∙ ap (λ (k : ℕ). each pair_supports (from k (q * m))) (zero-mul m)
      ∙ ap (λ (n : ℕ). each pair_supports (from 0 n)) whole
    where
      inside : (k : ℕ) → k < 0 + length list / m → k * m + m ≤ length list
      inside k h =
          let l : suc k ≤ length list / m = omega arith in
          omega (arith, mul-le-mul_right m l, whole)

  -- how many numbers pair p has
  pair_length : ℕ → ℕ
  pair_length p = size N (pair_member list p) * m

  starts-places : (p : ℕ) → p ≤ length list → map (λ (k : ℕ). size N (get_or list k 0)) (from 0 p) ≡ map (size N) (take p list)
  starts-places p h = map-places (size N) list p 0 (omega arith)

  -- where the pairs' numbers begin
  support_start-sum : (p : ℕ) → p ≤ length list → sum (map pair_length (from 0 p)) ≡ support_start N m list p
  unfolding support_start pair_length
  support_start-sum p h = sum-times (λ (k : ℕ). size N (get_or list k 0)) m (from 0 p) ∙ ap (λ (xs : List ℕ). sum xs * m) (starts-places p h)

  pub pair_combination-length : (p : ℕ) → 0 < m → length list / m * m ≡ length list → p < length list → length (pair_combination m list p) ≡ m
  pair_combination-length p pos whole h = pair-length m list pos whole p h

  -- how many tuples' numbers lie before the one at i
  tuples-before : (f i : ℕ) → sum (map (λ (g : ℕ). m) (from f i)) ≡ i * m
  tuples-before f i = sum_same m (from f i) ∙ ap (λ (n : ℕ). n * m) (length_from f i)

  pair_supports-length : (p : ℕ) → 0 < m → length list / m * m ≡ length list → p < length list → length (pair_supports p) ≡ pair_length p
  unfolding pair_supports pair_length
  pair_supports-length p pos whole h =
      each-length (first_support N S (pair_combination m list p)) (λ (g : ℕ). m) (ids_of N (pair_member list p))
      (λ g _. first_support-length N S (pair_combination m list p) g ∙ pair_combination-length p pos whole h)
      ∙ tuples-before (first_id N (pair_member list p)) (size N (pair_member list p))

  -- the needed length, by pairs
  pub needed-pairs : 0 < m → length list / m * m ≡ length list → needed N (combinations m list) ≡ support_start N m list (length list)
  needed-pairs pos whole =
      sym (support_list-length N (combinations m list) S)
      ∙ ap length (support_list-pairs pos whole)
      ∙ each-length pair_supports pair_length (from 0 (length list)) (λ p mem. pair_supports-length p pos whole (omega (arith, from-mem 0 (length list) p mem)))
      ∙ support_start-sum (length list) (omega arith)

  -- pair p's numbers are its tuples' first supports
  Holds : List ℕ → ℕ → Type 0
  Holds numbers p = (i : ℕ) → i < size N (pair_member list p) → take m (drop (support_start N m list p + i * m) numbers) ≡ first_support N S (pair_combination m list p) (first_id N (pair_member list p) + i)

  pair-piece : (numbers : List ℕ) (p : ℕ) → Holds numbers p → take (pair_length p) (drop (support_start N m list p) numbers) ≡ pair_supports p
  unfolding Holds pair_supports pair_length
  pair-piece numbers p h =
      let f = first_id N (pair_member list p) in
      let n = size N (pair_member list p) in
      let rest = drop (support_start N m list p) numbers in
      ap (λ (k : ℕ). take k rest) (sym (tuples-before f n))
      ∙ each_from (first_support N S (pair_combination m list p)) (λ (g : ℕ). m) f n rest
      (λ i b.
      ap (λ (k : ℕ). take m (drop k rest)) (tuples-before f i)
      ∙ ap (take m) (drop-drop (i * m) (support_start N m list p) numbers)
      ∙ h i b)

  -- a list that holds each tuple's first support in its place begins with the support list
  pub support_list-ext : (numbers : List ℕ) → 0 < m → length list / m * m ≡ length list → ((p i : ℕ) → p < length list → i < size N (pair_member list p) → take m (drop (support_start N m list p + i * m) numbers) ≡ first_support N S (pair_combination m list p) (first_id N (pair_member list p) + i)) → take (needed N (combinations m list)) numbers ≡ support_list N (combinations m list) S
  unfolding Holds
  support_list-ext numbers pos whole h =
      ap (λ (k : ℕ). take k numbers) (needed-pairs pos whole ∙ sym (support_start-sum (length list) (omega arith)))
      ∙ each_from pair_supports pair_length 0 (length list) numbers
      (λ p b. subst (λ (x : ℕ). take (pair_length x) (drop (sum (map pair_length (from 0 p))) numbers) ≡ pair_supports x) (sym (zero-add p))
      (ap (λ (k : ℕ). take (pair_length p) (drop k numbers)) (support_start-sum p (omega arith)) ∙ pair-piece numbers p (λ i k. h p i b k)))
      ∙ sym (support_list-pairs pos whole)

-- ---- Where the pairs' numbers begin

module _ (N : Network) (m : ℕ) (list : List ℕ) where
  -- where the next pair's numbers begin
  pub support_start-suc : (p : ℕ) → p < length list → support_start N m list (suc p) ≡ support_start N m list p + size N (get_or list p 0) * m
  unfolding support_start
  support_start-suc p h =
      ap (λ (n : ℕ). n * m) (sum-take-suc (size N) 0 list p h)
      ∙ add-mul (sum (map (size N) (take p list))) (size N (get_or list p 0)) m

  -- a later pair's numbers begin no earlier
  pub support_start-mono : (q p : ℕ) → q ≤ p → support_start N m list q ≤ support_start N m list p
  unfolding support_start
  support_start-mono q p h =
      let e = take-take q p list h in
      mul-le-mul_right m (subst (λ (xs : List ℕ). sum (map (size N) xs) ≤ sum (map (size N) (take p list))) e (sum-take-le (size N) (take p list) q))

  -- a pair's numbers lie within the needed length
  pub support_start-within : 0 < m → length list / m * m ≡ length list → (p : ℕ) → p < length list → support_start N m list p + size N (get_or list p 0) * m ≤ needed N (combinations m list)
  unfolding support_start
  support_start-within pos whole p h =
      let l = mul-le-mul_right m (sum-take-le (size N) list (suc p)) in
      let e = ap (λ (xs : List ℕ). sum (map (size N) xs) * m) (take-length list) in
      omega (arith, support_start-suc p h, needed-pairs N [] m list pos whole)
