-- Laws of R(*,m)C: the rule read off and shown, that it is monotone, and the test of consistency.
use mathlib.Core.Path.{◌≡◌, refl, sym, ◌∙◌, ap, subst}
use mathlib.Core.Bool.{Bool, true, not, ◌||◌}
use mathlib.Core.List.Memᴰ
use mathlib.Core.List.{List, [], ◌∷◌, map, Memᴰ}
use mathlib.Core.Logic.{◌↔◌}
use Prim.Native.Nat.{ℕ, ◌+◌, ◌*◌, ◌/◌, ◌≤◌, ◌<◌}
use native.Mathlib.Omega.{arith}
use lib.ListN.{length, length-append}
use Rattle.model.specs.Lists.{from, sum, any, elem, each}
use Rattle.model.specs.TupleSet.{TupleSet, has, count, without, Inside, Consistent, Largest}
use Rattle.model.specs.Network.{Network, size, total, first_id, ids_of, relation_of}
use Rattle.model.specs.Combination.{Combination, combinations, pair_combination, pair_member}
use Rattle.model.specs.Support.{candidates, is_support, first_support}
use Rattle.model.specs.Consistency.{supported, is_consistent, filtered, support_list, needed}
use Rattle.model.proofs.Bools.{iff-eq, implies-intro, implies-elim}
use Rattle.model.proofs.Lists.{here, all-at, all-intro, any_at, any-intro, elem_mem, mem-elem, mem-from, length_from}
use Rattle.model.proofs.TupleSet.{Monotone, has-below, closure-length, closure-count, closure-largest, largest-unique, closure-mono, closure-closure, closure-of-consistent, closure-without, closure-keeps}
use Rattle.model.proofs.Network.{relation_of-ids, ids-relation_of}
use Rattle.model.proofs.Combination.{pair_of, pair-listed, pair-member}
use Rattle.model.proofs.Support.{Supported, is_support-mono, first_support-length}

module _ (N : Network) (cs : List Combination) where
  -- in combination c tuple g has a support, if c holds its relation
  abbrev inside : TupleSet → ℕ → Combination → Bool
  inside S g c = not (elem (relation_of N g) c) || any (is_support N S g) (candidates N c)

  pub supported-at : (S : TupleSet) (g : ℕ) (c : Combination) → supported N cs S g ≡ true → Memᴰ c cs → Memᴰ (relation_of N g) c → Supported N S c g
  unfolding supported
  supported-at S g c e m n =
      any_at (is_support N S g) (candidates N c)
      (implies-elim (elem (relation_of N g) c) (any (is_support N S g) (candidates N c)) (all-at (inside S g) cs e m) (mem-elem c n))

  pub supported-intro : (S : TupleSet) (g : ℕ) → ((c : Combination) → Memᴰ c cs → Memᴰ (relation_of N g) c → Supported N S c g) → supported N cs S g ≡ true
  unfolding supported
  supported-intro S g f =
      all-intro (inside S g) cs
      (λ c m. implies-intro (elem (relation_of N g) c) (any (is_support N S g) (candidates N c))
      (λ e. let k = f c m (elem_mem (relation_of N g) c e) in any-intro (is_support N S g) (candidates N c) k.1 k.2))

  pub supported-mono : Monotone (supported N cs)
  supported-mono S T h g e =
      supported-intro T g (λ c m n. let k = supported-at S g c e m n in (k.0, k.1, is_support-mono N S T h g k.0 k.2))

  -- the test is the meaning
  pub is_consistent-iff : (S : TupleSet) → (is_consistent N cs S ≡ true) ↔ Consistent (supported N cs) S
  unfolding is_consistent
  is_consistent-iff S = (
    λ e g h. implies-elim (has S g) (supported N cs S g)
        (all-at (λ (g : ℕ). not (has S g) || supported N cs S g) (from 0 (length S)) e (mem-from 0 (length S) g (omega arith) (omega (arith, has-below S g h))))
        h,
    λ f. all-intro (λ (g : ℕ). not (has S g) || supported N cs S g) (from 0 (length S)) (λ g m. implies-intro (has S g) (supported N cs S g) (f g)),
  )

  -- ---- What filtering leaves

  pub filtered-length : (S : TupleSet) → length (filtered N cs S) ≡ length S
  unfolding filtered
  filtered-length S = closure-length (supported N cs) S

  pub filtered-count : (S : TupleSet) → count (filtered N cs S) ≤ count S
  unfolding filtered
  filtered-count S = closure-count (supported N cs) S

  pub filtered-largest : (S : TupleSet) → Largest (supported N cs) S (filtered N cs S)
  unfolding filtered
  filtered-largest S = closure-largest (supported N cs) supported-mono S

  -- whatever the order of work, the largest consistent set is this one
  pub filtered-unique : (S T : TupleSet) → length T ≡ length S → Largest (supported N cs) S T → T ≡ filtered N cs S
  unfolding filtered
  filtered-unique S T l m = largest-unique (supported N cs) supported-mono S T l m

  pub filtered-mono : (S T : TupleSet) → Inside S T → Inside (filtered N cs S) (filtered N cs T)
  unfolding filtered
  filtered-mono S T h = closure-mono (supported N cs) supported-mono S T h

  -- filtering twice changes nothing the second time
  pub filtered-filtered : (S : TupleSet) → filtered N cs (filtered N cs S) ≡ filtered N cs S
  unfolding filtered
  filtered-filtered S = closure-closure (supported N cs) supported-mono S

  pub filtered-consistent : (S : TupleSet) → Consistent (supported N cs) S → filtered N cs S ≡ S
  unfolding filtered
  filtered-consistent S c = closure-of-consistent (supported N cs) supported-mono S c

  -- to filter, remove and filter again is to remove and filter once
  pub filtered-without : (t : ℕ → Bool) (S : TupleSet) → filtered N cs (without t (filtered N cs S)) ≡ filtered N cs (without t S)
  unfolding filtered
  filtered-without t S = closure-without (supported N cs) supported-mono t S

  -- tuples that are supported whenever all of them live are kept
  pub filtered-keeps : (K : ℕ → Type 0) → ((X : TupleSet) → ((g : ℕ) → K g → has X g ≡ true) → (g : ℕ) → K g → supported N cs X g ≡ true) → (S : TupleSet) → ((g : ℕ) → K g → has S g ≡ true) → (g : ℕ) → K g → has (filtered N cs S) g ≡ true
  unfolding filtered
  filtered-keeps K stay S = closure-keeps (supported N cs) K stay S

  -- a relation in no combination keeps its tuples
  pub filtered-alone : (S : TupleSet) (g : ℕ) → ((c : Combination) → Memᴰ c cs → Memᴰ (relation_of N g) c → ⊥) → has (filtered N cs S) g ≡ has S g
  filtered-alone S g alone =
      iff-eq (has (filtered N cs S) g) (has S g) ((filtered-largest S).inside g)
      (λ e. filtered-keeps (λ h. h ≡ g) (λ X lives h q. supported-intro X h (λ c m n. absurd (alone c m (subst (λ (x : ℕ). Memᴰ (relation_of N x) c) q n)))) S (λ h q. ap (has S) q ∙ e) g refl)

-- ---- Consistency by pairs

-- every live tuple of each pair's member has a support in the pair's combination
pub is_consistent-pairs : (N : Network) (m : ℕ) (list : List ℕ) (S : TupleSet) → 0 < m → length list / m * m ≡ length list → length S ≡ total N → (is_consistent N (combinations m list) S ≡ true) ↔ ((p g : ℕ) → p < length list → Memᴰ g (ids_of N (pair_member list p)) → has S g ≡ true → Supported N S (pair_combination m list p) g)
is_consistent-pairs N m list S pos whole long = (
  λ e p g h n live. supported-at N (combinations m list) S g (pair_combination m list p)
      ((is_consistent-iff N (combinations m list) S).0 e g live)
      (pair-listed m list pos whole p h)
      (Memᴰ.cast (relation_of-ids N (pair_member list p) n) (pair-member m list pos whole p h)),
  λ f. (is_consistent-iff N (combinations m list) S).1
      (λ g live.
      supported-intro N (combinations m list) S g
      (λ c n k.
      let q = pair_of m list pos n k in
      let i = ids-relation_of N g (omega (arith, has-below S g live)) in
      subst (λ (d : Combination). Supported N S d g) q.2
      (f q.0 g q.1 (subst (λ (r : ℕ). Memᴰ g (ids_of N r)) (sym q.3) i.1) live))),
)

-- ---- The support list

module _ {A : Type 0} where
  pub each-length : (f : A → List ℕ) (n : A → ℕ) (xs : List A) → ((x : A) → Memᴰ x xs → length (f x) ≡ n x) → length (each f xs) ≡ sum (map n xs)
  each-length f n [] h = refl
  each-length f n (x ∷ xs) h =
      length-append (f x) (each f xs) ∙ ap (λ (k : ℕ). k + length (each f xs)) (h x here) ∙ ap (λ (k : ℕ). n x + k) (each-length f n xs (λ y m. h y (Memᴰ.tail m)))

pub sum-times : (f : ℕ → ℕ) (k : ℕ) (xs : List ℕ) → sum (map (λ (x : ℕ). f x * k) xs) ≡ sum (map f xs) * k
sum-times f k [] = omega arith
sum-times f k (x ∷ xs) = omega (arith, sum-times f k xs)

pub sum_same : (k : ℕ) (xs : List ℕ) → sum (map (λ (x : ℕ). k) xs) ≡ length xs * k
sum_same k [] = omega arith
sum_same k (x ∷ xs) = omega (arith, sum_same k xs)

-- the support list has the needed length
pub support_list-length : (N : Network) (cs : List Combination) (S : TupleSet) → length (support_list N cs S) ≡ needed N cs
unfolding support_list needed
support_list-length N cs S =
    each-length (λ (c : Combination). each (λ (r : ℕ). each (first_support N S c) (ids_of N r)) c) (λ (c : Combination). sum (map (size N) c) * length c) cs
    (λ c _.
    each-length (λ (r : ℕ). each (first_support N S c) (ids_of N r)) (λ (r : ℕ). size N r * length c) c
    (λ r _.
    each-length (first_support N S c) (λ (g : ℕ). length c) (ids_of N r) (λ g _. first_support-length N S c g)
    ∙ sum_same (length c) (ids_of N r)
    ∙ ap (λ (n : ℕ). n * length c) (length_from (first_id N r) (size N r)))
    ∙ sum-times (size N) (length c) c)
