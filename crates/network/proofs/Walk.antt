-- Walks of a list from the front: how what is left to test from place i on goes with the test at place i.
-- From the definitions of `all` and `pairwise`.
use mathlib.Core.Path.{◌≡◌, ◌∙◌, ap, refl, sym}
use mathlib.Core.Bool.{Bool, true, false, ◌&&◌, not}
use mathlib.Core.List.{List, [], ◌∷◌, map}
use Prim.Native.Nat.{ℕ, ◌+◌, ◌≤◌, ◌<◌}
use native.Mathlib.Numerals.{add-one}
use Rattle.std.specs.List.{list_any, list_all}
use Rattle.std.proofs.lemmas.List.Folds.{list_all-map}
use Rattle.std.proofs.lemmas.Bool.Decides.{nat_tests}
use native.Mathlib.Omega.{arith}
use Rattle.model.specs.Limits.{max_width}
use Rattle.model.specs.Network.{variables_in, no_relation}
use Rattle.model.specs.Fault.{different, within, proper_width}
use Rattle.layout.specs.declared.Shape.{Shape}
use Rattle.layout.specs.Shape.{relations_of}
use Rattle.layout.proofs.Relations.{relation-count, relation-at}
use Rattle.layout.proofs.StdLists.{all-list_all}
use lib.Dec.{eqb}
use Rattle.std.proofs.lemmas.List.{get_or-take}
use lib.ListN.{get_or-map, length, take, length-map, get_or, drop, drop_of_length-le}
use lib.Seq.{drop-cons, length-take-le, ext_get_or}
use Rattle.model.specs.Lists.{all, pairwise}

module _ {ℓ} {A : Type ℓ} (p : A → Bool) (xs : List A) (i : ℕ) where
  pub all-passes : (d : A) → i < length xs → p (get_or xs i d) ≡ true → all p (drop i xs) ≡ all p (drop (i + 1) xs)
  all-passes d h e = rw (drop-cons xs i d h, e, add-one)

  pub all-fails : (d : A) → i < length xs → p (get_or xs i d) ≡ false → all p (drop i xs) ≡ false
  all-fails d h e = rw (drop-cons xs i d h, e)

  pub all-ends : length xs ≤ i → all p (drop i xs) ≡ true
  all-ends h = rw (drop_of_length-le xs h)

module _ {ℓ} {A : Type ℓ} (q : A → A → Bool) (xs : List A) (i : ℕ) (d : A) (h : i < length xs) where
  pairwise_cons : pairwise q (drop i xs) ≡ (all (q (get_or xs i d)) (drop (i + 1) xs) && pairwise q (drop (i + 1) xs))
  pairwise_cons = rw (drop-cons xs i d h, add-one)

  pub pairwise-passes : all (q (get_or xs i d)) (drop (i + 1) xs) ≡ true → pairwise q (drop i xs) ≡ pairwise q (drop (i + 1) xs)
  pairwise-passes e = pairwise_cons ∙ ap (λ (b : Bool). b && pairwise q (drop (i + 1) xs)) e

  pub pairwise-fails : all (q (get_or xs i d)) (drop (i + 1) xs) ≡ false → pairwise q (drop i xs) ≡ false
  pairwise-fails e = pairwise_cons ∙ ap (λ (b : Bool). b && pairwise q (drop (i + 1) xs)) e

-- ---- The tests of the code

-- no element is x
pub all-different : (x : ℕ) (xs : List ℕ) → all (different x) xs ≡ not (list_any (λ (y : ℕ). eqb y x) xs)
all-different x [] = refl
all-different x (y ∷ xs) = grind (arith, nat_tests, all-different x xs)

-- the widths of the shape's relations
widths-taken : (S : Shape) → S.count ≤ length S.widths → map variables_in (relations_of S) ≡ take S.count S.widths
widths-taken S h =
    ext_get_or 0 (map variables_in (relations_of S)) (take S.count S.widths)
    (length-map (relations_of S) variables_in ∙ relation-count S ∙ sym (length-take-le S.count S.widths h))
    (λ k l. let b : k < S.count = omega (arith, length-map (relations_of S) variables_in, relation-count S) in
    get_or-map variables_in (relations_of S) k no_relation
    ∙ ap variables_in (relation-at S k b)
    ∙ sym (get_or-take S.count S.widths k 0 b))

pub widths-proper : (S : Shape) → S.count ≤ length S.widths → all proper_width (relations_of S) ≡ list_all (within 1 max_width) (take S.count S.widths)
widths-proper S h =
    all-list_all proper_width (relations_of S)
    ∙ sym (list_all-map (within 1 max_width) variables_in (relations_of S))
    ∙ ap (list_all (within 1 max_width)) (widths-taken S h)
