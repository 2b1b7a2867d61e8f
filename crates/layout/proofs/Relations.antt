-- Laws of the relations that a shape gives: how many there are, and which record stands at each number.
-- From the definition of `relations_of`.
use mathlib.Core.Path.{◌≡◌, ◌∙◌, ap}
use mathlib.Core.List.{map}
use Prim.Native.Nat.{ℕ, zero, suc, ◌+◌, ◌≤◌, ◌<◌}
use native.Mathlib.Nat.{zero-add, le_of_suc-le-suc}
use native.Mathlib.Numerals.{add-one}
use native.Mathlib.Omega.{arith}
use lib.ListN.{length, get_or, length-map}
use Rattle.model.specs.declared.Relation.{Relation}
use Rattle.model.specs.Lists.{from, sum}
use Rattle.model.specs.Network.{no_relation, before}
use Rattle.model.proofs.Lists.{length_from, get_d-map-from}
use Rattle.model.proofs.Network.{before-suc, before-past}
use Rattle.layout.specs.declared.Shape.{Shape}
use Rattle.layout.specs.Shape.{record_at, relations_of}

get_d-from : (i n k d : ℕ) → k < n → get_or (from i n) k d ≡ i + k
get_d-from i zero k d h = absurd (omega arith)
get_d-from i (suc n) zero d h = omega arith
get_d-from i (suc n) (suc k) d h = let e = get_d-from (suc i) n k d (le_of_suc-le-suc h) in omega arith

module _ (S : Shape) where
  pub relation-count : length (relations_of S) ≡ S.count
  unfolding relations_of
  relation-count = length-map (from 0 S.count) (record_at S) ∙ length_from 0 S.count

  pub relation-at : (r : ℕ) → r < S.count → get_or (relations_of S) r no_relation ≡ record_at S r
  unfolding relations_of
  relation-at r h = get_d-map-from (record_at S) 0 S.count r no_relation h ∙ ap (record_at S) (zero-add r)

  pub below-count : (r : ℕ) → r < S.count → r < length (relations_of S)
  below-count r h = rw relation-count h

  -- where the next relation begins
  pub before-next : (f : Relation → ℕ) (r : ℕ) → r < S.count → before f (relations_of S) (r + 1) ≡ before f (relations_of S) r + f (record_at S r)
  before-next f r h =
      rw add-one
      (before-suc f (relations_of S) r (below-count r h) ∙ ap (λ (R : Relation). before f (relations_of S) r + f R) (relation-at r h))

  -- past the last relation: the total
  pub before-end : (f : Relation → ℕ) (r : ℕ) → S.count ≤ r → before f (relations_of S) r ≡ sum (map f (relations_of S))
  before-end f r h = before-past f (relations_of S) r (rw relation-count h)

  -- the relations' numbers
  pub number-count : length (from 0 (length (relations_of S))) ≡ S.count
  number-count = length_from 0 (length (relations_of S)) ∙ relation-count

  pub number_at : (r : ℕ) → r < S.count → get_or (from 0 (length (relations_of S))) r 0 ≡ r
  number_at r h = get_d-from 0 (length (relations_of S)) r 0 (below-count r h) ∙ zero-add r
