-- Laws of what a change removes: of a tuple by its relation and index, choose looks at the one place that has its variable; and any is
-- never removed by a choice, nor removes anything. From the definition, and the laws of cells by places and of values that fit.
use mathlib.Core.Path.{◌≡◌, sym, ◌∙◌, ap}
use mathlib.Core.Bool.{Bool, true, false, not, ◌&&◌}
use mathlib.Core.List.{Memᴰ}
use Prim.Native.Nat.{ℕ, ◌+◌, ◌<◌}
use lib.Dec.{eqb}
use lib.ListN.{length, get_or}
use borrow.Author.Tests.{eq-eqb, ne_eqb, eqb-true, not-true}
use Rattle.model.specs.Lists.{any, pairwise}
use Rattle.model.specs.Network.{Network, size, total, first_id, scope_of, values_at}
use Rattle.model.specs.Agreement.{Cell, is_any, fit, cells_of}
use Rattle.model.specs.Request.{choose, removes}
use Rattle.model.specs.Fault.{different}
use Rattle.model.proofs.Bools.{and_left, and_right, not-both, false-intro}
use Rattle.model.proofs.Lists.{any_at}
use Rattle.model.proofs.Fault.{different-unique, Faultless}
use Rattle.model.proofs.Agreement.{fit-sym, fit-any, cells-none, cells-one, cell-unique, cells_of-at}

module _ (N : Network) (x v r i : ℕ) (h : i < size N r) where
  -- another value under variable x
  abbrev other : Cell → Bool
  other c = eqb c.0 x && not (fit c.1 v)

  -- a relation without the variable keeps its tuples
  pub choose-without : ((k : ℕ) → k < length (scope_of N r) → get_or (scope_of N r) k 0 ≡ x → ⊥) → removes N (choose x v) (first_id N r + i) ≡ false
  unfolding removes
  choose-without f =
      ap (any other) (cells_of-at N r i h)
      ∙ cells-none other (scope_of N r) (values_at N r i)
      (λ k l. ap (λ (b : Bool). b && not (fit (get_or (values_at N r i) k 0) v)) (ne_eqb (get_or (scope_of N r) k 0) x (f k l)))

  -- the variable stands at place k, and at no other
  module _ (k : ℕ) (widths : length (scope_of N r) ≡ length (values_at N r i)) (once : pairwise different (scope_of N r) ≡ true) (l : k < length (scope_of N r)) (e : get_or (scope_of N r) k 0 ≡ x) where
    elsewhere : (j : ℕ) → j < length (scope_of N r) → (j ≡ k → ⊥) → get_or (scope_of N r) j 0 ≡ x → ⊥
    elsewhere j m d q = d (different-unique (scope_of N r) j k once m l (q ∙ sym e))

    pub choose-at : removes N (choose x v) (first_id N r + i) ≡ not (fit (get_or (values_at N r i) k 0) v)
    unfolding removes
    choose-at =
        ap (any other) (cells_of-at N r i h)
        ∙ cells-one other (scope_of N r) (values_at N r i) k widths l
        (λ j m d. ap (λ (b : Bool). b && not (fit (get_or (values_at N r i) j 0) v)) (ne_eqb (get_or (scope_of N r) j 0) x (elsewhere j m d)))
        ∙ ap (λ (b : Bool). b && not (fit (get_or (values_at N r i) k 0) v)) (eq-eqb (get_or (scope_of N r) k 0) x e)

-- ---- Any

-- choosing any removes nothing
pub choose-any : (N : Network) (x v g : ℕ) → is_any v ≡ true → removes N (choose x v) g ≡ false
unfolding removes
choose-any N x v g e =
    false-intro (any (λ (c : Cell). eqb c.0 x && not (fit c.1 v)) (cells_of N g))
    (λ m.
    let k = any_at (λ (c : Cell). eqb c.0 x && not (fit c.1 v)) (cells_of N g) m in
    let c = k.0 in
    not-both (fit-sym c.1 v ∙ fit-any v c.1 e) (not-true (fit c.1 v) (and_right (eqb c.0 x) (not (fit c.1 v)) k.2)))

-- a tuple with any under the variable is not removed
module _ (N : Network) (sound : Faultless N) (x v g a : ℕ) (below : g < total N) (e : is_any a ≡ true) (m : Memᴰ (x, a) (cells_of N g)) where
  pub choose-spares : removes N (choose x v) g ≡ false
  unfolding removes
  choose-spares =
      false-intro (any (λ (c : Cell). eqb c.0 x && not (fit c.1 v)) (cells_of N g))
      (λ q.
      let k = any_at (λ (c : Cell). eqb c.0 x && not (fit c.1 v)) (cells_of N g) q in
      let c = k.0 in
      let same = cell-unique N sound g below k.1 m (eqb-true c.0 x (and_left (eqb c.0 x) (not (fit c.1 v)) k.2)) in
      not-both (ap (λ (u : ℕ). fit u v) same ∙ fit-any a v e) (not-true (fit c.1 v) (and_right (eqb c.0 x) (not (fit c.1 v)) k.2)))
