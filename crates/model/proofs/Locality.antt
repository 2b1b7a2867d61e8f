-- Filtering reaches only the relations that a chain of combinations joins to a removed tuple.
use mathlib.Core.Path.{◌≡◌, refl, ap}
use mathlib.Core.Bool.{Bool, true, false, not}
use mathlib.Core.List.{List}
use Prim.Native.Nat.{ℕ}
use Rattle.model.specs.TupleSet.{TupleSet, has, without, Consistent}
use Rattle.model.specs.Network.{Network, relation_of}
use Rattle.model.specs.Combination.{Combination, Chain, stop, link}
use Rattle.model.specs.Consistency.{supported, filtered}
use Rattle.model.proofs.Bools.{iff-eq}
use Rattle.model.proofs.Lists.{all-at, all-intro}
use Rattle.model.proofs.TupleSet.{restrict-intro, restrict-inside}
use Rattle.model.proofs.Support.{is_support-intro, is_support-self, is_support-live, is_support-agree, candidates-member}
use Rattle.model.proofs.Consistency.{supported-at, supported-intro, filtered-largest, filtered-keeps}

module _ (N : Network) (cs : List Combination) (S : TupleSet) (consistent : Consistent (supported N cs) S) (t : ℕ → Bool) where
  -- no chain leads from relation r to the relation of a removed tuple of S
  abbrev pub Far : ℕ → Type 0
  Far r = (h : ℕ) → has S h ≡ true → t h ≡ true → Chain cs r (relation_of N h) → ⊥

  Kept : ℕ → Type 0
  Kept g = (has S g ≡ true) × Far (relation_of N g)

  -- the tuples of a support lie one link away
  stay : (X : TupleSet) → ((g : ℕ) → Kept g → has X g ≡ true) → (g : ℕ) → Kept g → supported N cs X g ≡ true
  unfolding Kept
  stay X lives g k =
      supported-intro N cs X g
      (λ c m n. let u = supported-at N cs S g c (consistent g k.0) m n in (
        u.0,
        u.1,
        is_support-intro N X g u.0 (is_support-self N S g u.0 u.2)
            (all-intro (has X) u.0
            (λ x mx. lives x (all-at (has S) u.0 (is_support-live N S g u.0 u.2) mx, λ h hs ht ch. k.1 h hs ht (link c m n (candidates-member N c u.1 mx) ch))))
            (is_support-agree N S g u.0 u.2),
      ))

  unremoved : (h : ℕ) → Kept h → (x : Bool) → t h ≡ x → not (t h) ≡ true
  unfolding Kept
  unremoved h k true e = absurd (k.1 h k.0 e stop)
  unremoved h k false e = ap not e

  -- a relation that is far from every removed tuple keeps its tuples
  pub filtered-far : (g : ℕ) → Far (relation_of N g) → has (filtered N cs (without t S)) g ≡ has S g
  unfolding Kept
  filtered-far g far =
      iff-eq (has (filtered N cs (without t S)) g) (has S g)
      (λ e. restrict-inside (λ h. not (t h)) S g ((filtered-largest N cs (without t S)).inside g e))
      (λ e. filtered-keeps N cs Kept stay (without t S) (λ h k. restrict-intro (λ h. not (t h)) S h k.0 (unremoved h k (t h) refl)) g (e, far))
