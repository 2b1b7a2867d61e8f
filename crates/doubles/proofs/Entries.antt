-- Laws of the table by which doubles are found: how a tuple is entered.
-- From the laws of lists.
use mathlib.Core.Path.{◌≡◌, refl, sym, ◌∙◌}
use mathlib.Core.Logic.{◌⊎◌, inl, inr, ⊎_elim}
use mathlib.Core.List.{List}
use Prim.Native.Nat.{ℕ}
use native.Mathlib.Omega.{arith}
use lib.ListN.{get_or}
use Rattle.layout.specs.Setting.{Lists}
use Rattle.doubles.specs.Doubles.{Entered, FirstAlike}

pub entered-none : (x : ℕ) (table : List ℕ) → Entered x table table
entered-none x table = (refl, λ i. inl refl)

module _ (x : ℕ) (before between after : List ℕ) (first : Entered x before between) where
  -- one time after the other
  pub entered-both : Entered x between after → Entered x before after
  entered-both then =
      (then.0 ∙ first.0, λ i. ⊎_elim {C = (get_or after i 0 ≡ get_or before i 0) ⊎ (get_or after i 0 ≡ x)} (λ e. ⊎_elim (λ q. inl (e ∙ q)) (λ q. inr (e ∙ q)) (first.1 i)) (λ e. inr e) (then.1 i))

  -- what is found then was entered before
  pub alike-after : {L : Lists} {set r y : ℕ} → FirstAlike L set r x between y after → FirstAlike L set r x before y after
  alike-after {y = y} found =
      record {
        entered = entered-both found.entered;
        entry = λ l.
            let at = found.entry l in
            (at.0, omega (arith, at.1, first.0), ⊎_elim {C = get_or before at.0 0 ≡ y} (λ e. sym e ∙ at.2) (λ e. absurd (omega (arith, e, at.2, l))) (first.1 at.0));
        alike = found.alike;
      }
