-- `without` clears the bit of the place, by the laws of a word's bits.
use Rattle.std.proofs.Common.{◌≡◌, ℕ, ◌-◌, ◌*◌, ◌%◌, ◌^◌, ◌<◌, Bool, false, not, ◌&&◌, refl, sym, ◌∙◌, ap}
use mathlib.Core.Bool.{and-false}
use lib.Pow.{pow-lt}
use borrow.Author.Tests.{eq-eqb}
use Rattle.model.specs.LiveWords.{is_set}
use Rattle.model.proofs.Bools.{and_left}
use Rattle.live.proofs.Bits.{is_set-and, is_set-not, is_set-pow, one_shl}
use Rattle.refuting.proofs.without.Goals as goal

-- a place's own bit is not in the others' mask
masked : (j : ℕ) → j < 64 → is_set (2 ^ 64 - 1 - 1 * 2 ^ j % 2 ^ 64) j ≡ false
masked j h = rw (one_shl j h) (is_set-not 64 (2 ^ j) j (pow-lt h) h ∙ ap not (is_set-pow j j ∙ eq-eqb j j refl))

pub returns : goal.returns
returns c =
    let a = c.args in
    let mask = 2 ^ 64 - 1 - 1 * 2 ^ a.j % 2 ^ 64 in
    record {
      gone = is_set-and a.left mask a.j ∙ ap (λ (b : Bool). is_set a.left a.j && b) (masked a.j c.requires) ∙ and-false (is_set a.left a.j);
      inside = λ i e. and_left (is_set a.left i) (is_set mask i) (sym (is_set-and a.left mask i) ∙ e);
    }
