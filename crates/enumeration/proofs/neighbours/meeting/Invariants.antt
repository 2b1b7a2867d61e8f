-- The bits below s are found.
use Rattle.std.proofs.Common.{◌≡◌, ◌&&◌, ℕ, ltb}
use Rattle.model.specs.LiveWords.{is_set}
use Rattle.combination.specs.Masks.{meets}
use Rattle.enumeration.proofs.neighbours.meeting.Given as goal

abbrev pub invariant-loop-s : goal.invariant-loop-s
invariant-loop-s l = (x : ℕ) → is_set l.found x ≡ (ltb x l.s && meets l.masks l.set x)
