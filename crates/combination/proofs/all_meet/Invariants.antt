-- The members from the next on decide.
use Rattle.std.proofs.Common.{◌≡◌, drop}
use Rattle.model.specs.Lists.{all}
use Rattle.combination.specs.Masks.{meets}
use Rattle.combination.proofs.all_meet.Given as goal

abbrev pub invariant-loop-r : goal.invariant-loop-r
invariant-loop-r l = all (meets l.masks l.set) (drop l.r-index l.members) ≡ all (meets l.masks l.set) l.members
