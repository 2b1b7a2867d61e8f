-- The members from the next on are still to be taken in.
use Rattle.std.proofs.Common.{◌≡◌, drop}
use Rattle.combination.specs.Masks.{absorbed}
use Rattle.combination.proofs.absorb.Given as goal

abbrev pub invariant-loop-r : goal.invariant-loop-r
invariant-loop-r l = absorbed l.masks (drop l.r-index l.members) l.grown ≡ absorbed l.masks l.members l.set
