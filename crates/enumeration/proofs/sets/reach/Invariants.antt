-- The sets from place j on are still to be taken in.
use Rattle.std.proofs.Common.{◌≡◌, take, drop}
use Rattle.enumeration.specs.Reach.{reach}
use Rattle.enumeration.proofs.sets.reach.Given as goal

abbrev pub invariant-loop-j : goal.invariant-loop-j
invariant-loop-j l = reach l.r l.all (drop l.j (take l.k l.sets)) ≡ reach l.r l.own (take l.k l.sets)
