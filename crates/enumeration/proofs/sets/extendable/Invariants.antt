-- The sets from place j on decide.
use Rattle.std.proofs.Common.{◌≡◌, take, drop}
use Rattle.enumeration.specs.Reach.{extendable}
use Rattle.enumeration.proofs.sets.extendable.Given as goal

abbrev pub invariant-loop-j : goal.invariant-loop-j
invariant-loop-j l = extendable (drop l.j (take l.k l.sets)) l.r ≡ extendable (take l.k l.sets) l.r
