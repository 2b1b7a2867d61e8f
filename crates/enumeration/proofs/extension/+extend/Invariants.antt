-- With those from relation r on, the combinations added are all; the measure is the number of members still unchosen.
use Rattle.std.proofs.Common.{◌-◌}
use Rattle.enumeration.specs.Stage.{extensions}
use Rattle.enumeration.proofs.Added.{Going}
use Rattle.enumeration.proofs.extension.+extend.Given as goal

abbrev pub decreases-extend : goal.decreases-extend
decreases-extend l = l.m - l.k

abbrev pub invariant-loop-r : goal.invariant-loop-r
invariant-loop-r l =
    Going l.m (extensions l.near l.sets l.members l.m l.k l.r l.count) (extensions l.near l.sets l.members l.m l.k l.from l.count) l.found l.initial.list l.n l.list
