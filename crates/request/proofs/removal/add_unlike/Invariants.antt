-- The ids of the relations passed are added.
use Rattle.request.proofs.Unlike.{Unlike}
use Rattle.request.proofs.removal.add_unlike.Given as goal

abbrev pub invariant-loop-r : goal.invariant-loop-r
invariant-loop-r l = Unlike (record { variables = l.variables; values = l.values; starts = l.starts }) l.x l.v l.initial.removed l.removed l.r
