-- The sets of the relations passed are found.
use Rattle.combination.proofs.Found.{Found}
use Rattle.combination.proofs.masks.Given as goal

abbrev pub invariant-loop-r : goal.invariant-loop-r
invariant-loop-r l = Found (record { variables = l.variables; values = l.values; starts = l.starts }) l.r l.sets
