-- `classes_of` adds the columns' numbers.
use Rattle.std.proofs.Common.{◌*◌, ◌≤◌}
use Rattle.spreading.proofs.factor.classes_of.Given as goal

abbrev pub invariant-loop-column : goal.invariant-loop-column
invariant-loop-column l = l.n ≤ 65536 * l.column
