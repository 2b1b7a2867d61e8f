-- `classes_by` adds the members' numbers.
use Rattle.std.proofs.Common.{◌*◌, ◌≤◌}
use Rattle.spreading.proofs.factor.classes_by.Given as goal

abbrev pub invariant-loop-j : goal.invariant-loop-j
invariant-loop-j l = l.n ≤ 524288 * l.j
