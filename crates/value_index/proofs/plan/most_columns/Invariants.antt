use Rattle.std.proofs.Common.{◌<◌}
use Rattle.value_index.proofs.plan.most_columns.Given as goal

abbrev pub invariant-loop-r : goal.invariant-loop-r
invariant-loop-r l = 0 < l.most
