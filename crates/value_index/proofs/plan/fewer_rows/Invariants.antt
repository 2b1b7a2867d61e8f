use Rattle.std.proofs.Common.{◌≤◌, ◌<◌}
use Rattle.value_index.proofs.plan.fewer_rows.Given as goal

abbrev pub invariant-loop-fewer : goal.invariant-loop-fewer
invariant-loop-fewer l = record { some : 0 < l.fewer; within : l.fewer ≤ l.rows }

abbrev pub decreases-loop-fewer : goal.decreases-loop-fewer
decreases-loop-fewer l = l.fewer
