-- The rows so far are of the tuple's values, four at most for each column passed.
use Rattle.std.proofs.Common.{◌*◌, ◌≤◌}
use Rattle.narrowing.specs.TupleRows.{FirstRows, RowOf}
use Rattle.narrowing.proofs.rows.rows_of.Given as goal

abbrev pub invariant-loop-c : goal.invariant-loop-c
invariant-loop-c l = record { few : l.n ≤ 4 * l.c; so_far : FirstRows (RowOf l.index l.columns l.tuple) l.n l.rows }
