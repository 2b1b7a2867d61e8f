-- The rows so far are of values under shared variables, four at most for each column passed.
use Rattle.std.proofs.Common.{◌*◌, ◌≤◌}
use Rattle.narrowing.specs.TupleRows.{FirstRows, SharedRow}
use Rattle.narrowing.proofs.rows.rows_between.Given as goal

abbrev pub invariant-loop-j : goal.invariant-loop-j
invariant-loop-j l =
    record { few : l.n ≤ 4 * l.j; so_far : FirstRows (SharedRow l.scope_a l.a l.scope_b l.index l.s) l.n l.rows }
