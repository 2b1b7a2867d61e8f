-- The words passed are joined.
use Rattle.std.proofs.Common.{◌*◌}
use Rattle.narrowing.specs.Gathers.{Joins}
use Rattle.narrowing.specs.TupleRows.{in_rows}
use Rattle.narrowing.proofs.gather.gather_all.Given as goal

abbrev pub invariant-loop-i : goal.invariant-loop-i
invariant-loop-i l = Joins (in_rows l.index l.rows l.n) (64 * l.first) (64 * l.i) l.from l.initial.to l.to
