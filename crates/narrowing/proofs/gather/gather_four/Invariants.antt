-- The words passed are joined.
use Rattle.std.proofs.Common.{◌*◌}
use Rattle.narrowing.specs.Gathers.{Joins}
use Rattle.narrowing.specs.TupleRows.{four, in_rows}
use Rattle.narrowing.proofs.gather.gather_four.Given as goal

abbrev pub invariant-loop-i : goal.invariant-loop-i
invariant-loop-i l = Joins (in_rows l.index (four l.a l.b l.c l.d) 4) (64 * l.first) (64 * l.i) l.from l.initial.to l.to
