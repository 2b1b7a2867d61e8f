-- The words passed are narrowed, and `any` is what is left of them.
use Rattle.std.proofs.Common.{◌*◌}
use Rattle.narrowing.specs.Narrows.{Keeps}
use Rattle.narrowing.specs.TupleRows.{in_rows}
use Rattle.narrowing.proofs.kept.keep_all.Given as goal

abbrev pub invariant-loop-i : goal.invariant-loop-i
invariant-loop-i l = Keeps (in_rows l.index l.rows l.n) (64 * l.from) (64 * l.i) l.initial.words l.words l.any
