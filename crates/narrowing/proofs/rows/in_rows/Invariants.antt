-- The bits that are left are in all rows passed.
use Rattle.narrowing.specs.TupleRows.{BitsInRows}
use Rattle.narrowing.proofs.rows.in_rows.Given as goal

abbrev pub invariant-loop-row : goal.invariant-loop-row
invariant-loop-row l = BitsInRows l.index l.row-index l.rows l.i l.word l.w
