-- The row of any is spread in the columns passed, and no bit is lost.
use Rattle.value_index.specs.Index.{Full, Grows, SpreadsColumns}
use Rattle.value_index.proofs.any.spread_columns.Given as goal

abbrev pub invariant-loop-c : goal.invariant-loop-c
invariant-loop-c l = record {
  full : Full l.index;
  grown : Grows l.initial.index l.index;
  spread : SpreadsColumns l.r l.c l.start l.end l.initial.index l.index;
}
