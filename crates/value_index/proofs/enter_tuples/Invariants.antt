-- The tuples are entered by their values in the columns passed.
use Rattle.value_index.specs.Index.{Full, Grows, EntersColumns}
use Rattle.value_index.proofs.enter_tuples.Given as goal

abbrev pub invariant-loop-c : goal.invariant-loop-c
invariant-loop-c l = record {
  full : Full l.index;
  grown : Grows l.initial.index l.index;
  entered : EntersColumns l.values l.at l.r l.width l.c l.start l.end l.index;
}
