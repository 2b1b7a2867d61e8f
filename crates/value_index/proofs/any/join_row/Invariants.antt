-- Of the words passed, the one row's ids are in the other, and no bit is lost.
use Rattle.std.proofs.Common.{◌*◌}
use Rattle.value_index.specs.Index.{Full, Grows, JoinsRow}
use Rattle.value_index.proofs.any.join_row.Given as goal

abbrev pub invariant-loop-i : goal.invariant-loop-i
invariant-loop-i l = record {
  full : Full l.index;
  grown : Grows l.initial.index l.index;
  joined : JoinsRow l.row l.other (64 * l.from) (64 * l.i) l.initial.index l.index;
}
