-- The tuple is in the rows passed, the hash is that of the digit reached, and no bit is lost.
use Rattle.std.proofs.Common.{◌≡◌, ◌+◌}
use Rattle.value_index.specs.Plan.{hash_at, row_plan, ColumnRows}
use Rattle.value_index.specs.Index.{Grows, Laid}
use Rattle.value_index.proofs.Entries.{InRows}
use Rattle.value_index.proofs.enter_value.Given as goal

abbrev pub invariant-loop-i : goal.invariant-loop-i
invariant-loop-i l = record {
  laid : Laid l.index (l.g + 1);
  column : ColumnRows l.index l.start;
  planned : l.plan ≡ row_plan l.index;
  left : l.hash ≡ hash_at l.index l.value l.i;
  grown : Grows l.initial.index l.index;
  entered : InRows l.index l.start l.value l.i l.g;
}
