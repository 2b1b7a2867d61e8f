-- A row for each digit passed, and what is left of the hash.
use Rattle.std.proofs.Common.{◌≡◌, ◌+◌}
use Rattle.value_index.specs.Plan.{hash_at}
use Rattle.narrowing.specs.TupleRows.{ValueRow, Adds}
use Rattle.narrowing.proofs.rows.add_value.Given as goal

abbrev pub invariant-loop-i : goal.invariant-loop-i
invariant-loop-i l =
    record {
      row : l.k ≡ l.n + l.i;
      left : l.hash ≡ hash_at l.index l.value l.i;
      adds : Adds (ValueRow l.index l.start l.value) l.n l.k l.initial.rows l.rows;
    }
