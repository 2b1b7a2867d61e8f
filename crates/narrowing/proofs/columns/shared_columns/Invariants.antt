-- What is found for the columns passed is where such rows begin.
use Rattle.std.proofs.Common.{◌≡◌, ℕ, ◌<◌, length, get_or}
use Rattle.narrowing.specs.TupleRows.{Found}
use Rattle.narrowing.proofs.columns.shared_columns.Given as goal

abbrev pub invariant-loop-i : goal.invariant-loop-i
invariant-loop-i l =
    record {
      long : length l.columns ≡ 8;
      found : (j : ℕ) → j < l.i → Found l.scope_b l.index l.s (get_or l.scope_a j 0) (get_or l.columns j 0);
    }
