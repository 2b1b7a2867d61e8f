-- If no bit is found so far, none of the words passed has such an id.
use Rattle.std.proofs.Common.{◌≡◌}
use Rattle.narrowing.specs.TupleRows.{both, Apart}
use Rattle.narrowing.proofs.rows.meet_both.Given as goal

abbrev pub invariant-loop-i : goal.invariant-loop-i
invariant-loop-i l = l.any ≡ 0 → Apart l.index 2 (both l.a l.b) l.from l.i l.words
