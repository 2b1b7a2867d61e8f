-- The words passed are filled, and all others hold nothing.
use Rattle.std.proofs.Common.{◌/◌}
use Rattle.narrowing.proofs.TupleRows.{Filled}
use Rattle.narrowing.proofs.rows.live_between.Given as goal

abbrev pub invariant-loop-i : goal.invariant-loop-i
invariant-loop-i l = Filled (l.start / 64) l.i l.start l.end l.words l.alive
