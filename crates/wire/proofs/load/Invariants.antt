-- The first i entries are decoded.
use Rattle.std.proofs.Common.{◌≡◌, ◌++◌, drop}
use Rattle.wire.proofs.load.Given as goal

abbrev pub invariant-loop-i : goal.invariant-loop-i
invariant-loop-i g l = l.x-items ≡ g.T.Entry.front l.i l.s ++ drop l.i l.initial.x-items
