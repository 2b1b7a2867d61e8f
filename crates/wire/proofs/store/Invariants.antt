-- The first i entries are encoded.
use Rattle.std.proofs.Common.{◌≡◌, ◌*◌, ◌++◌, take, drop}
use Rattle.wire.proofs.store.Given as goal

abbrev pub invariant-loop-i : goal.invariant-loop-i
invariant-loop-i g l = l.d ≡ g.T.Entry.list_bytes (take l.i l.s) ++ drop (g.T.Entry.WIDTH * l.i) l.initial.d
