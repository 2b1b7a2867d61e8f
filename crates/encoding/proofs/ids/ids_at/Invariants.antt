-- The first i ids are added.
use Rattle.request.proofs.Removed.{Filled}
use Rattle.wire.specs.Entries.{entries16}
use Rattle.encoding.proofs.ids.ids_at.Given as goal

abbrev pub invariant-loop-i : goal.invariant-loop-i
invariant-loop-i l = Filled (entries16 l.ids) l.words l.bound l.i
