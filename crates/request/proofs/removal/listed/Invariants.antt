-- The ids passed are added.
use Rattle.request.proofs.Removed.{Filled}
use Rattle.request.proofs.removal.listed.Given as goal

abbrev pub invariant-loop-g : goal.invariant-loop-g
invariant-loop-g l = Filled l.ids l.words l.bound l.g-index
