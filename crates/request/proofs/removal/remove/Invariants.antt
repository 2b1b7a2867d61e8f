-- The words passed are cut.
use Rattle.request.proofs.Removed.{Cut}
use Rattle.request.proofs.removal.remove.Given as goal

abbrev pub invariant-loop-i : goal.invariant-loop-i
invariant-loop-i l = Cut l.initial.words l.removed l.words l.i
