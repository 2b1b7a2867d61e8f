-- Only live ids from `from` on are pending so far.
use Rattle.live.proofs.Ahead.{Ahead}
use Rattle.engine.proofs.Resting.{Raises}
use Rattle.engine.proofs.rest.seeking.Given as goal

abbrev pub invariant-loop-g : goal.invariant-loop-g
invariant-loop-g l = record {
  ahead : Ahead l.words l.from l.end l.g-iterator.words.now l.g-iterator.at l.g-iterator.end;
  raises : Raises l.words l.from l.pending;
}
