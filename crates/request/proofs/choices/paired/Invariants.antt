-- The pairs passed are kept, and the lists go on with the next.
use Rattle.std.proofs.Common.{◌≡◌, length, drop}
use Rattle.request.proofs.Pairs.{Paired}
use Rattle.request.proofs.choices.paired.Given as goal

abbrev pub invariant-loop-x : goal.invariant-loop-x
invariant-loop-x l = record {
  kept : Paired l.xs l.vs l.firsts l.seconds l.bound (length l.yielded);
  variables : l.x-iterator.a.rest.now ≡ drop (length l.yielded) l.xs;
  values : l.x-iterator.b.rest.now ≡ drop (length l.yielded) l.vs;
}
