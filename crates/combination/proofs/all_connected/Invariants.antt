-- The combinations not yet passed decide, and the list goes on with the next.
use Rattle.std.proofs.Common.{◌≡◌, ◌*◌, drop, length}
use Rattle.std.specs.Slice.Iter.{chunks_exact_rest, chunks_exact_size}
use Rattle.model.specs.Lists.{all}
use Rattle.model.specs.Combination.{combinations}
use Rattle.combination.specs.Masks.{connected_in}
use Rattle.combination.proofs.all_connected.Given as goal

abbrev pub invariant-loop-c : goal.invariant-loop-c
invariant-loop-c l = record {
  rest : chunks_exact_rest l.c-iterator ≡ drop (length l.yielded * l.fn.m) l.fn.members;
  size : chunks_exact_size l.c-iterator ≡ l.fn.m;
  left : all (connected_in l.masks) (drop (length l.yielded) (combinations l.fn.m l.fn.members)) ≡ all (connected_in l.masks) (combinations l.fn.m l.fn.members);
}
