-- If no bit is found so far, the words passed have none.
use Rattle.std.proofs.Common.{◌≡◌, ◌*◌}
use Rattle.value_index.specs.Index.{NoneIn}
use Rattle.value_index.proofs.any.has_some.Given as goal

abbrev pub invariant-loop-i : goal.invariant-loop-i
invariant-loop-i l = l.some ≡ 0 → NoneIn l.index l.row (64 * l.from) (64 * l.i)
