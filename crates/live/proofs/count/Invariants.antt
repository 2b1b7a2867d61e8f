-- `count` sums the ones of word after word: `n` and the live ids from word `i` on are those from `start`'s word on.
use Rattle.std.proofs.Common.{◌≡◌, ◌+◌, ◌*◌, ◌/◌}
use Rattle.live.proofs.Between.{between}
use Rattle.live.proofs.count.Given as goal

abbrev pub invariant-loop-i : goal.invariant-loop-i
invariant-loop-i l = l.n + between l.words (64 * l.i) l.end ≡ between l.words (64 * (l.start / 64)) l.end
