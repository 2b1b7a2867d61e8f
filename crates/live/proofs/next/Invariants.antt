-- The next live id from `at` on is the one from `start` on.
use Rattle.std.proofs.Common.{◌≡◌, ◌-◌}
use Prim.Native.Nat.{◌-◌}
use Rattle.model.specs.LiveWords.{next_live}
use Rattle.live.proofs.next.Given as goal

abbrev pub invariant-loop-at : goal.invariant-loop-at
invariant-loop-at l = next_live l.words l.at l.end ≡ next_live l.words l.start l.end

abbrev pub decreases-loop-at : goal.decreases-loop-at
decreases-loop-at l = l.end - l.at
