-- The first j sets are as they are to be.
use Rattle.std.proofs.Common.{◌≡◌, ℕ, ◌<◌, length, get_or}
use Rattle.enumeration.specs.Reach.{max_sets, widened}
use Rattle.enumeration.proofs.sets.joined.Given as goal

abbrev pub invariant-loop-j : goal.invariant-loop-j
invariant-loop-j l = record {
  sized : length l.next ≡ max_sets;
  done : (i : ℕ) → i < l.j → get_or l.next i 0 ≡ widened l.r l.all l.k i (get_or l.sets i 0);
}
