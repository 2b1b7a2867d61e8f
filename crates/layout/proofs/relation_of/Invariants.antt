-- Every relation passed ends at or before the id.
use Rattle.std.proofs.Common.{ℕ, ◌+◌, ◌-◌, ◌<◌, ◌≤◌}
use Rattle.layout.specs.Starts.{tuple_start}
use Rattle.layout.proofs.relation_of.Given as goal

abbrev pub invariant-loop-r : goal.invariant-loop-r
invariant-loop-r l = record {
  below : l.r < 64;
  ended : (k : ℕ) → k < l.r → tuple_start l.starts (k + 1) ≤ l.g;
}

abbrev pub decreases-loop-r : goal.decreases-loop-r
decreases-loop-r l = 64 - l.r
