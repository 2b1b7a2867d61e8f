-- The counts passed are those of the live tuples.
use Rattle.std.proofs.Common.{◌≡◌, ℕ, ◌<◌, slice_index_or}
use Rattle.model.specs.LiveCounts.{live_count}
use Rattle.layout.specs.Starts.{outline}
use Rattle.request.specs.Answer.{living_in}
use Rattle.request.proofs.counts.count_all.Given as goal

abbrev pub invariant-loop-r : goal.invariant-loop-r
invariant-loop-r l = (k : ℕ) → k < l.r → slice_index_or l.counts k 0 ≡ live_count (outline l.starts) (living_in l.starts l.words) k
