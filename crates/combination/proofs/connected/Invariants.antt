-- The set is the first member's after some passes, and each adds to it.
use Rattle.std.proofs.Common.{◌-◌, slice_index_or}
use Rattle.combination.proofs.Reached.{Passed}
use Rattle.combination.proofs.connected.Given as goal

abbrev pub invariant-loop-reached : goal.invariant-loop-reached
invariant-loop-reached l = Passed l.masks l.members (slice_index_or l.masks (slice_index_or l.members 0 0) 0) l.reached

abbrev pub decreases-loop-reached : goal.decreases-loop-reached
decreases-loop-reached l = 18446744073709551616 - l.reached
