-- The pairs below `pair` wait, and no other.
use Rattle.std.proofs.Common.{◌≡◌, ℕ, ◌<◌, ltb}
use Rattle.model.specs.Limits.{max_pairs}
use Rattle.model.specs.LiveWords.{is_live}
use Rattle.worklist.proofs.Waiting.{Words}
use Rattle.worklist.proofs.queue.Queue.full.Given as goal

abbrev pub invariant-loop-pair : goal.invariant-loop-pair
invariant-loop-pair l = record {
  below : (q : ℕ) → q < max_pairs → is_live l.words q ≡ ltb q l.pair;
  words : Words l.words;
}
