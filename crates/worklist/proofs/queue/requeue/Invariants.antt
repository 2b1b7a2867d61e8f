-- Of the pairs below `base`, those that the removal queues wait too; and a combination begins at `base`.
use Rattle.std.proofs.Common.{◌≡◌, ℕ, ltb, length, ◌*◌, ◌/◌, ◌≤◌}
use mathlib.Core.Bool.{◌&&◌}
use Rattle.worklist.specs.Pairs.{WaitToo, queues}
use Rattle.worklist.proofs.Waiting.{Words}
use Rattle.worklist.proofs.queue.requeue.Given as goal

abbrev pub invariant-loop-base : goal.invariant-loop-base
invariant-loop-base l = record {
  wait : WaitToo l.initial.queue.words (λ (h : ℕ). ltb h l.base && queues l.m l.members l.p h) l.queue.words;
  words : Words l.queue.words;
  multiple : l.base / l.m * l.m ≡ l.base;
  within : l.base ≤ length l.members;
}
