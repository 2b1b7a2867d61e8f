-- Of the pairs from `base` on and below `q`, those of another relation than r wait too.
use Rattle.worklist.specs.Pairs.{WaitToo, others}
use Rattle.worklist.proofs.Waiting.{Words}
use Rattle.worklist.proofs.queue.put_others.Given as goal

abbrev pub invariant-loop-q : goal.invariant-loop-q
invariant-loop-q l = record {
  words : Words l.queue.words;
  wait : WaitToo l.initial.queue.words (others l.base l.q l.members l.r) l.queue.words;
}
