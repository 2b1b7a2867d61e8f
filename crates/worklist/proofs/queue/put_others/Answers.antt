-- From the laws of pairs that wait too.
use Rattle.std.proofs.Common.{◌≡◌, Bool, eqb, get_or, ap, ◌∙◌, rules}
use mathlib.Core.Bool.{not}
use borrow.Author.Tests.{eq-eqb, ne_eqb}
use Rattle.model.specs.LiveWords.{raised}
use Rattle.worklist.specs.declared.queue.Queue.{Queue}
use Rattle.worklist.specs.Pairs.{others}
use Rattle.worklist.proofs.Waiting.{words_of, put-words, put-waits, wait-none, wait-if, wait-not, wait-then, others-none, others-next}
use Rattle.worklist.proofs.queue.put_others.Goals as goal
use Rattle.worklist.proofs.queue.put_others.Goals.{then-members-q, else-members-q}

pub loop-q-init : goal.loop-q-init
loop-q-init c =
    let a = c.args in
    record {
      words = words_of a.queue.words (search rules) (λ i. search rules);
      wait = wait-none a.queue.words (others a.base a.base a.members.now a.r) (others-none a.base a.members.now a.r);
    }

pub loop-q-preserved : goal.loop-q-preserved
loop-q-preserved c =
    let a = c.args in
    let l = c.loop-q in
    let ws = l.queue.words in
    let other : Bool = not (eqb (get_or a.members.now l.q 0) a.r) in
    let step = others-next a.base a.members.now a.r l.q l.auto.q in
    elim c.if-members-q.branch [
      | then-members-q w ↦
          let e : c.if-members-q.queue.words ≡ raised l.q ws = ap (λ (x : Queue). x.words) w.queue-is ∙ w.put-queue.ensures in
          rw e record {
            words = put-words ws l.invariant.words l.q;
            wait = wait-then _ ws _ _ _ _ l.invariant.wait (wait-if (eqb l.q) other ws _ (ap not (ne_eqb (get_or a.members.now l.q 0) a.r w.if-members-q.true)) (put-waits ws l.invariant.words l.q)) step;
          }
      | else-members-q w ↦
          rw w.queue-is record {
            words = l.invariant.words;
            wait = wait-then _ ws _ _ _ _ l.invariant.wait (wait-not (eqb l.q) other ws (ap not (eq-eqb (get_or a.members.now l.q 0) a.r w.if-members-q.false))) step;
          }
    ]
