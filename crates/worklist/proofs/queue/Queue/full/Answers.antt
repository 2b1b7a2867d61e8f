-- From the laws of a pair that is put, and of empty words.
use Rattle.std.proofs.Common.{Bool, eqb, List, ℕ, sym, ap, subst, ◌∙◌, arith}
use mathlib.Core.Bool.{◌||◌}
use borrow.Author.Tests.{le-ltb}
use Rattle.model.specs.LiveWords.{is_live}
use Rattle.model.proofs.LiveWords.{none-is_live}
use Rattle.worklist.proofs.Waiting.{Words, empty-words, put-words, put-waits, ltb-more}
use Rattle.worklist.proofs.queue.Queue.full.Goals as goal

pub loop-pair-init : goal.loop-pair-init
loop-pair-init c = record { below = λ q h. none-is_live 16 q ∙ sym (le-ltb q 0 (omega arith)); words = empty-words }

pub loop-pair-preserved : goal.loop-pair-preserved
loop-pair-preserved c =
    let l = c.loop-pair in
    record {
      below = λ q h.
          ap (λ (ws : List ℕ). is_live ws q) c.set.ensures
          ∙ put-waits l.words l.invariant.words l.pair q h
          ∙ ap (λ (b : Bool). b || eqb l.pair q) (l.invariant.below q h)
          ∙ ltb-more l.pair q;
      words = subst Words (sym c.set.ensures) (put-words l.words l.invariant.words l.pair);
    }
