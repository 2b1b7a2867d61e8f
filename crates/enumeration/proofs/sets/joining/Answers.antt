-- From the laws of bits and of what is in every set.
use Rattle.std.proofs.Common.{◌≡◌, ◌&&◌, Bool, refl, ap₂, ◌∙◌, ℕ, take, arith}
use Rattle.std.proofs.lemmas.Grind.{common_steps}
use Rattle.model.specs.LiveWords.{is_set}
use Rattle.live.proofs.Bits.{is_set-and}
use Rattle.enumeration.specs.Reach.{reach}
use Rattle.enumeration.proofs.Joining.{every, others, others-next, common-joined}
use Rattle.enumeration.proofs.sets.joining.Goals as goal

pub loop-j-init : goal.loop-j-init
loop-j-init c = record { reached = refl; asked = λ s h. rw (every s h) }

pub loop-j-preserved : goal.loop-j-preserved
loop-j-preserved c = record {
  reached = grind (arith, common_steps);
  asked = λ s h. grind (arith, common_steps, others-next, c.loop-j.invariant.asked s h);
}

pub returns : goal.returns
returns c s h =
    let ns = take c.args.k c.args.sets.now in
    let reached : c.loop-j.all ≡ reach c.args.r c.args.own ns = grind (arith, common_steps) in
    let asked : is_set c.loop-j.rest s ≡ others c.args.r s ns = grind (arith, common_steps, c.loop-j.invariant.asked s h) in
    is_set-and c.loop-j.all c.loop-j.rest s ∙ ap₂ (λ (w : ℕ) (b : Bool). is_set w s && b) reached asked ∙ common-joined c.args.r c.args.own s ns
