-- One set more is as it is to be, and at last the first k and the new one are. From the laws of the first elements of a list.
use Rattle.std.proofs.Common.{ℕ, ap, ◌∙◌, cond, [], ◌∷◌, ◌++◌, map, take, arith}
use Rattle.std.proofs.lemmas.Grind.{common_steps}
use Rattle.model.specs.LiveWords.{is_set}
use Rattle.enumeration.proofs.Front.{front-images}
use Rattle.enumeration.proofs.sets.joined.Goals as goal

pub loop-j-preserved : goal.loop-j-preserved
loop-j-preserved c = record {
  sized = grind (arith, common_steps);
  done = λ i h. grind (arith, common_steps, c.loop-j.invariant.done i);
}

pub returns : goal.returns
returns c =
    let widen = λ (n : ℕ). cond (is_set n c.args.r) c.reach-all.result n in
    front-images widen c.reach-all.result c.args.sets.now c.loop-j.next c.args.k (omega arith) (omega arith)
    (λ i h. grind (arith, common_steps, c.loop-j.invariant.done i))
    (grind (arith, common_steps, c.loop-j.invariant.done c.args.k))
    ∙ ap (λ (w : ℕ). map (λ (n : ℕ). cond (is_set n c.args.r) w n) (take c.args.k c.args.sets.now) ++ (w ∷ [])) c.reach-all.ensures
