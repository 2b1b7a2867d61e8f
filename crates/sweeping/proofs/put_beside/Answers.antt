use Rattle.std.proofs.Common.{◌+◌, ◌∙◌, List, ℕ, sym, subst, arith}
use Rattle.std.proofs.lemmas.Grind.{common_steps}
use Rattle.sweeping.specs.Sweep.{Put}
use Rattle.sweeping.proofs.Beside.{put_same, put-more}
use Rattle.sweeping.proofs.put_beside.Goals as goal
use Rattle.sweeping.proofs.put_beside.Goals.{then-s-r, else-s-r}

pub loop-s-preserved : goal.loop-s-preserved
loop-s-preserved c =
    let i = c.loop-s.invariant in
    let Result : List ℕ → Type 0 = Put c.args.members.now c.args.base (c.args.base + (c.loop-s.s-index + 1)) c.args.r c.args.beside.now in
    elim c.if-s-r.branch [
      | then-s-r w ↦ subst Result (sym (w.beside-is ∙ w.set.ensures)) (put-more (omega arith) i _ (grind (arith, common_steps)) (omega arith) w.if-s-r.true)
      | else-s-r w ↦ subst Result (sym w.beside-is) (put_same (omega arith) i)
    ]
