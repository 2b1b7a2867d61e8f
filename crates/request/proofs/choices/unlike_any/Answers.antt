use Rattle.std.proofs.Common.{ℕ, slice_index_or, subst, arith}
use Rattle.model.specs.Request.{choose}
use Rattle.layout.specs.Setting.{lists, network_in}
use Rattle.request.specs.Removal.{Added, removed_by}
use Rattle.request.proofs.Pairs.{gathered-start, gathered_next, gathered-end}
use Rattle.request.proofs.choices.unlike_any.Goals as goal

pub loop-x-init : goal.loop-x-init
loop-x-init c = gathered-start _ _ _

pub loop-x-preserved : goal.loop-x-preserved
loop-x-preserved c =
    let N = network_in (lists (λ x. x.now) c.args.variables c.args.values c.args.starts) in
    gathered_next N c.args.firsts.now c.args.seconds.now c.loop-x.removed c.loop-x.x c.loop-x.invariant _ _ (omega arith)
    (subst (λ (k : ℕ). Added c.loop-x.removed c.add_unlike.new.removed (removed_by N (choose c.loop-x.x (slice_index_or c.args.firsts.now k 0)))) c.wide.ensures.0 c.add_unlike.ensures)
    (subst (λ (k : ℕ). Added c.add_unlike.new.removed c.add_unlike-in-loop-x.new.removed (removed_by N (choose c.loop-x.x (slice_index_or c.args.seconds.now k 0)))) c.wide-in-loop-x.ensures.0 c.add_unlike-in-loop-x.ensures)

pub returns : goal.returns
returns c = gathered-end _ _ _ c.loop-x.removed c.loop-x.x c.loop-x.invariant (omega arith)
