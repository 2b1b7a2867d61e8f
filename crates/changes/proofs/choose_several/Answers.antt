-- The lists of an opening with no fault are sound.
use Rattle.std.proofs.Common.{length}
use Rattle.model.specs.Request.{choose_several}
use Rattle.request.proofs.Plans.{opened-sufficient}
use Rattle.changes.proofs.choose_several.Goals as goal

pub plan_choose_several-plan-requires : goal.plan_choose_several-plan-requires
plan_choose_several-plan-requires c =
    let a = c.args in
    λ z. (opened-sufficient a.shape a.variables.now a.values.now a.m a.members.now (length a.words.now) (length a.supports.now) _ (choose_several a.xs.now a.vs.now) c.opened-opening.result c.opened-opening.ensures z).sound.laid

pub make-requires : goal.make-requires
make-requires c =
    let a = c.args in
    record {
      shape = a.shape;
      change = choose_several a.xs.now a.vs.now;
      planned = c.plan_choose_several-plan.ensures a.xs.now a.vs.now c.paired.ensures a.shape a.m a.members.now _ _ _ c.opened-opening.ensures;
    }
