-- The lists of an opening with no fault are sound.
use Rattle.std.proofs.Common.{length}
use Rattle.model.specs.Request.{choose}
use Rattle.request.proofs.Plans.{opened-sufficient}
use Rattle.changes.proofs.choose.Goals as goal

pub plan_choose-plan-requires : goal.plan_choose-plan-requires
plan_choose-plan-requires c =
    let a = c.args in
    λ z. (opened-sufficient a.shape a.variables.now a.values.now a.m a.members.now (length a.words.now) (length a.supports.now) _ (choose a.x a.v) c.opened-opening.result c.opened-opening.ensures z).sound.laid
