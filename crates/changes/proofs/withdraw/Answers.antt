-- What is planned is the withdrawal of the tuples listed.
use Rattle.model.specs.Request.{withdraw}
use Rattle.changes.proofs.withdraw.Goals as goal

pub make-requires : goal.make-requires
make-requires c =
    let a = c.args in
    record {
      shape = a.shape;
      change = withdraw a.ids.now;
      planned = c.plan_withdraw-plan.ensures a.ids.now c.listed.ensures a.shape a.variables.now a.values.now a.m a.members.now _ _ _ c.opened-opening.ensures;
    }
