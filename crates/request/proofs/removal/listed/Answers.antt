use Rattle.std.proofs.Common.{refl, arith}
use Rattle.request.proofs.Removed.{filled-start, filled_next, filled-end}
use Rattle.request.proofs.removal.listed.Goals as goal

pub loop-g-init : goal.loop-g-init
loop-g-init c = filled-start _

pub loop-g-preserved : goal.loop-g-preserved
loop-g-preserved c = filled_next _ c.loop-g.words c.loop-g.bound c.loop-g.g-index c.loop-g.invariant _ _ _ (omega arith) refl c.add-bound.ensures.0 c.add-bound.ensures.1

pub returns : goal.returns
returns c = filled-end _ c.loop-g.words c.loop-g.bound c.loop-g.g-index c.loop-g.invariant (omega arith)
