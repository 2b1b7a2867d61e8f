-- The next entry, and all of them, by the laws of a list that is decoded.
use Rattle.wire.proofs.Entries.{loaded-next, loaded-end}
use Rattle.wire.proofs.load.Goals as goal

pub loop-i-preserved : goal.loop-i-preserved
loop-i-preserved g c =
    let law = g.met.T.Entry in
    rw c.at.ensures (loaded-next _ _ law.front_none law.front_next _ _ _ _ c.loop-i-test.true c.loop-i.invariant)

pub returns : goal.returns
returns g c =
    let law = g.met.T.Entry in
    loaded-end _ _ law.front_none law.front_next _ _ _ _ _ _ (rw c.WIDTH.ensures at c.least-n.ensures.2) c.loop-i-test.false c.loop-i.auto.i-end c.loop-i.invariant
