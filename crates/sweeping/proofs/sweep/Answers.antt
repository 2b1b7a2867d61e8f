use Rattle.std.proofs.Common.{arith}
use Rattle.layout.proofs.SoundStarts.{relation-count, relations-few}
use Rattle.sweeping.proofs.Unmet.{sweeps-none, sweeps-then}
use Rattle.sweeping.proofs.sweep.Goals as goal

pub loop-r-init : goal.loop-r-init
loop-r-init c =
    let f = c.requires.1.1.laid.framed in
    record { few = omega (arith, relation-count f, relations-few f); swept = sweeps-none c.requires.0; tested = omega arith; fell = omega arith }

pub loop-r-preserved : goal.loop-r-preserved
loop-r-preserved c =
    let i = c.loop-r.invariant in
    record { few = i.few; swept = sweeps-then i.swept c.sweep_relation-swept.ensures.1; tested = omega arith; fell = omega arith }
