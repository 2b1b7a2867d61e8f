-- From the laws of what is collected.
use Rattle.model.specs.Network.{Network}
use Rattle.layout.specs.Setting.{network_in}
use Rattle.doubles.proofs.Others.{collected-more, collected-past}
use Rattle.doubles.proofs.alike.variables_from.Goals as goal
use Rattle.doubles.proofs.alike.variables_from.Goals.{then-j-place, else-j-place}

pub loop-j-preserved : goal.loop-j-preserved
loop-j-preserved c =
    let N : Network = network_in (record { variables = c.args.variables.now; values = c.args.values.now; starts = c.args.starts.now }) in
    let l = c.loop-j in
    elim c.if-j-place.branch [
      | then-j-place w ↦ rw w.common-is (collected-more N c.args.members.now c.args.place c.args.from l.j l.common l.invariant _ w.variables_of-common.ensures)
      | else-j-place w ↦ rw w.common-is (collected-past N c.args.members.now c.args.place c.args.from l.j l.common l.invariant w.if-j-place.false)
    ]
