-- From the laws of sides.
use Rattle.layout.specs.Setting.{network_in}
use Rattle.twins.proofs.Dividing.{divided-start}
use Rattle.twins.proofs.sides.divided.Goals as goal

pub loop-j-init : goal.loop-j-init
loop-j-init c =
    let a = c.args in
    divided-start (network_in (record { variables = a.variables.now; values = a.values.now; starts = a.starts.now })) a.members.now a.place
