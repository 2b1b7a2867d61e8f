-- `divided`: the members passed are put to either side.
use Rattle.layout.specs.Setting.{network_in}
use Rattle.twins.proofs.Dividing.{Divided}
use Rattle.twins.proofs.sides.divided.Given as goal

abbrev pub invariant-loop-j : goal.invariant-loop-j
invariant-loop-j l = Divided (network_in (record { variables = l.variables; values = l.values; starts = l.starts })) l.members l.place l.j l.sides
