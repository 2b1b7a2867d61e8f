-- `variables_from`: the variables of the members passed, but for the one at `place`, are collected.
use Rattle.layout.specs.Setting.{network_in}
use Rattle.doubles.proofs.Others.{Collected}
use Rattle.doubles.proofs.alike.variables_from.Given as goal

abbrev pub invariant-loop-j : goal.invariant-loop-j
invariant-loop-j l =
    Collected (network_in (record { variables = l.variables; values = l.values; starts = l.starts })) l.members l.place l.from l.j l.common
