-- What the values of the variables passed remove is added.
use Rattle.layout.specs.Setting.{network_in}
use Rattle.request.proofs.Pairs.{Gathered}
use Rattle.request.proofs.choices.unlike_any.Given as goal

abbrev pub invariant-loop-x : goal.invariant-loop-x
invariant-loop-x l = Gathered (network_in (record { variables = l.variables; values = l.values; starts = l.starts })) l.firsts l.seconds l.removed l.x
