-- What is narrowed so far is narrowed for the tuple.
use Rattle.std.proofs.Common.{◌+◌}
use Rattle.model.specs.Network.{first_id}
use Rattle.layout.specs.Setting.{network_in}
use Rattle.narrowing.specs.Narrows.{Long, Narrowed}
use Rattle.refuting.proofs.narrow_left.Given as goal

abbrev pub invariant-loop-j : goal.invariant-loop-j
invariant-loop-j l =
    let N = network_in (record { variables = l.variables; values = l.values; starts = l.starts }) in
    record { long : Long l.words; narrowed : Narrowed N (first_id N l.r + l.x) l.initial.words l.words }
