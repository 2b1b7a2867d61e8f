-- The walk is among the relation's ids, and those that fell do not pass.
use Rattle.std.proofs.Common.{◌≡◌, ◌+◌, ◌-◌, ◌≤◌}
use Rattle.model.specs.Limits.{max_tuples}
use Rattle.model.specs.Network.{size, first_id}
use Rattle.layout.specs.Setting.{network_in}
use Rattle.bridging.specs.Bridge.{Passes, Narrowing}
use Rattle.bridging.proofs.keep_passing.Given as goal

abbrev pub invariant-loop-g : goal.invariant-loop-g
invariant-loop-g l =
    let N = network_in (record { variables = l.variables; values = l.values; starts = l.starts }) in record {
      begins : l.first ≡ first_id N l.r;
      ends : l.end ≡ first_id N l.r + size N l.r;
      few : l.end ≤ max_tuples;
      from_first : l.first ≤ l.g;
      to_end : l.g ≤ l.end;
      narrowed : Narrowing N l.r (Passes N l.r l.a l.b l.factor l.near l.far) l.initial.words l.words;
    }

abbrev pub decreases-loop-g : goal.decreases-loop-g
decreases-loop-g l = l.end - l.g
