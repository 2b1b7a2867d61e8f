-- Of the tuples passed those with another value are set.
use Rattle.std.proofs.Common.{◌≡◌, ℕ, ◌+◌, ◌-◌, ◌*◌}
use Rattle.std.specs.Prelude.{◌&&◌}
use Rattle.model.specs.Request.{choose, removes}
use Rattle.layout.specs.Starts.{tuple_start, value_start}
use Rattle.layout.specs.Setting.{network_in}
use Rattle.request.specs.Removal.{between, Added}
use Rattle.request.proofs.removal.unlike_in.Given as goal

abbrev pub invariant-loop-g : goal.invariant-loop-g
invariant-loop-g l = record {
  place : l.at ≡ value_start l.fn.starts l.fn.r + (l.g - tuple_start l.fn.starts l.fn.r) * l.width + l.column;
  set : Added l.initial.removed l.removed (λ (h : ℕ). between (tuple_start l.fn.starts l.fn.r) l.g h && removes (network_in (record { variables = l.fn.variables; values = l.values; starts = l.fn.starts })) (choose l.fn.x l.v) h);
}
