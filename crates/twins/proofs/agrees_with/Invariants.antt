-- `agrees_with`: the tuple agrees with those of the members passed, but for its own.
use Rattle.std.proofs.Common.{◌≡◌, true, ℕ, ◌%◌, ◌<◌}
use Rattle.model.specs.Agreement.{agree}
use Rattle.layout.specs.Setting.{Setting, network}
use Rattle.layout.specs.Pairs.{tuple_id}
use Rattle.twins.specs.Twins.{beside_id}
use Rattle.twins.proofs.agrees_with.Given as goal

abbrev pub invariant-loop-j : goal.invariant-loop-j
invariant-loop-j l =
    let G : Setting = record { lists = record { variables = l.variables; values = l.values; starts = l.starts }; members = l.members; m = l.m } in
    (i : ℕ) → i < l.j → (i ≡ l.p % l.m → ⊥) → agree (network G) (tuple_id G l.p l.x) (beside_id G l.p l.tuples i) ≡ true
