-- `agrees_before`: the tuple agrees with those chosen for the members before j, but the seeking one.
use Rattle.std.proofs.Common.{◌≡◌, true, ℕ, ◌<◌, get_or}
use Rattle.model.specs.Agreement.{agree}
use Rattle.together.specs.Together.{net_of, tuple_at}
use Rattle.together.proofs.Places.{joint_of}
use Rattle.together.proofs.agrees_before.Given as goal

abbrev pub invariant-loop-j : goal.invariant-loop-j
invariant-loop-j l =
    let Q = joint_of l.variables l.values l.starts l.members l.place in
    (h : ℕ) → h < l.j → (h ≡ l.place → ⊥) → agree (net_of Q) (tuple_at Q h (get_or l.chosen h 0)) (tuple_at Q l.i l.x) ≡ true
