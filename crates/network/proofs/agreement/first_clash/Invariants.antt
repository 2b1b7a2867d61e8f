-- Of the columns passed so far the lowest that clashes is kept; inside, the second scope does not have the column's variable before place j.
use Rattle.std.proofs.Common.{◌≡◌, ℕ, ◌<◌, get_or}
use Rattle.network.proofs.Clash.{Lowest}
use Rattle.network.proofs.agreement.first_clash.Given as goal

abbrev pub invariant-shared : goal.invariant-shared
invariant-shared l =
    Lowest l.scope_a l.a l.scope_b l.b l.i l.lowest × ((k : ℕ) → k < l.j → get_or l.scope_a l.i 0 ≡ get_or l.scope_b k 0 → ⊥)

abbrev pub invariant-loop-i : goal.invariant-loop-i
invariant-loop-i l = Lowest l.scope_a l.a l.scope_b l.b l.i l.lowest
