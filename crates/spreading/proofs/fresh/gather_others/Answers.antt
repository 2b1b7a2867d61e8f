-- From the laws of the members.
use Rattle.std.proofs.Common.{sym, ℕ, ◌<◌, length, get_or}
use Rattle.layout.specs.Setting.{network_in}
use Rattle.spreading.proofs.Kept.{member_below, differ}
use Rattle.spreading.proofs.fresh.gather_others.Goals as goal

pub gather_from-requires-clause-searchable : goal.gather_from-requires-clause-searchable
gather_from-requires-clause-searchable c =
    let a = c.args in
    let N = network_in (record { variables = a.variables.now; values = a.values.now; starts = a.starts.now }) in
    let P = c.requires.spreadable.0.0 in
    let inside = c.requires.spreadable.1 in
    let below : (k : ℕ) → k < length a.members.now → get_or a.members.now k 0 < 64 = member_below P.0.laid P.1 in (
      P.0,
      (
        (below c.loop-i.i c.loop-i-test.true, below a.j inside),
        differ N a.members.now P.1 a.j c.loop-i.i inside c.loop-i-test.true (λ e. c.if-i-j.true (sym e)),
      ),
    )
