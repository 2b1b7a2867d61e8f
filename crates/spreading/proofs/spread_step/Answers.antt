-- `spread_step` narrows where the places are two, and otherwise changes nothing.
-- From the law of one step.
use Rattle.std.proofs.Common.{arith}
use mathlib.Core.Logic.{⊎_elim}
use Rattle.layout.specs.Setting.{network_in}
use Rattle.spreading.proofs.Kept.{keeps-step}
use Rattle.spreading.proofs.spread_step.Goals as goal

pub returns : goal.returns
returns c =
    let a = c.args in
    let N = network_in (record { variables = a.variables.now; values = a.values.now; starts = a.starts.now }) in
    let i-in = c.if-members-i.false in
    let j-in = c.if-members-j.false in
    let f = c.spread.ensures in (
      f.0,
      (
        keeps-step N a.members.now c.requires.1.0.1 a.i a.j i-in j-in c.if-i-j.false a.words.now c.spread.new.words f.1.0 a.place a.from
            (⊎_elim (λ l. omega (arith, l, c.if-j-from.false)) c.if-j-place.false),
        λ q. record { j = a.j; later = record { from-k = omega (arith, c.if-j-from.false); inside = j-in; other = c.if-j-place.false }; dead = f.1.1 q },
      ),
    )
