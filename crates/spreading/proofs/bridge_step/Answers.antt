-- `bridge_step` narrows the member through the two other places, if there are two.
-- From the law of one member narrowed.
use Rattle.std.proofs.Common.{sym, arith}
use mathlib.Core.Logic.{⊎_elim}
use Rattle.layout.specs.Setting.{network_in}
use Rattle.spreading.proofs.Kept.{keeps-bridge}
use Rattle.spreading.proofs.bridge_step.Goals as goal

pub returns : goal.returns
returns c =
    let x = c.args in
    let N = network_in (record { variables = x.variables.now; values = x.values.now; starts = x.starts.now }) in
    let f = c.requires.free in
    let a = c.in-Some.ensures in
    let b = c.in-Some-other_from.ensures in
    let W = c.bridge.ensures in (
      W.0.long,
      (
        keeps-bridge N x.members.now c.requires.long.1.0.1 c.in-Some.a c.in-Some-other_from.b x.j a.0 b.0 f.inside
            (λ q. a.1.not-j a.0 (sym q)) (λ q. b.1.not-j b.0 (sym q)) (λ q. omega (arith, q, b.1.behind)) x.words.now c.bridge.new.words W.0 x.place x.from
            (⊎_elim (λ l. omega (arith, l, f.behind)) f.other),
        λ q. record { j = x.j; later = record { from-k = f.behind; inside = f.inside; other = f.other }; dead = W.1 q },
      ),
    )
