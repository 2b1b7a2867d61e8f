-- `value_at` reads the value from its place, by the laws of where it stands.
use Rattle.std.proofs.Common.{ℕ, ◌+◌, get_or, ◌∙◌, ap, arith}
use Rattle.narrowing.proofs.Sieves.{place-below, place-value}
use Rattle.narrowing.proofs.sieve.value_at.Goals as goal

pub bounds-values-p : goal.bounds-values-p
bounds-values-p c =
    let a = c.args in
    let p = c.requires.0 in
    omega (arith, place-below p.laid a.r a.x a.column p.own c.requires.1 c.place_of-p.result c.place_of-p.ensures)

pub returns : goal.returns
returns c =
    let a = c.args in
    let p = c.requires.0 in
    ap (λ (n : ℕ). get_or a.values.now (c.place_of-p.result.tuple + n) 0) c.wide.ensures.0
    ∙ place-value p.laid a.r a.x a.column p.own c.requires.1 c.place_of-p.result c.place_of-p.ensures
