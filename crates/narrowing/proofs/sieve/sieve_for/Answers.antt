-- `sieve_for` takes the bits of the column of s that has the same variable as the sieve's, or nothing where r has no such column, by the
-- law that no tuple that agrees is lost.
use Rattle.std.proofs.Common.{refl, arith}
use Rattle.layout.proofs.Places.{scope-length}
use Rattle.narrowing.proofs.Sieves.{sieves-mask}
use Rattle.narrowing.proofs.sieve.sieve_for.Goals as goal

pub returns-then-column : goal.returns-then-column
returns-then-column c =
    let a = c.args in
    sieves-mask c.requires.1.0 a.r a.s a.words.now c.shared_of-shared.result _ refl c.shared_of-shared.ensures (λ h. absurd (h c.if-column.true))

pub mask_of-bits-requires : goal.mask_of-bits-requires
mask_of-bits-requires c =
    let p = c.requires.1 in
    let f = c.shared_of-shared.ensures.same c.if-column.false in
    (c.requires.0, record { laid = p.0; relation = p.1.1; inside = omega (arith, f.1, scope-length p.0 c.args.s p.1.1) })

pub returns : goal.returns
returns c =
    let a = c.args in
    sieves-mask c.requires.1.0 a.r a.s a.words.now c.shared_of-shared.result _ refl c.shared_of-shared.ensures (λ h. c.mask_of-bits.ensures)
