-- `in_all` asks the first two rows, and then all of them, by the law of some rows and then of all.
use Rattle.std.proofs.Common.{eqb, subst}
use borrow.Author.Tests.{eqb-true, not-false}
use Rattle.narrowing.specs.TupleRows.{BitsInRows}
use Rattle.narrowing.proofs.TupleRows.{bits-then, bits-nought}
use Rattle.narrowing.proofs.rows.in_all.Goals as goal

pub returns-then-w-eq0 : goal.returns-then-w-eq0
returns-then-w-eq0 c e =
    let a = c.args in
    let bits = subst (BitsInRows a.index.now 2 a.rows.now a.i a.word) c.if-w-eq0.true c.in_rows-w.ensures in
    bits-then a.index.now a.rows.now a.i 2 a.n a.word 0 0 c.requires.1.0 bits (bits-nought a.index.now a.rows.now a.i a.n)

pub returns : goal.returns
returns c e =
    let a = c.args in
    let w = c.in_rows-w.result in
    let none = eqb-true c.in_rows.result 0 (not-false (eqb c.in_rows.result 0) e) in
    let rest = subst (BitsInRows a.index.now a.n a.rows.now a.i w) none c.in_rows.ensures in
    bits-then a.index.now a.rows.now a.i 2 a.n a.word w 0 c.requires.1.0 c.in_rows-w.ensures rest
