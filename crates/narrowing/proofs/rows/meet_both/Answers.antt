-- `meet_both` goes word by word, by the laws of a word's ids in rows, and of one word more.
use Rattle.std.proofs.Common.{eqb, get_or, subst, arith}
use borrow.Author.Tests.{eqb-true, not-false}
use Rattle.live.proofs.Bits.{or-none}
use Rattle.narrowing.specs.TupleRows.{both, BitsInRows}
use Rattle.narrowing.proofs.TupleRows.{bits-both, apart_more}
use Rattle.narrowing.proofs.rows.meet_both.Goals as goal

pub loop-i-preserved : goal.loop-i-preserved
loop-i-preserved c e =
    let a = c.args in
    let l = c.loop-i in
    let none = or-none l.any _ e in
    apart_more a.index.now (both a.a a.b) l.i 2 a.from a.words.now
    (subst (BitsInRows a.index.now 2 (both a.a a.b) l.i (get_or a.words.now l.i 0)) none.1 (bits-both a.index.now a.a a.b l.i (get_or a.words.now l.i 0)))
    (l.invariant none.0)

pub returns : goal.returns
returns c e g l h =
    let w = c.loop-i in
    w.invariant (eqb-true w.any 0 (not-false (eqb w.any 0) e)) g l (omega arith)
