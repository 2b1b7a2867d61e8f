-- `keep_middle` is `keep_four` of one to four rows, and `keep_all` of others, by the laws of one to four rows as four.
use Rattle.std.proofs.Common.{◌*◌, arith}
use Rattle.narrowing.specs.TupleRows.{four, in_rows}
use Rattle.narrowing.proofs.Words.{keeps-as}
use Rattle.narrowing.proofs.TupleRows.{two-of, four-rows}
use Rattle.narrowing.proofs.kept.keep_middle.Goals as goal

pub returns-then-n-le2 : goal.returns-then-n-le2
returns-then-n-le2 c =
    let f = c.four_of-f.result in
    let a = c.args in
    let test = in_rows a.index.now (four f.a f.b f.b f.b) 4 in
    keeps-as test (in_rows a.index.now a.rows.now a.n) (64 * a.from) (64 * a.to) c.keep_four.result a.words.now _
    (four-rows a.index.now (two-of c.if-n-le2.true c.four_of-f.ensures) (omega arith) (omega arith))
    c.keep_four.ensures

pub returns : goal.returns
returns c =
    let f = c.four_of-f.result in
    let a = c.args in
    let test = in_rows a.index.now (four f.a f.b f.c f.d) 4 in
    keeps-as test (in_rows a.index.now a.rows.now a.n) (64 * a.from) (64 * a.to) c.keep_four-2.result a.words.now _
    (four-rows a.index.now c.four_of-f.ensures (omega arith) (omega arith))
    c.keep_four-2.ensures
