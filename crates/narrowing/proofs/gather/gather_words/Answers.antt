-- `gather_words` is `gather_four` of one to four rows, and `gather_all` of others, by the laws of one to four rows as four.
use Rattle.std.proofs.Common.{◌*◌, arith}
use Rattle.narrowing.specs.TupleRows.{four, in_rows}
use Rattle.narrowing.proofs.Gathered.{joins-as}
use Rattle.narrowing.proofs.TupleRows.{two-of, four-rows}
use Rattle.narrowing.proofs.gather.gather_words.Goals as goal

pub returns-then-n-le2 : goal.returns-then-n-le2
returns-then-n-le2 c =
    let f = c.four_of-f.result in
    let a = c.args in
    let test = in_rows a.index.now (four f.a f.b f.b f.b) 4 in
    joins-as test a.from.now (in_rows a.index.now a.rows.now a.n) (64 * a.first) (64 * a.last) a.to.now _
    (four-rows a.index.now (two-of c.if-n-le2.true c.four_of-f.ensures) (omega arith) (omega arith))
    c.gather_four.ensures

pub returns : goal.returns
returns c =
    let f = c.four_of-f.result in
    let a = c.args in
    let test = in_rows a.index.now (four f.a f.b f.c f.d) 4 in
    joins-as test a.from.now (in_rows a.index.now a.rows.now a.n) (64 * a.first) (64 * a.last) a.to.now _
    (four-rows a.index.now c.four_of-f.ensures (omega arith) (omega arith))
    c.gather_four-2.ensures
