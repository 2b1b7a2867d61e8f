-- `gather_all` joins word by word, by what `in_rows` ensures, and the laws of a word joined.
use Rattle.std.proofs.Common.{◌+◌, ◌*◌, arith}
use Rattle.narrowing.specs.TupleRows.{in_rows}
use Rattle.narrowing.proofs.Gathered.{joins-on, joins_part}
use Rattle.narrowing.proofs.gather.gather_all.Goals as goal

pub loop-i-preserved : goal.loop-i-preserved
loop-i-preserved c =
    let l = c.loop-i in
    let a = c.args in
    let test = in_rows a.index.now a.rows.now a.n in
    joins-on test a.from.now (64 * a.first) (64 * l.i) (64 * (l.i + 1)) a.to.now l.to _ l.invariant
    (joins_part test a.from.now l.i (64 * l.i) (64 * (l.i + 1)) c.in_rows.result l.to l.invariant.long (omega arith) (omega arith) (omega arith) (λ j h _ _. c.in_rows.ensures j h))
