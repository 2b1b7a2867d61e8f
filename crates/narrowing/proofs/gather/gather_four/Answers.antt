-- `gather_four` joins word by word, by the laws of a word's ids in rows, and of a word joined.
use Rattle.std.proofs.Common.{◌+◌, ◌*◌, get_or, arith}
use Rattle.narrowing.specs.TupleRows.{four, in_rows}
use Rattle.narrowing.proofs.TupleRows.{bits-four}
use Rattle.narrowing.proofs.Gathered.{joins-on, joins_part}
use Rattle.narrowing.proofs.gather.gather_four.Goals as goal

pub loop-i-preserved : goal.loop-i-preserved
loop-i-preserved c =
    let l = c.loop-i in
    let a = c.args in
    let test = in_rows a.index.now (four a.a a.b a.c a.d) 4 in
    joins-on test a.from.now (64 * a.first) (64 * l.i) (64 * (l.i + 1)) a.to.now l.to _ l.invariant
    (joins_part test a.from.now l.i (64 * l.i) (64 * (l.i + 1)) _ l.to l.invariant.long (omega arith) (omega arith) (omega arith)
    (λ j h _ _. bits-four a.index.now a.a a.b a.c a.d l.i (get_or a.from.now l.i 0) j h))
