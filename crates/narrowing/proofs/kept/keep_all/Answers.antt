-- `keep_all` narrows word by word, by what `in_rows` ensures, and the laws of words narrowed one after the other.
use Rattle.std.proofs.Common.{◌*◌, ◌+◌, ◌≤◌, arith}
use Rattle.narrowing.specs.TupleRows.{in_rows}
use Rattle.narrowing.proofs.Words.{keeps_on, keeps-word}
use Rattle.narrowing.proofs.kept.keep_all.Goals as goal

pub loop-i-preserved : goal.loop-i-preserved
loop-i-preserved c =
    let l = c.loop-i in
    let a = c.args in
    let on : 64 * a.from ≤ 64 * l.i = omega arith in
    let further : 64 * l.i ≤ 64 * (l.i + 1) = omega arith in
    let test = in_rows a.index.now a.rows.now a.n in
    keeps_on test (64 * a.from) (64 * l.i) (64 * (l.i + 1)) l.any _ a.words.now l.words _ on further l.invariant
    (keeps-word test l.i l.words l.invariant.long (omega arith) c.in_rows-w.result c.in_rows-w.ensures)
