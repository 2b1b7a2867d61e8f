-- `keep_four` narrows word by word, by the laws of a word's ids in rows, and of words narrowed one after the other.
use Rattle.std.proofs.Common.{◌*◌, ◌+◌, ◌≤◌, get_or, arith}
use Rattle.narrowing.specs.TupleRows.{four, in_rows}
use Rattle.narrowing.proofs.Words.{keeps_on, keeps-word}
use Rattle.narrowing.proofs.TupleRows.{bits-four}
use Rattle.narrowing.proofs.kept.keep_four.Goals as goal

pub loop-i-preserved : goal.loop-i-preserved
loop-i-preserved c =
    let l = c.loop-i in
    let a = c.args in
    let on : 64 * a.from ≤ 64 * l.i = omega arith in
    let further : 64 * l.i ≤ 64 * (l.i + 1) = omega arith in
    let test = in_rows a.index.now (four a.a a.b a.c a.d) 4 in
    keeps_on test (64 * a.from) (64 * l.i) (64 * (l.i + 1)) l.any _ a.words.now l.words _ on further l.invariant
    (keeps-word test l.i l.words l.invariant.long (omega arith) _ (bits-four a.index.now a.a a.b a.c a.d l.i (get_or l.words l.i 0)))
