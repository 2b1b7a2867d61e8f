-- `keep_edge` narrows the bits of one word between two ids, by the laws of a word by its mask.
use Rattle.std.proofs.Common.{get_or, arith}
use Rattle.narrowing.specs.TupleRows.{in_rows}
use Rattle.narrowing.proofs.Words.{keeps-edge, mask-passing, mask-stays}
use Rattle.narrowing.proofs.kept.keep_edge.Goals as goal

pub returns : goal.returns
returns c =
    let a = c.args in
    let x = get_or a.words.now a.i 0 in
    let mask = c.between-mask in
    let left = c.in_rows-w in
    let test = in_rows a.index.now a.rows.now a.n in
    keeps-edge test a.i a.words.now c.requires.0 (omega arith) a.start a.end _ left.result
    (mask-stays test a.i a.start a.end x mask.result left.result mask.ensures left.ensures)
    (mask-passing test a.i a.start a.end x mask.result left.result mask.ensures left.ensures)
