-- `keep_rows` narrows the first word, and where there are more, the words between and the last one, by the laws of the words of ids.
use Rattle.std.proofs.Common.{ℕ, ◌<◌, Bool, arith}
use Rattle.narrowing.specs.TupleRows.{in_rows}
use Rattle.narrowing.proofs.Words.{Edges, edges-rise, keeps-edges}
use Rattle.narrowing.proofs.kept.keep_rows.Goals as goal

pub returns : goal.returns
returns c =
    let a = c.args in
    let test : ℕ → Bool = in_rows a.index.now a.rows.now a.n in
    let edges : Edges a.start a.end c.wide-i.result c.wide-last.result =
    record { some = c.if-end-start.false; first = c.wide-i.ensures.0; final = c.wide-last.ensures.0 }
    in
    let more : c.wide-i.result < c.wide-last.result = omega (arith, edges-rise edges) in
    keeps-edges test edges c.keep_edge-left.ensures more c.keep_middle-middle.ensures c.keep_edge-right.ensures
