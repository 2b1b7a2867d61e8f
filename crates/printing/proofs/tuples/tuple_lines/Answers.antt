-- One relation's lines after the other's. From the laws of the lines relation by relation, and of texts written part by part.
use Rattle.std.proofs.Common.{ap, length, ◌+◌, length-append, arith}
use Rattle.printing.specs.Lines.{relation_text}
use Rattle.printing.proofs.Appended.{appended-same, remains-length, remains-then, remains-same, remains-none}
use Rattle.printing.proofs.Relations.{lines_from, lines_from-all, lines_from-none, lines_from-next}
use Rattle.printing.proofs.tuples.tuple_lines.Goals as goal

pub relation_lines-n-requires-clause-r_in_bounds : goal.relation_lines-n-requires-clause-r_in_bounds
relation_lines-n-requires-clause-r_in_bounds c =
    let a = c.args in
    let l = c.loop-r in
    let p = c.requires.printable in
    omega (arith, c.requires.words_in_bounds, l.invariant.long, remains-length (omega (arith, c.requires.words_in_bounds)) l.invariant, ap length (lines_from-next p l.r (omega (arith, c.relation_count-relations.ensures))), length-append (relation_text a.starts.now a.values.now a.words.now l.r) (lines_from a.starts.now a.values.now a.words.now (l.r + 1)), ap length (lines_from-all p))

pub loop-r-preserved : goal.loop-r-preserved
loop-r-preserved c =
    let l = c.loop-r in
    remains-then (remains-same (lines_from-next c.requires.printable l.r (omega (arith, c.relation_count-relations.ensures))) l.invariant) c.relation_lines-n.ensures

pub returns : goal.returns
returns c =
    let l = c.loop-r in
    let p = c.requires.printable in
    appended-same (lines_from-all p) (remains-none (remains-same (lines_from-none p l.r (omega (arith, c.relation_count-relations.ensures))) l.invariant))
