-- `in_rows` goes row by row, by the laws of a word's ids in rows.
use Rattle.std.proofs.Common.{ℕ, ◌+◌, get_or, bit_and, sym, ◌∙◌, subst, arith}
use Rattle.std.proofs.lemmas.List.{get_or-take}
use Rattle.narrowing.specs.TupleRows.{BitsInRows}
use Rattle.narrowing.proofs.TupleRows.{bits_none, bits-more}
use Rattle.narrowing.proofs.rows.in_rows.Goals as goal

pub loop-row-init : goal.loop-row-init
loop-row-init c = let a = c.args in bits_none a.index.now a.rows.now a.i a.word

pub loop-row-preserved : goal.loop-row-preserved
loop-row-preserved c =
    let l = c.loop-row in
    let a = c.args in
    subst (λ (first : ℕ). BitsInRows a.index.now (l.row-index + 1) a.rows.now a.i a.word (bit_and l.w (get_or a.index.now (first + a.i) 0))) (sym (c.wide.ensures.0 ∙ get_or-take a.n a.rows.now l.row-index 0 (omega arith)))
    (bits-more a.index.now a.rows.now a.i l.row-index a.word l.w l.invariant)
