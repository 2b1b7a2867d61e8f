-- `live_between` goes word by word, by what `between` ensures, and the laws of words filled so.
use Rattle.std.proofs.Common.{ℕ, ◌/◌, subst, sym, arith}
use lib.ListN.{replicate}
use Rattle.narrowing.proofs.TupleRows.{Filled, filled_none, filled_more, filled-all}
use Rattle.narrowing.proofs.rows.live_between.Goals as goal

pub loop-i-init : goal.loop-i-init
loop-i-init c =
    let a = c.args in
    subst (λ (i : ℕ). Filled (a.start / 64) i a.start a.end a.words.now (replicate 64 0)) (sym c.wide-i.ensures.0) (filled_none (a.start / 64) a.start a.end a.words.now)

pub loop-i-preserved : goal.loop-i-preserved
loop-i-preserved c =
    let l = c.loop-i in
    let a = c.args in
    filled_more (a.start / 64) a.start a.end a.words.now l.i c.between.result l.alive (omega arith) (omega arith) c.between.ensures l.invariant

pub returns : goal.returns
returns c =
    let l = c.loop-i in
    let a = c.args in
    filled-all (a.start / 64) a.start a.end a.words.now l.i l.alive (omega arith) (omega arith) l.invariant
