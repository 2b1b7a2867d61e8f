use Rattle.std.proofs.Common.{◌≡◌, ◌+◌, ◌-◌, suc, arith}
use Rattle.value_index.proofs.Entries.{grows-on, row_next, column-more}
use Rattle.value_index.proofs.enter_column.Goals as goal

pub loop-g-preserved : goal.loop-g-preserved
loop-g-preserved c =
    let l = c.loop-g in
    let a = c.args in
    let new = c.enter_cell.new.index in
    let grown = c.enter_cell.ensures.1.0 in
    let n : l.g + 1 - a.first ≡ suc (l.g - a.first) = omega arith in record {
      place = rw n (omega (arith, row_next (l.g - a.first) a.width));
      full = c.enter_cell.ensures.0;
      grown = grows-on a.index.now l.index new l.invariant.grown grown;
      entered = column-more a.values.now a.at a.width a.c a.start a.first l.g l.p l.index new (omega arith) l.invariant.place grown c.enter_cell.ensures.1.1 l.invariant.entered;
    }
