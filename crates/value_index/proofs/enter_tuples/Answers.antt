use Rattle.std.proofs.Common.{◌≡◌, ℕ, ◌∙◌, sym, subst, arith}
use Rattle.value_index.specs.Plan.{column_start}
use Rattle.value_index.specs.Index.{EntersColumn}
use Rattle.value_index.proofs.Entries.{grows-on, columns-entered}
use Rattle.value_index.proofs.enter_tuples.Goals as goal

pub loop-c-preserved : goal.loop-c-preserved
loop-c-preserved c =
    let l = c.loop-c in
    let a = c.args in
    let new = c.enter_column.new.index in
    let grown = c.enter_column.ensures.1.0 in
    let is = c.column_start-rows.ensures in
    let one : (column_start l.index a.r l.c ≡ 0 → ⊥) → EntersColumn a.values.now a.at a.width l.c (column_start l.index a.r l.c) a.start a.end new =
    λ d. subst (λ (n : ℕ). EntersColumn a.values.now a.at a.width l.c n a.start a.end new) is (c.enter_column.ensures.1.1 (λ z. d (sym is ∙ z)))
    in record {
      full = c.enter_column.ensures.0;
      grown = grows-on a.index.now l.index new l.invariant.grown grown;
      entered = columns-entered a.values.now a.at a.r a.width l.c a.start a.end l.index new c.requires.laid.1.0 (omega arith) grown one l.invariant.entered;
    }
