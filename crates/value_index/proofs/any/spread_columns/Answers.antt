use Rattle.std.proofs.Common.{◌≡◌, ℕ, ◌∙◌, sym, subst, arith}
use Rattle.value_index.specs.Plan.{column_start}
use Rattle.value_index.specs.Index.{SpreadsAny}
use Rattle.value_index.proofs.Entries.{grows-on}
use Rattle.value_index.proofs.Spread.{columns-more}
use Rattle.value_index.proofs.any.spread_columns.Goals as goal

pub loop-c-preserved : goal.loop-c-preserved
loop-c-preserved c =
    let l = c.loop-c in
    let a = c.args in
    let new = c.spread_any.new.index in
    let grown = c.spread_any.ensures.1.0 in
    let is = c.column_start.ensures in
    let one : (column_start l.index a.r l.c ≡ 0 → ⊥) → SpreadsAny (column_start l.index a.r l.c) a.start a.end l.index new =
    λ d. subst (λ (n : ℕ). SpreadsAny n a.start a.end l.index new) is
    (λ g u h e v. c.spread_any.ensures.1.1 (λ z. d (sym is ∙ z)) g (omega (arith, u)) (omega (arith, h)) e v) in record {
      full = c.spread_any.ensures.0;
      grown = grows-on a.index.now l.index new l.invariant.grown grown;
      spread = columns-more a.index.now l.index new a.r l.c a.start a.end c.requires.1.0 (omega arith) l.invariant.grown grown one l.invariant.spread;
    }
