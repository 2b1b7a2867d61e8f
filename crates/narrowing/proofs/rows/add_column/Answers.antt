-- `add_column` puts the rows of the value under the variable, by the law of the column found.
use Rattle.std.proofs.Common.{ℕ, ◌<◌, length, get_or, subst, ◌∙◌, ap}
use Rattle.layout.proofs.Columns.{column-found}
use Rattle.narrowing.specs.TupleRows.{ValueRow}
use Rattle.narrowing.proofs.TupleRows.{adds-as}
use Rattle.narrowing.proofs.rows.add_column.Goals as goal

pub returns : goal.returns
returns c =
    let a = c.args in
    let i = c.column_of-i.result in
    let e = c.column_of-i.ensures in
    adds-as
    (λ first row.
    record {
      own = i;
      inside = c.if-scope_a-i.false;
      same = ap (λ (k : ℕ). get_or a.scope_a.now k 0) e ∙ column-found a.v a.scope_a.now (subst (λ (k : ℕ). k < length a.scope_a.now) e c.if-scope_a-i.false);
      row = subst (λ (n : ℕ). ValueRow a.index.now n (get_or a.a.now i 0) first) c.column_start.ensures row;
    })
    c.add_value.ensures
