-- `column_rows` answers where the rows of the variable's column begin, by the law of the column found.
use Rattle.std.proofs.Common.{ℕ, ◌<◌, length, get_or, subst, ◌∙◌, ap}
use Rattle.layout.proofs.Columns.{column-found}
use Rattle.narrowing.proofs.columns.column_rows.Goals as goal

pub returns : goal.returns
returns c d =
    let a = c.args in
    let e = c.column_of-c.ensures in
    record {
      column = c.column_of-c.result;
      inside = c.if-scope-c.false;
      same = ap (λ (k : ℕ). get_or a.scope.now k 0) e ∙ column-found a.v a.scope.now (subst (λ (k : ℕ). k < length a.scope.now) e c.if-scope-c.false);
      begins = c.column_start.ensures;
    }
