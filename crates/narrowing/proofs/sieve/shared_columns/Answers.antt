-- `shared_columns` tries one column of scope a after the other, and whichever it ends with will do, by what `column_of` ensures.
use Rattle.std.proofs.Common.{◌≡◌, List, ℕ, ◌<◌, length, get_or, sym, subst, arith}
use Rattle.layout.specs.Columns.{column_of}
use Rattle.layout.proofs.Columns.{column-found}
use Rattle.narrowing.proofs.sieve.shared_columns.Goals as goal

-- the column found has the same variable
same-column : (scope : List ℕ) (x j : ℕ) → j ≡ column_of x scope → j < length scope → x ≡ get_or scope j 0
same-column scope x j e l = sym (subst (λ (k : ℕ). get_or scope k 0 ≡ x) (sym e) (column-found x scope (subst (λ (k : ℕ). k < length scope) e l)))

pub returns-then-j-scope_b-clause-shares : goal.returns-then-j-scope_b-clause-shares
returns-then-j-scope_b-clause-shares c _ = (c.if-j-scope_b.true, same-column c.args.scope_b.now _ c.column_of-j.result c.column_of-j.ensures c.if-j-scope_b.true)

pub returns-then-j-scope_b-clause-common : goal.returns-then-j-scope_b-clause-common
returns-then-j-scope_b-clause-common c =
    record {
      same = λ _. (omega arith, c.if-j-scope_b.true, same-column c.args.scope_b.now _ c.column_of-j.result c.column_of-j.ensures c.if-j-scope_b.true);
      none = λ h. absurd (omega arith);
    }
