-- The column of a variable in a scope.
use Rattle.std.specs.Prelude.{cond, List, [], ◌∷◌, ℕ, suc, eqb}

-- the first column of variable x; the width where the scope has none
abbrev pub column_of : ℕ → List ℕ → ℕ
column_of x [] = 0
column_of x (y ∷ ys) = cond (eqb y x) 0 (suc (column_of x ys))
