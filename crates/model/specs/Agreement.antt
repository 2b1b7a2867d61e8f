-- Where two tuples clash, when they agree, and when two relations share a variable.
use Rattle.std.specs.Prelude.{Bool, not, ◌&&◌, ◌||◌, List, [], ◌∷◌, map, ℕ, eqb}
use Rattle.std.proofs.Math.Option.{Option, none, some}
use Rattle.model.specs.Limits.{any_value, no_variable}
use Rattle.model.specs.Lists.{any, elem, select, is_none, least}
use Rattle.model.specs.Network.{Network, relation_of, scope_of, tuple_of}

-- The value stands for every value (card 4: makers write "any").
unfoldable pub is_any : ℕ → Bool
is_any v = eqb v any_value

-- Two values fit: they are equal, or one of them is any (card 4).
unfoldable pub fit : ℕ → ℕ → Bool
fit a b = eqb a b || (is_any a || is_any b)

-- A variable with the value under it.
abbrev pub Cell : Type 0
Cell = ℕ × ℕ

-- a scope's variables, each with the value in its place
abbrev pub cells : List ℕ → List ℕ → List Cell
cells [] vs = []
cells (x ∷ xs) [] = []
cells (x ∷ xs) (v ∷ vs) = (x, v) ∷ cells xs vs

-- the same variable has values that do not fit
unfoldable pub clash : Cell → Cell → Bool
clash x y = eqb x.0 y.0 && not (fit x.1 y.1)

-- the variables under which a cell of the one clashes with a cell of the other, in whatever places they stand
unfoldable pub clashes : List Cell → List Cell → List ℕ
clashes xs ys = map (λ (x : Cell). x.0) (select (λ (x : Cell). any (clash x) ys) xs)

-- the lowest of them, or none
abbrev pub first_clashing : List Cell → List Cell → Option ℕ
first_clashing xs ys = least (clashes xs ys)

-- there is none
unfoldable pub agreeing : List Cell → List Cell → Bool
agreeing xs ys = is_none (first_clashing xs ys)

-- the cells under the variables that pass the test
abbrev pub under : (ℕ → Bool) → List Cell → List Cell
under test xs = select (λ (x : Cell). test x.0) xs

unfoldable pub cells_of : Network → ℕ → List Cell
cells_of N g = cells (scope_of N (relation_of N g)) (tuple_of N g)

-- Where the tuples with ids g and h clash: the lowest variable that both scopes have and whose values do not fit, or none (card 3:
-- the lowest-numbered shared question on which two rows differ).
unfoldable pub first_clash : Network → ℕ → ℕ → Option ℕ
first_clash N g h = first_clashing (cells_of N g) (cells_of N h)

-- The two tuples agree: they clash nowhere.
unfoldable pub agree : Network → ℕ → ℕ → Bool
agree N g h = is_none (first_clash N g h)

-- a clash as one number
abbrev pub clash_number : Option ℕ → ℕ
clash_number none = no_variable
clash_number (some x) = x

-- Relations r and s share a variable.
unfoldable pub share : Network → ℕ → ℕ → Bool
share N r s = any (λ (x : ℕ). elem x (scope_of N s)) (scope_of N r)
