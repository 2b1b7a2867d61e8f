-- Laws of the column of a variable in a scope.
-- From the definition of `column_of`.
use mathlib.Core.Path.{◌≡◌, refl}
use mathlib.Core.Bool.{Bool, true, false, cond}
use mathlib.Core.List.{List, [], ◌∷◌}
use Prim.Native.Nat.{ℕ, zero, suc, ◌≤◌, ◌<◌}
use native.Mathlib.Nat.{le_of_suc-le-suc}
use native.Mathlib.Omega.{arith}
use lib.Dec.{eqb}
use lib.ListN.{length, get_or}
use borrow.Author.Tests.{eqb-true, eqb-false}
use Rattle.std.specs.List.{position}
use Rattle.std.specs.Option.{unwrap_or}
use Rattle.std.proofs.lemmas.Bool.Decides.{nat_tests}
use Rattle.layout.specs.Columns.{column_of}

-- the first place with the variable, as a walk of the scope finds it
pub column-position : (x : ℕ) (xs : List ℕ) → column_of x xs ≡ unwrap_or (position (λ (y : ℕ). eqb y x) xs) (length xs)
column-position x [] = refl
column-position x (y ∷ ys) = grind (arith, nat_tests, column-position x ys)

module _ (x : ℕ) where
  -- the variable stands in a column below the width
  pub column-found : (xs : List ℕ) → column_of x xs < length xs → get_or xs (column_of x xs) 0 ≡ x
  column-found [] h = absurd (omega arith)
  column-found (y ∷ ys) h = first (eqb y x) refl (column-found ys) h
    where
      first : (b : Bool) → eqb y x ≡ b → (column_of x ys < length ys → get_or ys (column_of x ys) 0 ≡ x) → cond b 0 (suc (column_of x ys)) < suc (length ys) → get_or (y ∷ ys) (cond b 0 (suc (column_of x ys))) 0 ≡ x
      first true e f l = eqb-true y x e
      first false e f l = f (le_of_suc-le-suc l)

  -- and where there is none, nowhere
  pub column-none : (xs : List ℕ) → length xs ≤ column_of x xs → (k : ℕ) → k < length xs → get_or xs k 0 ≡ x → ⊥
  column-none [] h k l e = omega arith
  column-none (y ∷ ys) h k l e = first (eqb y x) refl (column-none ys) h k l e
    where
      first : (b : Bool) → eqb y x ≡ b → (length ys ≤ column_of x ys → (k : ℕ) → k < length ys → get_or ys k 0 ≡ x → ⊥) → suc (length ys) ≤ cond b 0 (suc (column_of x ys)) → (k : ℕ) → k < suc (length ys) → get_or (y ∷ ys) k 0 ≡ x → ⊥
      first true q f h k l e = omega arith
      first false q f h zero l e = eqb-false y x q e
      first false q f h (suc k) l e = f (le_of_suc-le-suc h) k (le_of_suc-le-suc l) e
