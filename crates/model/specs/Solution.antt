-- Solutions (document 01: complete orders).
use Rattle.std.specs.Prelude.{Bool, not, ◌&&◌, ℕ, length}
use Rattle.model.specs.Limits.{variable_count}
use Rattle.model.specs.Lists.{from, all, any}
use Rattle.model.specs.TupleSet.{TupleSet, has}
use Rattle.model.specs.Network.{Network, ids_of}
use Rattle.model.specs.Agreement.{Cell, is_any, fit, cells_of}

-- An assignment gives every variable a value.
abbrev pub Assignment : Type 0
Assignment = ℕ → ℕ

-- it gives no variable any (card 4: a complete order gives every question a code other than "any")
unfoldable pub definite : Assignment → Bool
definite a = all (λ (x : ℕ). not (is_any (a x))) (from 0 variable_count)

-- the values of tuple g fit those that a assigns to its relation's variables
unfoldable pub follows : Network → Assignment → ℕ → Bool
follows N a g = all (λ (x : Cell). fit x.1 (a x.0)) (cells_of N g)

-- a is a solution while S lives: it is definite, and each relation has a live tuple that follows it
unfoldable pub is_solution : Network → TupleSet → Assignment → Bool
is_solution N S a =
    definite a && all (λ (r : ℕ). any (λ (g : ℕ). has S g && follows N a g) (ids_of N r)) (from 0 (length N.relations))
