-- Several choices at once, as two values for each variable.
use Rattle.std.specs.Prelude.{◌≡◌, Bool, not, ◌&&◌, ◌||◌, List, ℕ, ◌<◌, leb, ltb, eqb, length, get_or}
use Rattle.model.specs.Limits.{variable_count}
use Rattle.model.specs.Lists.{from, all, any}
use Rattle.model.specs.Network.{Network, total}
use Rattle.model.specs.Agreement.{Cell, fit, cells}
use Rattle.model.specs.Request.{choose, removes}
use Rattle.combination.specs.Proper.{below}
use Rattle.request.specs.declared.choices.Both.{Both}
use Rattle.request.specs.declared.choices.Choices.{Choices}

-- a value fits the two values of r exactly if it fits all three
abbrev pub Joins : Both → ℕ → ℕ → ℕ → Type 0
Joins r first second v = (a : ℕ) → (fit a r.first && fit a r.second) ≡ (fit a first && fit a second && fit a v)

-- value a fits the two values kept for variable x
abbrev pub fits_kept : List ℕ → List ℕ → ℕ → ℕ → Bool
fits_kept firsts seconds x a = fit a (get_or firsts x 0) && fit a (get_or seconds x 0)

-- value a fits what the pair chooses, as far as it speaks of variable x
abbrev pub fits_pair : ℕ → ℕ → Cell → Bool
fits_pair x a p = not (eqb p.0 x) || fit a p.1

-- The values kept are those of before with v for variable x besides.
pub record ChoiceAdded (firsts seconds : List ℕ) (x v : ℕ) (firsts' seconds' : List ℕ) : Type 0 where
  pub first-long : length firsts' ≡ length firsts
  pub second-long : length seconds' ≡ length seconds
  pub fits : (y a : ℕ) → y < variable_count → fits_kept firsts' seconds' y a ≡ (fits_kept firsts seconds y a && fits_pair y a (x, v))

-- The pairs of variables xs and values vs: how long both lists are; and where they are as long, the least number above all variables, and
-- for each variable two values, which a value fits exactly if it fits all that the pairs give the variable.
pub record ChoicesOf (r : Choices) (xs vs : List ℕ) : Type 0 where
  pub variables : r.variables ≡ length xs
  pub values : r.values ≡ length vs
  pub highest : length xs ≡ length vs → (n : ℕ) → leb r.bound n ≡ below n xs
  pub fits : (x a : ℕ) → x < variable_count → fits_kept r.firsts r.seconds x a ≡ all (fits_pair x a) (cells xs vs)

-- the choice of one of the two values kept for variable x removes tuple g
abbrev pub removes_kept : Network → List ℕ → List ℕ → ℕ → ℕ → Bool
removes_kept N firsts seconds g x = removes N (choose x (get_or firsts x 0)) g || removes N (choose x (get_or seconds x 0)) g

-- id g is a tuple of the network's that the choice of a value kept removes
abbrev pub removed_by_kept : Network → List ℕ → List ℕ → ℕ → Bool
removed_by_kept N firsts seconds g = ltb g (total N) && any (removes_kept N firsts seconds g) (from 0 variable_count)
