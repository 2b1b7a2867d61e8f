-- What the change calls are given.
use Rattle.std.specs.Prelude.{Bool, false, not, ◌&&◌, List, ℕ, eqb}
use Rattle.model.specs.Lists.{any, elem}
use Rattle.model.specs.Network.{Network}
use Rattle.model.specs.Agreement.{Cell, fit, cells, cells_of}
use Rattle.model.specs.Combination.{Combination, combinations}

-- The change call: filter; withdraw with the ids listed; choose with a variable and a value; choose several at once, with variables
-- and values that are paired by place (card 7).
pub data Change : Type 0 where
  filter : Change
  withdraw : List ℕ → Change
  choose : ℕ → ℕ → Change
  choose_several : List ℕ → List ℕ → Change

-- A network with its combinations: m members each, end to end in one list.
pub record Instance : Type 0 where
  pub network : Network
  pub m : ℕ
  pub members : List ℕ

abbrev pub combinations_of : Instance → List Combination
combinations_of I = combinations I.m I.members

-- A request: an instance, the live words, the support list and the live counts lent, and the change.
pub record Request : Type 0 where
  pub given : Instance
  pub words : List ℕ
  pub supports : List ℕ
  pub counts : List ℕ
  pub change : Change

-- tuple g has another value under the pair's variable: one that does not fit the pair's
abbrev pub unlike : Network → ℕ → Cell → Bool
unlike N g p = any (λ (c : Cell). eqb c.0 p.0 && not (fit c.1 p.1)) (cells_of N g)

-- the change removes tuple g (document 01: strikes), live or dead: withdraw what it lists, choose every tuple with
-- another value under the variable, choose several what any of its pairs removes, filter nothing
unfoldable pub removes : Network → Change → ℕ → Bool
removes N filter g = false
removes N (withdraw ids) g = elem g ids
removes N (choose x v) g = unlike N g (x, v)
removes N (choose_several xs vs) g = any (unlike N g) (cells xs vs)
