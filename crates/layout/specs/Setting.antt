-- A network and its combinations as a call is given them, and the facts that every function below the checks rests on.
use Rattle.std.specs.Prelude.{◌≡◌, true, List, ℕ, ◌*◌, ◌/◌, ◌≤◌, ◌<◌, length}
use Rattle.std.proofs.Math.Option.{none}
use Rattle.model.specs.Limits.{max_members, max_pairs}
use Rattle.model.specs.Lists.{all}
use Rattle.model.specs.TupleSet.{TupleSet}
use Rattle.model.specs.Network.{Network, total}
use Rattle.model.specs.Combination.{Combination, combinations}
use Rattle.model.specs.LiveWords.{living}
use Rattle.model.specs.Request.{Instance}
use Rattle.model.specs.Fault.{proper_members, network_faults, first_fault}
use Rattle.layout.specs.Starts.{records_in, outline, SoundStarts}

-- ---- A network's lists

-- The lists of all scopes and of all values, and where each relation begins in them.
pub record Lists : Type 0 where
  pub variables : List ℕ
  pub values : List ℕ
  pub starts : List ℕ

-- the lists that references lend at a moment: `lists now ..` in a requires, `lists entry ..` in an ensures
abbrev pub lists : {A : Type 0} → (A → List ℕ) → A → A → A → Lists
lists at variables values starts = record { variables = at variables; values = at values; starts = at starts }

abbrev pub network_in : Lists → Network
network_in L = record { relations = records_in L.starts; variables = L.variables; values = L.values }

-- A network without the faults 2 to 6, and its starts.
pub record SoundLists (L : Lists) : Type 0 where
  pub framed : SoundStarts L.starts
  pub faultless : first_fault (network_faults (network_in L)) ≡ none

-- ---- With its combinations

-- The lists, and the members of the combinations, m each.
pub record Setting : Type 0 where
  pub lists : Lists
  pub members : List ℕ
  pub m : ℕ

abbrev pub setting : {A : Type 0} → (A → List ℕ) → A → A → A → A → ℕ → Setting
setting at variables values starts members m = record { lists = lists at variables values starts; members = at members; m = m }

abbrev pub network : Setting → Network
network G = network_in G.lists

abbrev pub instance_in : Setting → Instance
instance_in G = record { network = network G; m = G.m; members = G.members }

-- its combinations
abbrev pub listed : Setting → List Combination
listed G = combinations G.m G.members

-- The list holds whole combinations of m members, not too many: no fault 7 or 8.
pub record Whole (m : ℕ) (members : List ℕ) : Type 0 where
  pub positive : 0 < m
  pub few : m ≤ max_members
  pub whole : length members / m * m ≡ length members
  pub short : length members ≤ max_pairs

-- Combinations without the faults 7 to 9, of the relations that the starts describe.
pub record SoundPairs (starts : List ℕ) (m : ℕ) (members : List ℕ) : Type 0 where
  pub list : Whole m members
  pub proper : all (proper_members (outline starts)) (combinations m members) ≡ true

-- An instance without the faults 2 to 9, and its starts.
pub record Sound (G : Setting) : Type 0 where
  pub laid : SoundLists G.lists
  pub paired : SoundPairs G.lists.starts G.m G.members

-- ---- The live tuples

abbrev pub live_in : Setting → List ℕ → TupleSet
live_in G words = living (total (network G)) words
