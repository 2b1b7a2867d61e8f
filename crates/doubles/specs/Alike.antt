-- Tuples of a relation with the same values under a set of variables: those that the other members of a combination have.
use Rattle.std.specs.Prelude.{◌≡◌, Bool, true, List, ℕ, ◌+◌, ◌%◌, ◌≤◌, ◌<◌, length, get_or}
use Rattle.model.specs.Lists.{elem}
use Rattle.model.specs.Network.{Network, size, first_id, scope_of}
use Rattle.model.specs.Agreement.{cells_of, under}
use Rattle.model.specs.Combination.{Covers}
use Rattle.model.specs.LiveWords.{is_set}
use Rattle.layout.specs.Starts.{records_in}
use Rattle.layout.specs.Setting.{Lists, network_in, SoundLists, Setting, network, Sound}
use Rattle.layout.specs.Pairs.{combination_of}

-- ---- Two tuples of a relation

-- Tuple x of relation r, in sound lists.
pub record TupleAt (L : Lists) (r x : ℕ) : Type 0 where
  pub laid : SoundLists L
  pub own : x < size (network_in L) r

-- tuples x and y of relation r have the same values under the variables of the set
abbrev pub Alike : Lists → ℕ → ℕ → ℕ → ℕ → Type 0
Alike L set r x y =
    let N = network_in L in under (is_set set) (cells_of N (first_id N r + x)) ≡ under (is_set set) (cells_of N (first_id N r + y))

-- ---- The variables of some members

-- Members that exist, in sound lists.
pub record MembersIn (L : Lists) (members : List ℕ) : Type 0 where
  pub laid : SoundLists L
  pub exist : (j : ℕ) → j < length members → get_or members j 0 < length (records_in L.starts)

-- every variable that the members from `from` on have, but for the one at `place`, passes the test
abbrev pub CoversFrom : Network → List ℕ → ℕ → ℕ → (ℕ → Bool) → Type 0
CoversFrom N members place from test =
    (i : ℕ) → from ≤ i → i < length members → (i ≡ place → ⊥) → (v : ℕ) → elem v (scope_of N (get_or members i 0)) ≡ true → test v ≡ true

-- ---- In a pair's combination

-- Pair p of a sound setting.
pub record PairAt (G : Setting) (p : ℕ) : Type 0 where
  pub sound : Sound G
  pub pair : p < length G.members

-- every variable that the other members of its combination have is in the set
abbrev pub Common : Setting → ℕ → ℕ → Type 0
Common G p set = Covers (network G) (combination_of G p) (p % G.m) (is_set set)
