-- Members that nothing completes: no live tuples of those left agree with each other, with the seeking tuple and with any of the others.
use Rattle.std.specs.Prelude.{◌≡◌, Bool, true, false, ℕ, ◌+◌, ◌≤◌, ◌<◌, length, get_or}
use mathlib.Core.List.{List, Memᴰ}
use Rattle.model.specs.Limits.{max_relations}
use Rattle.model.specs.Lists.{pairwise}
use Rattle.model.specs.Network.{Network, size, total, first_id}
use Rattle.model.specs.Agreement.{agree}
use Rattle.model.specs.Combination.{Combination}
use Rattle.model.specs.Support.{candidates, Partners}
use Rattle.model.specs.LiveWords.{is_set, is_live, living}
use Rattle.layout.specs.Setting.{Lists, network_in}
use Rattle.narrowing.specs.Narrows.{Long, Dead, Narrowed}
use Rattle.spreading.specs.Spread.{Spreadable}

-- ---- Places left

-- The set without place j: it has not j, and none that the other has not.
pub record Without (before j after : ℕ) : Type 0 where
  pub gone : is_set after j ≡ false
  pub inside : (i : ℕ) → is_set after i ≡ true → is_set before i ≡ true

-- Place j is one of these members', and in the set.
pub record Left (members : List ℕ) (left j : ℕ) : Type 0 where
  pub inside : j < length members
  pub in-set : is_set left j ≡ true

-- The members at these places are numbers of relations, and none of them is relation r.
pub record OthersLeft (members : List ℕ) (left r : ℕ) : Type 0 where
  pub few : (j : ℕ) → Left members left j → get_or members j 0 < max_relations
  pub other : (j : ℕ) → Left members left j → get_or members j 0 ≡ r → ⊥

-- One of them has no live tuple left.
pub record BareLeft (N : Network) (members : List ℕ) (left : ℕ) (words : List ℕ) : Type 0 where
  pub j : ℕ
  pub at : Left members left j
  pub dead : Dead N (get_or members j 0) words

-- they are narrowed for tuple x of relation r; false only where one of them has no live tuple left
abbrev pub NarrowsLeft : Lists → List ℕ → ℕ → ℕ → ℕ → List ℕ → List ℕ → Bool → Type 0
NarrowsLeft L members left r x before after found =
    Long after
    × (Narrowed (network_in L) (first_id (network_in L) r + x) before after × (found ≡ false → BareLeft (network_in L) members left after))

-- no live tuple of relation s agrees with tuple x of relation r and with tuple y of relation q
abbrev pub Unmet : Network → ℕ → ℕ → ℕ → ℕ → ℕ → List ℕ → Type 0
Unmet N r x s q y words =
    (z : ℕ) → z < size N s → is_live words (first_id N s + z) ≡ true → agree N (first_id N r + x) (first_id N s + z) ≡ true → agree N (first_id N q + y) (first_id N s + z) ≡ true → ⊥

-- ---- Refutation

-- One tuple of each member, tuple `own` of the one at `place`: every two agree, and those at the places left are live.
pub record Completes (N : Network) (members : Combination) (place own : ℕ) (words : List ℕ) (left : ℕ) (t : List ℕ) : Type 0 where
  pub candidate : Memᴰ t (candidates N members)
  pub agrees : pairwise (agree N) t ≡ true
  pub seeking : get_or t place 0 ≡ first_id N (get_or members place 0) + own
  pub lives : (j : ℕ) → Left members left j → is_live words (get_or t j 0) ≡ true

-- there are none such
abbrev pub Refuted : Network → Combination → ℕ → ℕ → List ℕ → ℕ → Type 0
Refuted N members place own words left = (t : List ℕ) → Completes N members place own words left t → ⊥

-- .. with tuple x of the member at i
abbrev pub RefutedWith : Network → Combination → ℕ → ℕ → List ℕ → ℕ → ℕ → ℕ → Type 0
RefutedWith N members place own words left i x =
    (t : List ℕ) → Completes N members place own words left t → get_or t i 0 ≡ first_id N (get_or members i 0) + x → ⊥

-- n steps are left of so many; any but 0 only where the claim holds
abbrev pub Shows : Type 0 → ℕ → ℕ → Type 0
Shows claim steps n = (n ≤ steps) × ((n ≡ 0 → ⊥) → claim)

-- the seeking tuple has no partners
abbrev pub Alone : Network → Combination → ℕ → ℕ → List ℕ → Type 0
Alone N members place own words = Partners N (living (total N) words) members place (first_id N (get_or members place 0) + own) → ⊥

-- ---- Contracts

-- members of sound lists with their index, and the seeking tuple one of its member's
abbrev pub Refutable : Lists → List ℕ → Combination → ℕ → ℕ → Type 0
Refutable L index members place own = Spreadable L index members place × (own < size (network_in L) (get_or members place 0))

-- Tuple x of the member at i, which is not the seeking tuple's; neither place is left.
pub record Taken (N : Network) (members : Combination) (place left i x : ℕ) : Type 0 where
  pub inside : i < length members
  pub other : i ≡ place → ⊥
  pub index : x < size N (get_or members i 0)
  pub gone : is_set left i ≡ false
  pub not_own : is_set left place ≡ false
