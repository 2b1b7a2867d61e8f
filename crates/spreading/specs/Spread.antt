-- A relation's live tuples narrowed through those of another, and the members of a combination through each other.
use Rattle.std.specs.Prelude.{◌≡◌, Bool, true, false, ◌⊎◌, ℕ, ◌+◌, ◌*◌, ◌/◌, ◌≤◌, ◌<◌, length, get_or}
use mathlib.Core.List.{List, Memᴰ}
use Rattle.model.specs.Limits.{max_relations, max_members}
use Rattle.model.specs.Lists.{pairwise}
use Rattle.model.specs.Network.{Network, size, first_id}
use Rattle.model.specs.Agreement.{agree}
use Rattle.model.specs.Combination.{Combination}
use Rattle.model.specs.Support.{candidates}
use Rattle.model.specs.LiveWords.{is_live}
use Rattle.model.specs.Fault.{proper_members}
use Rattle.layout.specs.Starts.{SoundStarts}
use Rattle.layout.specs.Setting.{Lists, network_in}
use Rattle.narrowing.specs.Narrows.{Long, Dead, Bare, Searchable}

-- ---- Two relations

-- r and s are numbers of relations
abbrev pub Two : ℕ → ℕ → Type 0
Two r s = (r < max_relations) × (s < max_relations)

-- No id is raised, the ids outside relation s stay, and so does a tuple of it that agrees with a live one of relation r.
pub record Spread (N : Network) (r s : ℕ) (before after : List ℕ) : Type 0 where
  pub inside : (g : ℕ) → is_live after g ≡ true → is_live before g ≡ true
  pub outside : (g : ℕ) → (g < first_id N s) ⊎ (first_id N s + size N s ≤ g) → is_live after g ≡ is_live before g
  pub keeps : (x z : ℕ) → x < size N r → z < size N s → agree N (first_id N r + x) (first_id N s + z) ≡ true → is_live before (first_id N r + x) ≡ true → is_live before (first_id N s + z) ≡ true → is_live after (first_id N s + z) ≡ true

-- .. false only where none of s's is live any more
abbrev pub Spreads : Network → ℕ → ℕ → List ℕ → List ℕ → Bool → Type 0
Spreads N r s before after found = Long after × (Spread N r s before after × (found ≡ false → Dead N s after))

-- ---- The members of a combination

-- Members that exist and rise, not too many.
pub record Members (N : Network) (members : Combination) : Type 0 where
  pub proper : proper_members N members ≡ true
  pub few : length members ≤ max_members

-- not too many numbers of relations
abbrev pub Numbers : List ℕ → Type 0
Numbers members = (length members ≤ max_members) × ((j : ℕ) → j < length members → get_or members j 0 < max_relations)

-- .. whose live tuples can be counted
abbrev pub Counted : List ℕ → List ℕ → List ℕ → Type 0
Counted starts words members = Long words × (SoundStarts starts × Numbers members)

-- .. in the combination of pair p, one of m members
pub record PairNumbers (members : List ℕ) (m p : ℕ) : Type 0 where
  pub positive : 0 < m
  pub few : m ≤ max_members
  pub within : p / m * m + m ≤ length members
  pub numbers : (j : ℕ) → j < length members → get_or members j 0 < max_relations

-- .. of sound lists with their index
abbrev pub Spreadable : Lists → List ℕ → Combination → ℕ → Type 0
Spreadable L index members place = (Searchable L index × Members (network_in L) members) × (place < length members)

-- all tuples are live
abbrev pub AllLive : List ℕ → List ℕ → Type 0
AllLive words t = (g : ℕ) → Memᴰ g t → is_live words g ≡ true

-- the member at place j is not narrowed: it comes before the first that may be, or is the one at `place`
abbrev pub Held : ℕ → ℕ → ℕ → Type 0
Held place from j = (j < from) ⊎ (j ≡ place)

-- The member at place j may be narrowed.
pub record Free (members : List ℕ) (place from j : ℕ) : Type 0 where
  pub inside : j < length members
  pub other : j ≡ place → ⊥
  pub behind : from ≤ j

-- A place from `from` on, neither `place` nor j; or none of `count`.
pub record OtherFrom (count place j from n : ℕ) : Type 0 where
  pub behind : from ≤ n
  pub not-place : n < count → n ≡ place → ⊥
  pub not-j : n < count → n ≡ j → ⊥

-- No id is raised, those of the members that are held stay, and so do live tuples of all members of which every two agree.
pub record KeepsSupports (N : Network) (members : Combination) (place from : ℕ) (before after : List ℕ) : Type 0 where
  pub inside : (g : ℕ) → is_live after g ≡ true → is_live before g ≡ true
  pub held : (j x : ℕ) → j < length members → Held place from j → x < size N (get_or members j 0) → is_live after (first_id N (get_or members j 0) + x) ≡ is_live before (first_id N (get_or members j 0) + x)
  pub keeps : (t : List ℕ) → Memᴰ t (candidates N members) → pairwise (agree N) t ≡ true → AllLive before t → AllLive after t

-- .. false only where one of the others has no live tuple left
abbrev pub SpreadsMembers : Network → Combination → ℕ → ℕ → List ℕ → List ℕ → Bool → Type 0
SpreadsMembers N members place from before after found =
    Long after × (KeepsSupports N members place from before after × (found ≡ false → Bare N members place from after))
