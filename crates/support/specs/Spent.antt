-- Fresh tuples in a search: what it asks of them, and which are spent once a long one has ended.
use Rattle.std.specs.Prelude.{◌≡◌, Bool, true, false, ℕ, ◌+◌, ◌≤◌, ◌<◌, length, get_or}
use mathlib.Core.List.{List, map, Memᴰ}
use Rattle.model.specs.Limits.{max_relations}
use Rattle.model.specs.Lists.{earlier}
use Rattle.model.specs.Network.{Network, size, first_id, index_of}
use Rattle.model.specs.Agreement.{agree}
use Rattle.model.specs.TupleSet.{has}
use Rattle.model.specs.Combination.{Combination}
use Rattle.model.specs.Support.{candidates, is_support}
use Rattle.model.specs.LiveWords.{is_live}
use Rattle.layout.specs.Setting.{Lists, network_in, SoundLists}
use Rattle.narrowing.specs.Narrows.{Long}
use Rattle.spreading.specs.Fresh.{Meets}
use Rattle.support.specs.Search.{Search, net_of, live_of, id_at, seeker, SoundSearch, Seeking, place_behind, past_own}

-- ---- What a search asks

-- The seeking tuple lives, and there are two other members or more.
pub record Rooted (Q : Search) (index : List ℕ) : Type 0 where
  pub seeking : Seeking Q index
  pub lives : has (live_of Q) (seeker Q) ≡ true
  pub further : place_behind Q.place (past_own Q.place Q.own 0 Q.low).k < length Q.members

-- every support of a tuple of the seeking tuple's member has a fresh tuple beside it
abbrev pub MeetsIn : Search → List ℕ → Type 0
MeetsIn Q fresh = Meets (net_of Q) Q.members Q.place Q.words fresh

-- .. if there is another member
abbrev pub MeetsBeside : Search → List ℕ → Type 0
MeetsBeside Q fresh = 1 < length Q.members → MeetsIn Q fresh

-- .. and no support of the seeking tuple is earlier than low.
pub record FreshFrom (Q : Search) (fresh : List ℕ) : Type 0 where
  pub meets : MeetsBeside Q fresh
  pub lowest : (u : List ℕ) → Memᴰ u (candidates (net_of Q) Q.members) → is_support (net_of Q) (live_of Q) (seeker Q) u ≡ true → earlier (map (index_of (net_of Q)) u) Q.low ≡ false

-- ---- What is spent

-- Tuple x of relation r, and the ids of relation s below `end`.
pub record SpendAt (L : Lists) (r x s end : ℕ) : Type 0 where
  pub laid : SoundLists L
  pub first : r < max_relations
  pub own : x < size (network_in L) r
  pub second : s < max_relations
  pub from_first : first_id (network_in L) s ≤ end
  pub to_end : end ≤ first_id (network_in L) s + size (network_in L) s

-- The end of a relation's ids, or the bound if that is below it and j is k.
pub record EndBelow (end j k bound n : ℕ) : Type 0 where
  pub to_end : n ≤ end
  pub below : j ≡ k → n ≤ bound
  pub above : (first : ℕ) → first ≤ end → (j ≡ k → first ≤ bound) → first ≤ n

-- What is no longer fresh is a tuple of relation s, below id `end`, that agrees with tuple x of relation r.
pub record Spent (N : Network) (r x s end : ℕ) (before after : List ℕ) : Type 0 where
  pub long : Long after
  pub spent : (g : ℕ) → is_live before g ≡ true → is_live after g ≡ false → (first_id N s ≤ g) × (g < end) × (agree N (first_id N r + x) g ≡ true)

-- The search of a tuple, and a bound of the ids of the member at k.
pub record FreshAt (L : Lists) (words : List ℕ) (members : Combination) (place own k bound : ℕ) : Type 0 where
  pub low : List ℕ
  pub sound : SoundSearch (record { lists = L; words = words; members = members; place = place; own = own; low = low })
  pub bounded : first_id (network_in L) (get_or members k 0) ≤ bound

-- a tuple of another member that is not fresh agrees with the seeking one, and is below the bound if it is one of the member at k
abbrev pub Spends : Network → Combination → ℕ → ℕ → ℕ → ℕ → List ℕ → Type 0
Spends N members place own k bound fresh =
    (j z : ℕ) → j < length members → (j ≡ place → ⊥) → z < size N (get_or members j 0) → is_live fresh (id_at N members j z) ≡ false → (agree N (id_at N members place own) (id_at N members j z) ≡ true) × (j ≡ k → id_at N members j z < bound)

-- The search of a tuple; what was found has tuple t of the member at k.
pub record NoteAt (L : Lists) (words : List ℕ) (members : Combination) (place own k : ℕ) (found : Bool) (t : ℕ) : Type 0 where
  pub low : List ℕ
  pub sound : SoundSearch (record { lists = L; words = words; members = members; place = place; own = own; low = low })
  pub inside : k < length members
  pub index : found ≡ true → t < size (network_in L) (get_or members k 0)

-- A tuple of another member that is not fresh agrees with the seeking one, and comes before tuple t, if that was found, in the member at k.
pub record Notes (N : Network) (members : Combination) (place own k : ℕ) (found : Bool) (t : ℕ) (fresh : List ℕ) : Type 0 where
  pub long : Long fresh
  pub agrees : (j z : ℕ) → j < length members → (j ≡ place → ⊥) → z < size N (get_or members j 0) → is_live fresh (id_at N members j z) ≡ false → agree N (id_at N members place own) (id_at N members j z) ≡ true
  pub below : found ≡ true → (z : ℕ) → k < length members → (k ≡ place → ⊥) → z < size N (get_or members k 0) → is_live fresh (id_at N members k z) ≡ false → z < t
