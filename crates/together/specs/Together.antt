-- Supports sought together: the tuples of one member that seek, the ways to complete the tuples chosen so far, and what each step takes.
use Rattle.std.specs.Prelude.{◌≡◌, Bool, true, false, ◌⊎◌, ℕ, ◌+◌, ◌*◌, ◌≤◌, ◌<◌, length, get_or, take, drop, set}
use mathlib.Core.List.{List, Memᴰ}
use Rattle.model.specs.Lists.{earlier}
use Rattle.model.specs.Network.{Network, size, total}
use Rattle.model.specs.Agreement.{agree}
use Rattle.model.specs.TupleSet.{TupleSet}
use Rattle.model.specs.Combination.{Combination}
use Rattle.model.specs.Support.{candidates, is_support, first_support}
use Rattle.model.specs.LiveWords.{living, is_live}
use Rattle.layout.specs.Setting.{Lists, lists, network_in, SoundLists}
use Rattle.value_index.specs.Index.{Indexed}
use Rattle.narrowing.specs.Narrows.{Long}
use Rattle.spreading.specs.Spread.{Members}
use Rattle.support.specs.Search.{id_at, place_behind}

-- ---- The search

-- A search for the tuples of the member at `place`: a network's lists, and the members of a combination.
pub record Joint : Type 0 where
  pub lists : Lists
  pub members : Combination
  pub place : ℕ

-- the search that references lend at a moment: `joint now ..` in a requires, `joint entry ..` in an ensures
abbrev pub joint : {A : Type 0} → (A → List ℕ) → A → A → A → A → ℕ → Joint
joint at variables values starts members place = record { lists = lists at variables values starts; members = at members; place = place }

abbrev pub net_of : Joint → Network
net_of Q = network_in Q.lists

-- the id of tuple x of the member at j
abbrev pub tuple_at : Joint → ℕ → ℕ → ℕ
tuple_at Q j x = id_at (net_of Q) Q.members j x

-- how many tuples the member at j has
abbrev pub size_at : Joint → ℕ → ℕ
size_at Q j = size (net_of Q) (get_or Q.members j 0)

-- .. the member whose tuples seek
abbrev pub own_size : Joint → ℕ
own_size Q = size_at Q Q.place

-- the id of its tuple x
abbrev pub own_at : Joint → ℕ → ℕ
own_at Q x = tuple_at Q Q.place x

-- where the numbers of its tuple x begin, if those of tuple 0 begin at `start`
abbrev pub numbers_at : Joint → ℕ → ℕ → ℕ
numbers_at Q start x = start + x * length Q.members

-- the numbers themselves
abbrev pub held_at : Joint → ℕ → List ℕ → ℕ → List ℕ
held_at Q start numbers x = take (length Q.members) (drop (numbers_at Q start x) numbers)

-- there is room for the numbers of all
abbrev pub Room : Joint → ℕ → ℕ → Type 0
Room Q start room = numbers_at Q start (own_size Q) ≤ room

-- Sound lists with their index, and members that exist and rise.
pub record SoundJoint (Q : Joint) (index : List ℕ) : Type 0 where
  pub laid : SoundLists Q.lists
  pub indexed : Indexed (net_of Q) index
  pub members : Members (net_of Q) Q.members
  pub place : Q.place < length Q.members

-- ---- The tuples chosen

-- Place j is one before k, and not the seeking tuples'.
pub record Before (Q : Joint) (k j : ℕ) : Type 0 where
  pub below : j < k
  pub other : j ≡ Q.place → ⊥

-- Of the tuples chosen for the members before k, but the seeking tuples' one, every two agree.
pub record Chosen (Q : Joint) (k : ℕ) (chosen : List ℕ) : Type 0 where
  pub within : (j : ℕ) → Before Q k j → get_or chosen j 0 < size_at Q j
  pub agreeing : (i j : ℕ) → Before Q k i → Before Q k j → (i ≡ j → ⊥) → agree (net_of Q) (tuple_at Q i (get_or chosen i 0)) (tuple_at Q j (get_or chosen j 0)) ≡ true

-- It is the turn of member k, which is not the seeking tuples' own.
pub record SeekAt (Q : Joint) (index : List ℕ) (k : ℕ) (chosen : List ℕ) : Type 0 where
  pub sound : SoundJoint Q index
  pub inside : k < length Q.members
  pub other : k ≡ Q.place → ⊥
  pub begun : Chosen Q k chosen

-- .. and of its tuple y
pub record ChooseAt (Q : Joint) (index : List ℕ) (k : ℕ) (chosen : List ℕ) (y : ℕ) : Type 0 where
  pub turn : SeekAt Q index k chosen
  pub index_in : y < size_at Q k

-- .. where it is the last, and tuple x seeks
pub record LastAt (Q : Joint) (index : List ℕ) (k : ℕ) (chosen : List ℕ) (x : ℕ) : Type 0 where
  pub turn : SeekAt Q index k chosen
  pub last : place_behind Q.place k ≡ length Q.members
  pub own : x < own_size Q

-- Tuple x of the member at i, beside those chosen.
pub record BesideAt (Q : Joint) (k : ℕ) (chosen : List ℕ) (i x : ℕ) : Type 0 where
  pub laid : SoundLists Q.lists
  pub few : Members (net_of Q) Q.members
  pub depth : k ≤ length Q.members
  pub inside : i < length Q.members
  pub index : x < size_at Q i
  pub within : (j : ℕ) → Before Q k j → get_or chosen j 0 < size_at Q j

-- it agrees with all of them
abbrev pub AgreesAll : Joint → ℕ → List ℕ → ℕ → ℕ → Type 0
AgreesAll Q k chosen i x = (j : ℕ) → Before Q k j → agree (net_of Q) (tuple_at Q j (get_or chosen j 0)) (tuple_at Q i x) ≡ true

-- Whether it does.
pub record AgreesBefore (Q : Joint) (k : ℕ) (chosen : List ℕ) (i x : ℕ) (b : Bool) : Type 0 where
  pub right : b ≡ true → AgreesAll Q k chosen i x
  pub wrong : b ≡ false → AgreesAll Q k chosen i x → ⊥

-- ---- Supports that have the tuples chosen

-- One tuple of each member, by its index: every two agree, the seeking member's is x, those before k are the ones chosen, and those from k
-- on are live.
pub record Completes (Q : Joint) (k : ℕ) (chosen words : List ℕ) (x : ℕ) (is : List ℕ) : Type 0 where
  pub long : length is ≡ length Q.members
  pub within : (j : ℕ) → j < length Q.members → get_or is j 0 < size_at Q j
  pub agreeing : (i j : ℕ) → i < length Q.members → j < length Q.members → (i ≡ j → ⊥) → agree (net_of Q) (tuple_at Q i (get_or is i 0)) (tuple_at Q j (get_or is j 0)) ≡ true
  pub own : get_or is Q.place 0 ≡ x
  pub before : (j : ℕ) → Before Q k j → get_or is j 0 ≡ get_or chosen j 0
  pub behind : (j : ℕ) → k ≤ j → j < length Q.members → (j ≡ Q.place → ⊥) → is_live words (tuple_at Q j (get_or is j 0)) ≡ true

-- the tuples that are live and still seek have none
abbrev pub NoneLeft : Joint → ℕ → List ℕ → List ℕ → List ℕ → Type 0
NoneLeft Q k chosen words pending =
    (x : ℕ) (is : List ℕ) → x < own_size Q → is_live words (own_at Q x) ≡ true → is_live pending (own_at Q x) ≡ true → Completes Q k chosen words x is → ⊥

-- Tuple x, which is live, has the first as its numbers.
pub record Taken (Q : Joint) (start k : ℕ) (chosen words : List ℕ) (x : ℕ) (numbers : List ℕ) : Type 0 where
  pub lives : is_live words (own_at Q x) ≡ true
  pub support : List ℕ
  pub completes : Completes Q k chosen words x support
  pub lowest : (us : List ℕ) → Completes Q k chosen words x us → earlier us support ≡ false
  pub held : held_at Q start numbers x ≡ support

-- ---- What a step takes

-- No tuple begins to seek, nothing changes but for the tuples of the seeking member that ceased to, and their numbers.
pub record Frames (Q : Joint) (start : ℕ) (before after numbers numbers_after : List ℕ) : Type 0 where
  pub long : Long after
  pub inside : (g : ℕ) → is_live after g ≡ true → is_live before g ≡ true
  pub outside : (g : ℕ) → (g < own_at Q 0) ⊎ (own_at Q (own_size Q) ≤ g) → is_live after g ≡ is_live before g
  pub room : length numbers_after ≡ length numbers
  pub elsewhere : (b n : ℕ) → (b + n ≤ start) ⊎ (numbers_at Q start (own_size Q) ≤ b) → take n (drop b numbers_after) ≡ take n (drop b numbers)
  pub same : (x : ℕ) → x < own_size Q → is_live after (own_at Q x) ≡ is_live before (own_at Q x) → held_at Q start numbers_after x ≡ held_at Q start numbers x

-- .. and each of these has taken the first support with the tuples chosen.
pub record Takes (Q : Joint) (start k : ℕ) (chosen words before after numbers numbers_after : List ℕ) : Type 0 where
  pub frames : Frames Q start before after numbers numbers_after
  pub taken : (x : ℕ) → x < own_size Q → is_live before (own_at Q x) ≡ true → is_live after (own_at Q x) ≡ false → Taken Q start k chosen words x numbers_after

-- .. of which x may be one: if it still seeks, it has none.
pub record TakesOne (Q : Joint) (start k : ℕ) (chosen words : List ℕ) (x : ℕ) (before after numbers numbers_after : List ℕ) : Type 0 where
  pub takes : Takes Q start k chosen words before after numbers numbers_after
  pub none : is_live after (own_at Q x) ≡ true → (is : List ℕ) → Completes Q k chosen words x is → ⊥

-- .. and if steps are left, none of those that still seek has one.
pub record Seeks (Q : Joint) (start k : ℕ) (chosen words before after numbers numbers_after : List ℕ) (left : ℕ) : Type 0 where
  pub takes : Takes Q start k chosen words before after numbers numbers_after
  pub none : (left ≡ 0 → ⊥) → NoneLeft Q k chosen words after

-- .. with tuple y of member k
abbrev pub SeeksWith : Joint → ℕ → ℕ → List ℕ → ℕ → List ℕ → List ℕ → List ℕ → List ℕ → List ℕ → ℕ → Type 0
SeeksWith Q start k chosen y words before after numbers numbers_after left =
    Seeks Q start (place_behind Q.place k) (set chosen k y) words before after numbers numbers_after left

-- Narrowed for tuple y of member k: a tuple of a member that agrees with it stays, if it is not one of the seeking member's that does not
-- seek. True only where y agrees with all chosen; false only where none of those that seek has a support with it.
pub record Chooses (Q : Joint) (k : ℕ) (chosen : List ℕ) (y : ℕ) (pending before after : List ℕ) (b : Bool) : Type 0 where
  pub long : Long after
  pub inside : (g : ℕ) → is_live after g ≡ true → is_live before g ≡ true
  pub keeps : (j z : ℕ) → j < length Q.members → z < size_at Q j → (j ≡ Q.place → is_live pending (tuple_at Q j z) ≡ true) → agree (net_of Q) (tuple_at Q k y) (tuple_at Q j z) ≡ true → is_live before (tuple_at Q j z) ≡ true → is_live after (tuple_at Q j z) ≡ true
  pub agrees : b ≡ true → AgreesAll Q k chosen k y
  pub none : b ≡ false → NoneLeft Q (place_behind Q.place k) (set chosen k y) before pending

-- ---- With nothing chosen yet

abbrev pub live_of : Joint → List ℕ → TupleSet
live_of Q words = living (total (net_of Q)) words

-- tuple x has a support
abbrev pub Supported : Joint → List ℕ → ℕ → Type 0
Supported Q words x = (t : List ℕ) × Memᴰ t (candidates (net_of Q) Q.members) × (is_support (net_of Q) (live_of Q words) (own_at Q x) t ≡ true)

-- Tuple x, which is live, has a support, and the first as its numbers.
pub record HasFirst (Q : Joint) (start : ℕ) (words : List ℕ) (x : ℕ) (numbers : List ℕ) : Type 0 where
  pub lives : is_live words (own_at Q x) ≡ true
  pub supported : Supported Q words x
  pub held : held_at Q start numbers x ≡ first_support (net_of Q) (live_of Q words) Q.members (own_at Q x)

-- Each tuple that seeks no more has its first support; if steps are left, each that is live and still seeks has none.
pub record Together (Q : Joint) (start : ℕ) (words before after numbers numbers_after : List ℕ) (left : ℕ) : Type 0 where
  pub frames : Frames Q start before after numbers numbers_after
  pub taken : (x : ℕ) → x < own_size Q → is_live before (own_at Q x) ≡ true → is_live after (own_at Q x) ≡ false → HasFirst Q start words x numbers_after
  pub none : (left ≡ 0 → ⊥) → (x : ℕ) → x < own_size Q → is_live words (own_at Q x) ≡ true → is_live after (own_at Q x) ≡ true → Supported Q words x → ⊥
