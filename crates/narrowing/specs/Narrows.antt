-- The live words narrowed by the value index, to the tuples that may agree with one.
use Rattle.std.specs.Prelude.{◌≡◌, Bool, true, false, ◌&&◌, ◌||◌, List, ◌⊎◌, ℕ, ◌+◌, ◌*◌, ◌^◌, ◌≤◌, ◌<◌, min, max, ltb, leb, length, get_or}
use Rattle.model.specs.Limits.{max_relations, max_tuples, word_bits}
use Rattle.model.specs.Network.{Network, size, first_id}
use Rattle.model.specs.Agreement.{agree}
use Rattle.model.specs.LiveWords.{is_set, is_live}
use Rattle.model.specs.Edges.{max_words}
use Rattle.layout.specs.Setting.{Lists, network_in, SoundLists}
use Rattle.value_index.specs.Plan.{row_words}
use Rattle.value_index.specs.Index.{Indexed}

-- ---- Narrowing

-- an array of 64 words
abbrev pub Long : List ℕ → Type 0
Long words = length words ≡ max_words

-- id g stays when the ids from start on and below end are narrowed to those that pass the test
abbrev pub stays : (ℕ → Bool) → ℕ → ℕ → ℕ → Bool
stays passes start end g = ltb g start || (leb end g || passes g)

-- the ids from start on and below end are narrowed to those that pass the test, and every other bit is as before
abbrev pub KeptIds : (ℕ → Bool) → ℕ → ℕ → List ℕ → List ℕ → Type 0
KeptIds passes start end before after = (g : ℕ) → is_live after g ≡ (is_live before g && stays passes start end g)

-- the ids of the words from i on and below n are narrowed to those that pass the test, and every other bit is as before
abbrev pub Kept : (ℕ → Bool) → ℕ → ℕ → List ℕ → List ℕ → Type 0
Kept passes i n before after = KeptIds passes (word_bits * i) (word_bits * n) before after

-- of the ids from start on and below end, the first in word i, and the end of those in it
abbrev pub first_in : ℕ → ℕ → ℕ
first_in i start = max start (word_bits * i)

abbrev pub end_in : ℕ → ℕ → ℕ
end_in i end = min end (word_bits * (i + 1))

-- no id from start on and below end is live
abbrev pub NoneLive : ℕ → ℕ → List ℕ → Type 0
NoneLive start end words = (g : ℕ) → start ≤ g → g < end → is_live words g ≡ false

-- The ids from start on and below end are narrowed to those that pass the test, and every other bit is as before. What is left of them, w,
-- is 0 only where none of them is live any more.
pub record Keeps (passes : ℕ → Bool) (start end : ℕ) (before after : List ℕ) (w : ℕ) : Type 0 where
  pub long : Long after
  pub kept : KeptIds passes start end before after
  pub none : w ≡ 0 → NoneLive start end after

-- id g is from start on and below end
abbrev pub is_between : ℕ → ℕ → ℕ → Bool
is_between start end g = leb start g && ltb g end

-- the bits of word i whose ids are so
abbrev pub BitsBetween : ℕ → ℕ → ℕ → ℕ → Type 0
BitsBetween i start end w =
    (w < 2 ^ word_bits) × ((j : ℕ) → j < word_bits → is_set w j ≡ is_between start end (word_bits * i + j))

-- ---- Narrowing a relation for a tuple

-- No id is raised, the ids outside relation s stay, and so does a tuple of it that agrees with tuple x of relation r.
pub record Agreeing (N : Network) (r x s : ℕ) (before after : List ℕ) : Type 0 where
  pub inside : (g : ℕ) → is_live after g ≡ true → is_live before g ≡ true
  pub outside : (g : ℕ) → (g < first_id N s) ⊎ (first_id N s + size N s ≤ g) → is_live after g ≡ is_live before g
  pub keeps : (z : ℕ) → z < size N s → agree N (first_id N r + x) (first_id N s + z) ≡ true → is_live before (first_id N s + z) ≡ true → is_live after (first_id N s + z) ≡ true

-- ---- Narrowing the members of a combination

-- no tuple of relation s is live
abbrev pub Dead : Network → ℕ → List ℕ → Type 0
Dead N s words = (z : ℕ) → z < size N s → is_live words (first_id N s + z) ≡ false

-- Narrowed for the tuple with id y: no id is raised, every tuple that agrees with it stays, and so does y itself.
pub record Narrowed (N : Network) (y : ℕ) (before after : List ℕ) : Type 0 where
  pub inside : (g : ℕ) → is_live after g ≡ true → is_live before g ≡ true
  pub keeps : (s z : ℕ) → z < size N s → agree N y (first_id N s + z) ≡ true → is_live before (first_id N s + z) ≡ true → is_live after (first_id N s + z) ≡ true
  pub itself : is_live after y ≡ is_live before y

-- Place j is one of those from k on, but not `place`.
pub record Later (members : List ℕ) (place k j : ℕ) : Type 0 where
  pub from-k : k ≤ j
  pub inside : j < length members
  pub other : j ≡ place → ⊥

-- The members at the places from k on, but the one at `place`, are numbers of relations, and none of them is relation r.
pub record Others (members : List ℕ) (place k r : ℕ) : Type 0 where
  pub few : (j : ℕ) → Later members place k j → get_or members j 0 < max_relations
  pub other : (j : ℕ) → Later members place k j → get_or members j 0 ≡ r → ⊥

-- One of these members, at place j, has no live tuple left.
pub record Bare (N : Network) (members : List ℕ) (place k : ℕ) (words : List ℕ) : Type 0 where
  pub j : ℕ
  pub later : Later members place k j
  pub dead : Dead N (get_or members j 0) words

-- ---- Contracts

-- the ids below end have their bits in the rows of the index
abbrev pub HasBits : List ℕ → ℕ → Type 0
HasBits index end = (end ≤ word_bits * row_words index) × (end ≤ max_tuples)

-- Sound lists with their index.
pub record Searchable (L : Lists) (index : List ℕ) : Type 0 where
  pub laid : SoundLists L
  pub indexed : Indexed (network_in L) index

-- Tuple x of relation r, which the words are narrowed for, in sound lists with their index.
pub record Seeks (L : Lists) (index : List ℕ) (r x : ℕ) : Type 0 where
  pub laid : SoundLists L
  pub indexed : Indexed (network_in L) index
  pub own : x < size (network_in L) r

-- relation s narrowed for tuple x of relation r; false only where none of its tuples is live any more
abbrev pub NarrowsMember : Lists → ℕ → ℕ → ℕ → List ℕ → List ℕ → Bool → Type 0
NarrowsMember L r x s before after found =
    Long after × (Agreeing (network_in L) r x s before after × (found ≡ false → Dead (network_in L) s after))

-- the members from k on, but the one at `place`; false only where one of them has no live tuple left
abbrev pub NarrowsMembers : Lists → List ℕ → ℕ → ℕ → ℕ → ℕ → List ℕ → List ℕ → Bool → Type 0
NarrowsMembers L members place k r x before after found =
    Long after
    × (Narrowed (network_in L) (first_id (network_in L) r + x) before after × (found ≡ false → Bare (network_in L) members place k after))
