-- Relations beside each other, tuples that none of a relation's live tuples agrees with, and what a sweep does to the live words.
use Rattle.std.specs.Prelude.{◌≡◌, true, ◌⊎◌, ℕ, ◌+◌, ◌*◌, ◌≤◌, ◌<◌, length, get_or}
use mathlib.Core.List.{List, Memᴰ}
use Rattle.model.specs.Limits.{max_relations, max_width, max_tuples, word_bits}
use Rattle.model.specs.Network.{Network, size, first_id, scope_of}
use Rattle.model.specs.Agreement.{agree}
use Rattle.model.specs.Combination.{Combination, combinations}
use Rattle.model.specs.LiveWords.{is_live, cleared}
use Rattle.live.specs.Words.{WordArray}
use Rattle.layout.specs.Setting.{Lists, Setting, network_in, SoundLists}
use Rattle.value_index.specs.Plan.{SoundPlan}
use Rattle.value_index.specs.Index.{Indexed}
use Rattle.narrowing.specs.TupleRows.{Shares, HasRows, InEvery, Spans}
use Rattle.sweeping.specs.declared.Swept.{Swept}
use Rattle.sweeping.specs.Shrunk.{Shrunk}

-- ---- Relations beside each other

-- Relations r and s are two members of a combination.
pub record Beside (cs : List Combination) (r s : ℕ) : Type 0 where
  pub combination : Combination
  pub is-listed : Memᴰ combination cs
  pub has_r : Memᴰ r combination
  pub has-s : Memᴰ s combination
  pub apart : r ≡ s → ⊥

-- where bit s stands in word r, in a table of a word for each relation
abbrev pub bit_of : ℕ → ℕ → ℕ
bit_of r s = r * word_bits + s

-- It is 1 only where the two are beside each other.
pub record Besides (cs : List Combination) (table : List ℕ) : Type 0 where
  pub array : WordArray table
  pub only : (r s : ℕ) → r < max_relations → s < max_relations → is_live table (bit_of r s) ≡ true → Beside cs r s

-- all members are numbers of relations
abbrev pub Few : List ℕ → Type 0
Few members = (q : ℕ) → q < length members → get_or members q 0 < max_relations

-- The members from `base` on and below `end` are in the list, and relation r and they have their bits in the table.
pub record PutAsks (table members : List ℕ) (base end r : ℕ) : Type 0 where
  pub array : WordArray table
  pub rises : base ≤ end
  pub inside : end ≤ length members
  pub own : r < max_relations
  pub few : Few members

-- Bit h is that of relation r and another one of these members.
pub record PutAt (members : List ℕ) (base end r h : ℕ) : Type 0 where
  pub q : ℕ
  pub from-base : base ≤ q
  pub to_end : q < end
  pub other : r ≡ get_or members q 0 → ⊥
  pub bit : h ≡ bit_of r (get_or members q 0)

-- A bit is 1 only if it was, or is such a one.
pub record Put (members : List ℕ) (base end r : ℕ) (before after : List ℕ) : Type 0 where
  pub array : WordArray after
  pub only : (h : ℕ) → h < max_tuples → is_live after h ≡ true → (is_live before h ≡ true) ⊎ PutAt members base end r h

-- ---- Tuples that fall

-- no live tuple of relation s agrees with tuple x of relation r
abbrev pub Unmet : Network → List ℕ → ℕ → ℕ → ℕ → Type 0
Unmet N words r x s =
    (z : ℕ) → z < size N s → is_live words (first_id N s + z) ≡ true → agree N (first_id N r + x) (first_id N s + z) ≡ true → ⊥

-- What is found once for relations r and s, in sound lists with their index: the columns that they share, and the words of s's ids.
pub record Prepared (L : Lists) (index columns : List ℕ) (r s from to : ℕ) : Type 0 where
  pub laid : SoundLists L
  pub indexed : Indexed (network_in L) index
  pub own : r < max_relations
  pub other : s < max_relations
  pub shares : Shares (scope_of (network_in L) r) (scope_of (network_in L) s) index s columns
  pub begins : word_bits * from ≤ first_id (network_in L) s
  pub ends : first_id (network_in L) s + size (network_in L) s ≤ word_bits * to
  pub spans : Spans index to

-- A tuple whose values have rows, of which the words below `to` are asked.
pub record Testable (index columns tuple : List ℕ) (to : ℕ) : Type 0 where
  pub plan : SoundPlan index
  pub few : length tuple ≤ max_width
  pub has : HasRows index columns (length tuple)
  pub spans : Spans index to

-- no id of the words from `from` on and below `to` is live in `alive`, and in every row of the tuple's values
abbrev pub Misses : List ℕ → List ℕ → List ℕ → List ℕ → ℕ → ℕ → Type 0
Misses index columns tuple alive from to =
    (g : ℕ) → word_bits * from ≤ g → g < word_bits * to → is_live alive g ≡ true → InEvery index columns tuple g → ⊥

-- none falls, or id g, where there is none such
abbrev pub Falls : List ℕ → List ℕ → List ℕ → List ℕ → ℕ → ℕ → ℕ → List ℕ → List ℕ → ℕ → Type 0
Falls index columns tuple alive from to g before after n =
    ((n ≡ 0) × (after ≡ before)) ⊎ ((n ≡ 1) × ((after ≡ cleared g before) × Misses index columns tuple alive from to))

-- the live tuples of relation s are live in `alive` too
abbrev pub Covers : Network → ℕ → List ℕ → List ℕ → Type 0
Covers N s words alive = (z : ℕ) → z < size N s → is_live words (first_id N s + z) ≡ true → is_live alive (first_id N s + z) ≡ true

-- ---- Sweeps

-- the lists with these combinations
abbrev pub combining : Lists → ℕ → List ℕ → Setting
combining L m members = record { lists = L; members = members; m = m }

-- whatever the combinations are, in which relations r and s are beside each other
abbrev pub Revises : Lists → ℕ → ℕ → List ℕ → List ℕ → Type 0
Revises L r s words after =
    WordArray after × ((m : ℕ) (members : List ℕ) → Beside (combinations m members) r s → Shrunk (combining L m members) words after)

-- .. which the table is of
abbrev pub Sweeps : Lists → List ℕ → List ℕ → List ℕ → Type 0
Sweeps L table words after =
    WordArray after × ((m : ℕ) (members : List ℕ) → Besides (combinations m members) table → Shrunk (combining L m members) words after)

-- both numbers are at most so many times all tuples
abbrev pub AtMost : ℕ → Swept → Type 0
AtMost times n = (n.tested ≤ times * max_tuples) × (n.fell ≤ times * max_tuples)
