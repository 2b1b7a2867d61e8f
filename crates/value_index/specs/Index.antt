-- The value index: rows of bits by tuple. In each column that has rows, a tuple is in those of every value which its own fits.
use Rattle.std.specs.Prelude.{◌≡◌, Bool, true, false, ◌||◌, List, ℕ, ◌+◌, ◌-◌, ◌*◌, ◌≤◌, ◌<◌, eqb, length, get_or}
use Rattle.model.specs.Limits.{word_bits}
use Rattle.model.specs.Lists.{from, all}
use Rattle.model.specs.Network.{Network, width, size, total, first_id, values_at}
use Rattle.model.specs.Agreement.{is_any, fit}
use Rattle.model.specs.LiveWords.{is_live}
use Rattle.value_index.specs.Plan.{column_start, row_words, digit_count, row_at, any_row, index_words, SoundPlan, SamePlan}

-- bit g of the row that begins at word `first`
abbrev pub row_bit : List ℕ → ℕ → ℕ → Bool
row_bit index first g = is_live index (word_bits * first + g)

-- tuple g is in every row of value v, among the rows that begin at `start`
unfoldable pub is_indexed : List ℕ → ℕ → ℕ → ℕ → Bool
is_indexed index start v g = all (λ (i : ℕ). row_bit index (row_at index start v i) g) (from 0 (digit_count index))

-- .. of every value that v fits; any itself has no rows
abbrev pub IndexedBy : List ℕ → ℕ → ℕ → ℕ → Type 0
IndexedBy index start v g = (w : ℕ) → is_any w ≡ false → fit w v ≡ true → is_indexed index start w g ≡ true

-- a tuple g of relation r with value v in column c is indexed there, where the column has rows
abbrev pub IndexedAt : List ℕ → ℕ → ℕ → ℕ → ℕ → Type 0
IndexedAt index r c v g = (column_start index r c ≡ 0 → ⊥) → IndexedBy index (column_start index r c) v g

-- Every tuple is indexed by its values, and has its bit in a row.
pub record Indexed (N : Network) (index : List ℕ) : Type 0 where
  pub plan : SoundPlan index
  pub bits : total N ≤ word_bits * row_words index
  pub at : (r x c : ℕ) → x < size N r → c < width N r → IndexedAt index r c (get_or (values_at N r x) c 0) (first_id N r + x)

-- the bit at place p is 1, and every other bit stays
abbrev pub Raises : List ℕ → List ℕ → ℕ → Type 0
Raises before after p = (h : ℕ) → is_live after h ≡ (is_live before h || eqb p h)

-- no bit is lost, and the plan stays
pub record Grows (before after : List ℕ) : Type 0 where
  pub keeps : (p : ℕ) → is_live before p ≡ true → is_live after p ≡ true
  pub same : SamePlan before after

-- ---- The tuples entered, any in a row of its own

-- tuple g, whose value is v, is entered among the rows that begin at `start`: in the row of any, or in those of v
abbrev pub Entered : List ℕ → ℕ → ℕ → ℕ → Type 0
Entered index start v g =
    (is_any v ≡ true → row_bit index (any_row index start) g ≡ true) × (is_any v ≡ false → is_indexed index start v g ≡ true)

-- .. in column c of relation r, where the column has rows
abbrev pub EnteredAt : List ℕ → ℕ → ℕ → ℕ → ℕ → Type 0
EnteredAt index r c v g = (column_start index r c ≡ 0 → ⊥) → Entered index (column_start index r c) v g

-- the tuples from id first on and below id end, which stand one after the other from `at` on, are entered by their values in column c
-- among the rows that begin at `start`
abbrev pub EntersColumn : List ℕ → ℕ → ℕ → ℕ → ℕ → ℕ → ℕ → List ℕ → Type 0
EntersColumn values at columns c start first end index =
    (g : ℕ) → first ≤ g → g < end → Entered index start (get_or values (at + (g - first) * columns + c) 0) g

-- .. and by those in the first n columns of relation r
abbrev pub EntersColumns : List ℕ → ℕ → ℕ → ℕ → ℕ → ℕ → ℕ → List ℕ → Type 0
EntersColumns values at r columns n first end index =
    (c : ℕ) → c < n → (g : ℕ) → first ≤ g → g < end → EnteredAt index r c (get_or values (at + (g - first) * columns + c) 0) g

-- .. in all columns
abbrev pub EntersTuples : List ℕ → ℕ → ℕ → ℕ → ℕ → ℕ → List ℕ → Type 0
EntersTuples values at r columns first end index = EntersColumns values at r columns columns first end index

-- ---- .. and spread over the column's rows

-- no id from a on and below b is in the row that begins at word `row`
abbrev pub NoneIn : List ℕ → ℕ → ℕ → ℕ → Type 0
NoneIn index row a b = (g : ℕ) → a ≤ g → g < b → row_bit index row g ≡ false

-- those that are in it are in the row at word `other`
abbrev pub JoinsRow : ℕ → ℕ → ℕ → ℕ → List ℕ → List ℕ → Type 0
JoinsRow row other a b before after = (g : ℕ) → a ≤ g → g < b → row_bit before row g ≡ true → row_bit after other g ≡ true

-- those that are in the row of any are in every row of every value
abbrev pub SpreadsAny : ℕ → ℕ → ℕ → List ℕ → List ℕ → Type 0
SpreadsAny start a b before after =
    (g : ℕ) → a ≤ g → g < b → row_bit before (any_row before start) g ≡ true → (v : ℕ) → is_indexed after start v g ≡ true

-- .. in the first n columns of relation r
abbrev pub SpreadsColumns : ℕ → ℕ → ℕ → ℕ → List ℕ → List ℕ → Type 0
SpreadsColumns r n a b before after =
    (c : ℕ) → c < n → (column_start before r c ≡ 0 → ⊥) → SpreadsAny (column_start before r c) a b before after

-- the tuples from id start on and below id end, which stand one after the other from `at` on, are indexed
abbrev pub IndexesTuples : List ℕ → ℕ → ℕ → ℕ → ℕ → ℕ → List ℕ → Type 0
IndexesTuples values at r columns start end index =
    (g : ℕ) → start ≤ g → g < end → (c : ℕ) → c < columns → IndexedAt index r c (get_or values (at + (g - start) * columns + c) 0) g

-- ---- Contracts

-- an array of the index's words
abbrev pub Full : List ℕ → Type 0
Full index = length index ≡ index_words

-- The index with its plan, before or after some tuples are entered; ids below n have their bit in a row.
pub record Laid (index : List ℕ) (n : ℕ) : Type 0 where
  pub full : Full index
  pub plan : SoundPlan index
  pub bits : n ≤ word_bits * row_words index
