-- The columns that two relations share, the rows of a tuple's values in them, and the ids that are in all of these rows.
use Rattle.std.specs.Prelude.{◌≡◌, Bool, true, false, ◌&&◌, List, [], ◌∷◌, ℕ, ◌+◌, ◌-◌, ◌*◌, ◌≤◌, ◌<◌, min, length, get_or}
use Rattle.model.specs.Limits.{max_width, word_bits}
use Rattle.model.specs.Lists.{from, all}
use Rattle.model.specs.Network.{Network, scope_of, values_at}
use Rattle.model.specs.Agreement.{is_any}
use Rattle.model.specs.LiveWords.{is_set, is_live}
use Rattle.model.specs.Edges.{max_words}
use Rattle.value_index.specs.Plan.{index_words, max_digits, column_start, row_words, digit_count, row_at, ColumnRows}
use Rattle.value_index.specs.Index.{row_bit}
use Rattle.narrowing.specs.declared.rows.Four.{Four}
use Rattle.narrowing.specs.Narrows.{is_between}

-- ---- Shared columns

-- Relation s has variable v in a column whose rows begin at word `start`.
pub record SharedAt (scope index : List ℕ) (s v start : ℕ) : Type 0 where
  pub column : ℕ
  pub inside : column < length scope
  pub same : get_or scope column 0 ≡ v
  pub begins : start ≡ column_start index s column

-- n is 0, or where such rows begin
abbrev pub Found : List ℕ → List ℕ → ℕ → ℕ → ℕ → Type 0
Found scope index s v n = (n ≡ 0 → ⊥) → SharedAt scope index s v n

-- By the columns of scope A: 0, or where the rows of relation s's column of the same variable begin, which scope B has.
pub record Shares (scope_a scope_b index : List ℕ) (s : ℕ) (columns : List ℕ) : Type 0 where
  pub long : length columns ≡ max_width
  pub at : (i : ℕ) → i < length scope_a → Found scope_b index s (get_or scope_a i 0) (get_or columns i 0)

-- the first n columns have rows where it is not 0
abbrev pub HasRows : List ℕ → List ℕ → ℕ → Type 0
HasRows index columns n = (c : ℕ) → c < n → (get_or columns c 0 ≡ 0 → ⊥) → ColumnRows index (get_or columns c 0)

-- ---- Rows of a tuple's values

-- as many rows as a tuple's values can have
abbrev pub tuple_rows : ℕ
tuple_rows = 32

-- Word `first` begins a row of value v, which is not any, among the rows that begin at `start`, which are some.
pub record ValueRow (index : List ℕ) (start v first : ℕ) : Type 0 where
  pub definite : is_any v ≡ false
  pub some : start ≡ 0 → ⊥
  pub digit : ℕ
  pub few : digit < digit_count index
  pub begins : first ≡ row_at index start v digit

-- Behind the first n rows there are such ones up to row k, and the first n stay.
pub record Adds (Such : ℕ → Type 0) (n k : ℕ) (before after : List ℕ) : Type 0 where
  pub long : length after ≡ tuple_rows
  pub rises : n ≤ k
  pub few : k ≤ n + max_digits
  pub same : (j : ℕ) → j < n → get_or after j 0 ≡ get_or before j 0
  pub at : (j : ℕ) → n ≤ j → j < k → Such (get_or after j 0)

-- The first n rows are such ones.
pub record FirstRows (Such : ℕ → Type 0) (n : ℕ) (rows : List ℕ) : Type 0 where
  pub long : length rows ≡ tuple_rows
  pub few : n ≤ tuple_rows
  pub at : (k : ℕ) → k < n → Such (get_or rows k 0)

-- Word `first` begins a row of the value in one of a tuple's columns.
pub record RowOf (index columns tuple : List ℕ) (first : ℕ) : Type 0 where
  pub column : ℕ
  pub inside : column < length tuple
  pub row : ValueRow index (get_or columns column 0) (get_or tuple column 0) first

-- Word `first` begins a row of the value that tuple a has under variable v, in relation s's column.
pub record ColumnRow (scope_a a index : List ℕ) (s column v first : ℕ) : Type 0 where
  pub own : ℕ
  pub inside : own < length scope_a
  pub same : get_or scope_a own 0 ≡ v
  pub row : ValueRow index (column_start index s column) (get_or a own 0) first

-- .. under a variable that scope B, which is relation s's, has in a column
pub record SharedRow (scope_a a scope_b index : List ℕ) (s first : ℕ) : Type 0 where
  pub column : ℕ
  pub inside : column < length scope_b
  pub row : ColumnRow scope_a a index s column (get_or scope_b column 0) first

-- .. that tuple x of relation r has under a variable of relation s's
abbrev pub RowFor : Network → List ℕ → ℕ → ℕ → ℕ → ℕ → Type 0
RowFor N index r x s first = SharedRow (scope_of N r) (values_at N r x) (scope_of N s) index s first

-- id g is in every row of the values in a tuple's columns
abbrev pub InEvery : List ℕ → List ℕ → List ℕ → ℕ → Type 0
InEvery index columns tuple g = (first : ℕ) → RowOf index columns tuple first → row_bit index first g ≡ true

-- where row k begins, or the last of the first n rows where they are fewer
abbrev pub row_or_last : List ℕ → ℕ → ℕ → ℕ
row_or_last rows n k = get_or rows (min k (n - 1)) 0

-- These are the first four of one to four rows, where the last stands for those that are missing.
pub record FourOf (rows : List ℕ) (n : ℕ) (f : Four) : Type 0 where
  pub a : f.a ≡ row_or_last rows n 0
  pub b : f.b ≡ row_or_last rows n 1
  pub c : f.c ≡ row_or_last rows n 2
  pub d : f.d ≡ row_or_last rows n 3

-- ---- Ids in rows

-- The first n rows lie within the index.
pub record Within (index : List ℕ) (n : ℕ) (rows : List ℕ) : Type 0 where
  pub few : n ≤ tuple_rows
  pub inside : (k : ℕ) → k < n → get_or rows k 0 + row_words index ≤ index_words

-- the words below `to` are words of an array, and of every row
abbrev pub Spans : List ℕ → ℕ → Type 0
Spans index to = (to ≤ max_words) × (to ≤ row_words index)

-- two rows
abbrev pub both : ℕ → ℕ → List ℕ
both a b = a ∷ b ∷ []

-- .. and four
abbrev pub four : ℕ → ℕ → ℕ → ℕ → List ℕ
four a b c d = a ∷ b ∷ c ∷ d ∷ []

-- id g is in all of the first n rows
unfoldable pub in_rows : List ℕ → List ℕ → ℕ → ℕ → Bool
in_rows index rows n g = all (λ (k : ℕ). row_bit index (get_or rows k 0) g) (from 0 n)

-- the bits of word i that are set, and are in all of the first n rows
abbrev pub BitsInRows : List ℕ → ℕ → List ℕ → ℕ → ℕ → ℕ → Type 0
BitsInRows index n rows i before after =
    (j : ℕ) → j < word_bits → is_set after j ≡ (is_set before j && in_rows index rows n (word_bits * i + j))

-- no id of the words from `from` on and below `to` is live and in all of the first n rows
abbrev pub Apart : List ℕ → ℕ → List ℕ → ℕ → ℕ → List ℕ → Type 0
Apart index n rows from to words =
    (g : ℕ) → word_bits * from ≤ g → g < word_bits * to → is_live words g ≡ true → in_rows index rows n g ≡ true → ⊥

-- Id g is live, or the end; no id before it, from start on, is live and in all of the first n rows.
pub record NextInRows (index : List ℕ) (n : ℕ) (rows words : List ℕ) (start end g : ℕ) : Type 0 where
  pub from_on : start ≤ g
  pub to_end : g ≤ end
  pub lives : g < end → is_live words g ≡ true
  pub none_before : (h : ℕ) → start ≤ h → h < g → is_live words h ≡ true → in_rows index rows n h ≡ true → ⊥

-- those ids that live in the words, and are from start on and below end
abbrev pub LiveBetween : ℕ → ℕ → List ℕ → List ℕ → Type 0
LiveBetween start end words alive = (g : ℕ) → is_live alive g ≡ (is_live words g && is_between start end g)
