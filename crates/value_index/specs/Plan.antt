-- How the value index tells values apart. Its first words say where each column's rows begin, how many words a row has, and which rows are
-- a value's: one for each digit of its hash. Only this file knows where in the index these words stand.
use Rattle.std.specs.Prelude.{◌≡◌, ◌⊎◌, List, ℕ, zero, suc, ◌+◌, ◌*◌, ◌/◌, ◌%◌, ◌≤◌, ◌<◌, get_or}
use Rattle.std.specs.Int.Bits.{bit_xor}
use Rattle.model.specs.Limits.{max_relations, max_width}
use Rattle.value_index.specs.declared.digits.RowPlan.{RowPlan}

-- the words of all rows
abbrev pub rows_words : ℕ
rows_words = 9216

-- the words of the plan, and of plan and rows
abbrev pub plan_words : ℕ
plan_words = 581

abbrev pub index_words : ℕ
index_words = 9797

-- the most digits of a value
abbrev pub max_digits : ℕ
max_digits = 4

-- the most rows of a column
abbrev pub most_rows : ℕ
most_rows = 1024

-- hashes lie below
abbrev pub hashes : ℕ
hashes = 4294967296

-- where the rows of column c of relation r begin; 0 where it has none
abbrev pub column_start : List ℕ → ℕ → ℕ → ℕ
column_start index r c = get_or index (r * max_width + c) 0

-- how many words a row has
abbrev pub row_words : List ℕ → ℕ
row_words index = get_or index 512 0

-- how many digits a value has, and how many rows there are for a digit
abbrev pub digit_count : List ℕ → ℕ
digit_count index = get_or index 513 0

abbrev pub digit_rows : List ℕ → ℕ
digit_rows index = get_or index 514 0

-- what a value is multiplied by
abbrev pub factor : List ℕ → ℕ
factor index = get_or index 515 0

-- whether the product is mixed: 0 if it is not
abbrev pub mixes : List ℕ → ℕ
mixes index = get_or index 516 0

-- these five together
abbrev pub row_plan : List ℕ → RowPlan
row_plan index =
    record { words = row_words index; digits = digit_count index; rows = digit_rows index; factor = factor index; mixes = mixes index }

-- the words of one column's rows: those of the digits, and behind them the row of any
abbrev pub column_words : List ℕ → ℕ
column_words index = (digit_count index * digit_rows index + 1) * row_words index

-- the word at which the row of any begins, among the rows that begin at `start`
abbrev pub any_row : List ℕ → ℕ → ℕ
any_row index start = start + digit_count index * digit_rows index * row_words index

-- a hash into whose low bits its high ones have gone: it and its quotient, which is it moved down where d is a power of two
abbrev pub folded : ℕ → ℕ → ℕ
folded d hash = bit_xor hash (hash / d) % hashes

-- a hash mixed
unfoldable pub mixed : ℕ → ℕ
mixed hash = folded 8192 (folded 32768 hash * 2246822507 % hashes)

-- .. unless n is 0
unfoldable pub mixed_if : ℕ → ℕ → ℕ
mixed_if zero hash = hash
mixed_if (suc n) hash = mixed hash

-- the hash of the digit behind one that is made of a hash
abbrev pub hash_behind : List ℕ → ℕ → ℕ
hash_behind index hash = hash * digit_rows index % hashes

-- .. of a value's digit i
unfoldable pub hash_at : List ℕ → ℕ → ℕ → ℕ
hash_at index v zero = mixed_if (mixes index) (v * factor index % hashes)
hash_at index v (suc i) = hash_behind index (hash_at index v i)

-- the word at which the row of digit i begins, which is made of a hash, among the rows that begin at `start`
abbrev pub row_of : List ℕ → ℕ → ℕ → ℕ → ℕ
row_of index start hash i = start + (i * digit_rows index + hash * digit_rows index / hashes) * row_words index

-- .. of a value
unfoldable pub row_at : List ℕ → ℕ → ℕ → ℕ → ℕ
row_at index start v i = row_of index start (hash_at index v i) i

-- A column's rows begin here, behind the plan, and end within the index.
pub record ColumnRows (index : List ℕ) (start : ℕ) : Type 0 where
  pub behind : plan_words ≤ start
  pub within : start + column_words index ≤ index_words

-- A plan whose rows lie behind it, within the index.
pub record SoundPlan (index : List ℕ) : Type 0 where
  pub few : digit_count index ≤ max_digits
  pub some : 0 < digit_rows index
  pub short : digit_rows index ≤ rows_words
  pub narrow : row_words index ≤ rows_words
  pub small : factor index ≤ hashes
  pub columns : (r c : ℕ) → r < max_relations → c < max_width → (column_start index r c ≡ 0) ⊎ ColumnRows index (column_start index r c)

-- the plan is the same
abbrev pub SamePlan : List ℕ → List ℕ → Type 0
SamePlan before after = (k : ℕ) → k < plan_words → get_or after k 0 ≡ get_or before k 0
