-- A sieve of relation r's tuples, by the live tuples of relation s: for one variable that both have, the bits of the values.
use Rattle.std.specs.Prelude.{◌≡◌, Bool, true, false, not, ◌||◌, List, ℕ, ◌+◌, ◌-◌, ◌/◌, ◌^◌, ◌<◌, eqb, leb, length, get_or}
use Rattle.std.specs.Int.Bits.{bit_and}
use Rattle.model.specs.Limits.{max_relations, max_width, word_bits}
use Rattle.model.specs.Network.{Network, width, size, first_id, scope_of, values_at}
use Rattle.model.specs.Agreement.{is_any, agree}
use Rattle.model.specs.LiveWords.{is_set, is_live}
use Rattle.layout.specs.Setting.{Lists, network_in, SoundLists}
use Rattle.value_index.specs.Plan.{mixed}
use Rattle.narrowing.specs.declared.sieve.Shared.{Shared}
use Rattle.narrowing.specs.declared.sieve.Sieve.{Sieve}

-- all bits of a word, or bit k alone
abbrev pub all_or : Bool → ℕ → ℕ
all_or true k = 2 ^ word_bits - 1
all_or false k = 2 ^ k

-- the number of a value's bit, 0 to 63
abbrev pub bit_of : ℕ → ℕ
bit_of v = mixed v / 67108864

-- the bits of a value, as a word: of any all, and otherwise one
unfoldable pub bits_of : ℕ → ℕ
bits_of v = all_or (is_any v) (bit_of v)

-- the value that tuple x of relation r has in a column
abbrev pub value_in : Network → ℕ → ℕ → ℕ → ℕ
value_in N r x column = get_or (values_at N r x) column 0

-- its bits
abbrev pub bits_at : Network → ℕ → ℕ → ℕ → ℕ
bits_at N r x column = bits_of (get_or (values_at N r x) column 0)

-- tuple x of relation r passes: the sieve has a bit of its value in the column, or the relation has no such column
unfoldable pub passes_sieve : Network → ℕ → Sieve → ℕ → Bool
passes_sieve N r sieve x = leb (width N r) sieve.column || not (eqb (bit_and sieve.bits (bits_at N r x sieve.column)) 0)

-- every tuple of relation r that agrees with a live tuple of relation s passes
abbrev pub Sieves : Network → ℕ → ℕ → List ℕ → Sieve → Type 0
Sieves N r s words sieve =
    (x z : ℕ) → x < size N r → z < size N s → agree N (first_id N r + x) (first_id N s + z) ≡ true → is_live words (first_id N s + z) ≡ true → passes_sieve N r sieve x ≡ true

-- ---- Its parts

-- the columns have the same variable, if the first is one of scope a's
abbrev pub Shares : List ℕ → List ℕ → Shared → Type 0
Shares scope_a scope_b shared =
    shared.own < length scope_a → (shared.other < length scope_b) × (get_or scope_a shared.own 0 ≡ get_or scope_b shared.other 0)

-- The columns are of these scopes and have the same variable, or both are past all columns.
pub record CommonColumns (scope_a scope_b : List ℕ) (shared : Shared) : Type 0 where
  pub same : (shared.own ≡ max_width → ⊥) → (shared.own < length scope_a) × (shared.other < length scope_b) × (get_or scope_a shared.own 0 ≡ get_or scope_b shared.other 0)
  pub none : shared.own ≡ max_width → shared.other ≡ max_width

-- .. of the scopes of relations r and s
abbrev pub SharedIn : Network → ℕ → ℕ → Shared → Type 0
SharedIn N r s shared = CommonColumns (scope_of N r) (scope_of N s) shared

-- the bits of the values that live tuples of relation s have in the column are there
abbrev pub Masks : Network → ℕ → ℕ → List ℕ → ℕ → Type 0
Masks N s column words bits =
    (z : ℕ) → z < size N s → is_live words (first_id N s + z) ≡ true → (k : ℕ) → is_set (bits_at N s z column) k ≡ true → is_set bits k ≡ true

-- ---- Contracts

-- Tuple x of relation r, in sound lists.
pub record TupleIn (L : Lists) (r x : ℕ) : Type 0 where
  pub laid : SoundLists L
  pub own : x < size (network_in L) r

-- A column of relation s, in sound lists.
pub record ColumnIn (L : Lists) (s column : ℕ) : Type 0 where
  pub laid : SoundLists L
  pub relation : s < max_relations
  pub inside : column < width (network_in L) s
