-- Where each relation's variables, tuples and values begin: three tables end to end in one list, and behind them how many relations
-- there are. Only this file knows where in the list a table stands.
use Rattle.std.specs.Prelude.{◌≡◌, true, List, [], ◌∷◌, ◌++◌, map, ℕ, ◌+◌, ◌-◌, ◌≤◌, length, get_or}
use Rattle.model.specs.declared.Relation.{Relation}
use Rattle.model.specs.Limits.{max_relations, max_tuples}
use Rattle.model.specs.Lists.{from, sum, all}
use Rattle.model.specs.Network.{Network, variables_in, tuples_in, values_in, before}
use Rattle.model.specs.Fault.{proper_width}

-- the entries of a table: one for each relation, and the end
abbrev pub table : ℕ
table = 65

-- the entries of three tables, and one for the number of relations
abbrev pub starts_length : ℕ
starts_length = 196

-- numbers of 16 bits lie below
abbrev pub entry_bound : ℕ
entry_bound = 65536

abbrev pub variable_start : List ℕ → ℕ → ℕ
variable_start starts r = get_or starts r 0

abbrev pub tuple_start : List ℕ → ℕ → ℕ
tuple_start starts r = get_or starts (65 + r) 0

abbrev pub value_start : List ℕ → ℕ → ℕ
value_start starts r = get_or starts (130 + r) 0

abbrev pub relation_count : List ℕ → ℕ
relation_count starts = get_or starts 195 0

-- ---- Of records, and back

-- where each of 64 relations begins in a list that holds f of each relation end to end, and where the last one ends; past the
-- last relation, the total
unfoldable pub table_of : (Relation → ℕ) → List Relation → List ℕ
table_of f Rs = map (before f Rs) (from 0 table)

-- the starts of these records
unfoldable pub starts_of : List Relation → List ℕ
starts_of Rs = table_of variables_in Rs ++ (table_of tuples_in Rs ++ (table_of values_in Rs ++ (length Rs ∷ [])))

-- the record whose variables, and whose tuples, end where the next relation's begin
abbrev pub record_in : List ℕ → ℕ → Relation
record_in starts r =
    record {
      width = variable_start starts (r + 1) - variable_start starts r;
      tuples = tuple_start starts (r + 1) - tuple_start starts r;
    }

-- the records that starts describe
unfoldable pub records_in : List ℕ → List Relation
records_in starts = map (record_in starts) (from 0 (relation_count starts))

-- a network of these records, with no lists: what is asked of records alone is asked of it
abbrev pub outline : List ℕ → Network
outline starts = record { relations = records_in starts; variables = []; values = [] }

-- ---- What no fault 2 to 4 gives

pub record Bounded (Rs : List Relation) : Type 0 where
  pub relations : length Rs ≤ max_relations
  pub widths : all proper_width Rs ≡ true
  pub tuples : sum (map tuples_in Rs) ≤ max_tuples

-- The starts are those of records without the faults 2 to 4.
pub record SoundStarts (starts : List ℕ) : Type 0 where
  pub bounded : Bounded (records_in starts)
  pub are : starts ≡ starts_of (records_in starts)
