-- The constraint network (document 01: book): relation records, and the scopes and tuples of all relations end to end.
use Rattle.std.specs.Prelude.{cond, List, [], ◌∷◌, map, ℕ, suc, ◌+◌, ◌*◌, ◌-◌, ltb, get_or, take, drop}
use Rattle.model.specs.declared.Relation.{Relation}
use Rattle.model.specs.Lists.{from, sum}

-- relations: the sheet records; variables: the sheets' questions; values: their codes, tuple after tuple
pub record Network : Type 0 where
  pub relations : List Relation
  pub variables : List ℕ
  pub values : List ℕ

abbrev pub no_relation : Relation
no_relation = record { width = 0; tuples = 0 }

-- how many variables relation r has (its columns)
abbrev pub width : Network → ℕ → ℕ
width N r = (get_or N.relations r no_relation).width

-- how many tuples relation r has (its rows)
abbrev pub size : Network → ℕ → ℕ
size N r = (get_or N.relations r no_relation).tuples

-- how many variables, tuples and values a record calls for
abbrev pub variables_in : Relation → ℕ
variables_in R = R.width

abbrev pub tuples_in : Relation → ℕ
tuples_in R = R.tuples

abbrev pub values_in : Relation → ℕ
values_in R = R.width * R.tuples

-- the sum of f over the relations before r: where r begins in a list that holds f of each relation end to end
abbrev pub before : (Relation → ℕ) → List Relation → ℕ → ℕ
before f Rs r = sum (map f (take r Rs))

-- how many tuples the network has
abbrev pub total : Network → ℕ
total N = sum (map tuples_in N.relations)

-- the id of relation r's first tuple
abbrev pub first_id : Network → ℕ → ℕ
first_id N r = before tuples_in N.relations r

-- the ids of relation r's tuples (book numbers)
abbrev pub ids_of : Network → ℕ → List ℕ
ids_of N r = from (first_id N r) (size N r)

abbrev pub relation_at : List Relation → ℕ → ℕ
relation_at [] g = 0
relation_at (R ∷ Rs) g = cond (ltb g R.tuples) 0 (suc (relation_at Rs (g - R.tuples)))

-- the relation of the tuple with id g
unfoldable pub relation_of : Network → ℕ → ℕ
relation_of N g = relation_at N.relations g

-- the index of that tuple in its relation (own number)
unfoldable pub index_of : Network → ℕ → ℕ
index_of N g = g - first_id N (relation_of N g)

-- relation r's scope: its variables (the sheet's questions, in column order)
unfoldable pub scope_of : Network → ℕ → List ℕ
scope_of N r = take (width N r) (drop (before variables_in N.relations r) N.variables)

-- the values of tuple i of relation r: the part of the value list that begins at its first value
unfoldable pub values_at : Network → ℕ → ℕ → List ℕ
values_at N r i = take (width N r) (drop (before values_in N.relations r + i * width N r) N.values)

-- the values of the tuple with id g (the row's codes)
unfoldable pub tuple_of : Network → ℕ → List ℕ
tuple_of N g = values_at N (relation_of N g) (index_of N g)
