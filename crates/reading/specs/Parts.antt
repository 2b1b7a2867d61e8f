-- The parts of a text. For each part that it reads, the code gives the position behind it, and 0 if the text has no such part there.
use Rattle.std.specs.Prelude.{◌≡◌, ◌&&◌, cond, List, [], ◌∷◌, ◌++◌, ℕ, ◌+◌, ◌*◌, ◌<◌, leb, eqb, get_or, take, drop, replicate}
use Rattle.std.proofs.Math.Option.{none, some}
use Rattle.model.specs.declared.Relation.{Relation}
use Rattle.model.specs.Limits.{max_relations, max_width, min_members, max_members, max_combinations}
use Rattle.model.specs.Network.{Network}
use Rattle.model.specs.Fault.{within}
use Rattle.model.specs.Text.{max_field, max_code}
use Rattle.model.specs.Reading.{Read, and_then, read_line, read_lines}
use Rattle.layout.specs.declared.Shape.{Shape}
use Rattle.layout.specs.Shape.{shape_of, relations_of, network_of}
use Rattle.reading.specs.declared.Heading.{Heading}
use Rattle.reading.specs.declared.relations.Record.{Record}
use Rattle.reading.specs.declared.relations.Listed.{Listed}

-- x was read from the text t up to position `next`; at position 0 nothing was read
abbrev pub found_at : {A : Type 0} → ℕ → A → List ℕ → Read A
found_at next x t = cond (eqb next 0) none (some (x, drop next t))

-- f of what was read
abbrev pub map_read : {A B : Type 0} → (A → B) → Read A → Read B
map_read f R = and_then R (λ x. λ rest. some (f x, rest))

-- the numbers us, and behind them those that were read
abbrev pub behind : List ℕ → Read (List ℕ) → Read (List ℕ)
behind us R = map_read (λ (vs : List ℕ). us ++ vs) R

-- from entry n on the list is as lent
abbrev pub KeptFrom : ℕ → List ℕ → List ℕ → Type 0
KeptFrom n lent left = drop n left ≡ drop n lent

-- the relations of N, and behind them those of M
abbrev pub append : Network → Network → Network
append N M =
    record {
      relations = N.relations ++ M.relations;
      variables = N.variables ++ M.variables;
      values = N.values ++ M.values;
    }

-- the network of one relation
abbrev pub single : Relation → List ℕ → List ℕ → Network
single R scope values = record { relations = R ∷ []; variables = scope; values = values }

-- lists that belong to no relation yet
abbrev pub unlisted : List ℕ → List ℕ → Network
unlisted variables values = record { relations = []; variables = variables; values = values }

-- ---- A relation

-- a relation's record, with at most `room` tuples
unfoldable pub read_record : ℕ → List ℕ → Read Relation
read_record room t =
    and_then (read_line max_field 2 t) (λ head. λ rest.
    cond (within 1 max_width (get_or head 0 0) && leb (get_or head 1 0) room)
    (some (record { width = get_or head 0 0; tuples = get_or head 1 0 }, rest))
    none)

-- a relation of at most `room` tuples
unfoldable pub read_relation : ℕ → List ℕ → Read Network
read_relation room t =
    and_then (read_record room t) (λ R. λ rest.
    and_then (read_line max_field R.width rest) (λ scope. λ rest'.
    map_read (single R scope) (read_lines max_code R.tuples R.width rest')))

-- the record that the code gives
abbrev pub record_of : Record → Relation
record_of r = record { width = r.width; tuples = r.tuples }

-- r is the relation at a position of the text: its scope now stands in the one list behind the first `variable` entries, and its
-- values in the other behind the first `value` entries
abbrev pub RelationRead : List ℕ → ℕ → ℕ → List ℕ → List ℕ → ℕ → List ℕ → List ℕ → ℕ → Record → Type 0
RelationRead text at room variables₀ variables variable values₀ values value r =
    let before = unlisted (take variable variables₀) (take value values₀) in
    let after = single (record_of r) (take (variable + r.width) variables) (take (value + r.tuples * r.width) values) in
    found_at r.next after text ≡ map_read (append before) (read_relation room (drop at text))

-- so many records, all noughts
abbrev pub blank_shape : ℕ → Shape
blank_shape count = record { count = count; widths = replicate max_relations 0; tuples = replicate max_relations 0 }

-- behind the last record there are noughts
abbrev pub IsBlankBehind : Shape → Type 0
IsBlankBehind S = S ≡ shape_of (relations_of S)

-- the network of all relations read, whose scopes and values stand at the front of the lists
abbrev pub listed : Listed → List ℕ → List ℕ → Network
listed r variables values = network_of r.shape (take r.variables variables) (take r.values values)

-- once all relations are read: behind their records there are noughts, and behind their scopes and values the lists are as lent
abbrev pub RestKept : Listed → List ℕ → List ℕ → List ℕ → List ℕ → Type 0
RestKept r variables₀ variables values₀ values = 0 < r.next → IsBlankBehind r.shape × KeptFrom r.variables variables₀ variables × KeptFrom r.values values₀ values

-- ---- The first line

-- how many relations there are, m, and how many combinations
pub record Numbers : Type 0 where
  pub relations : ℕ
  pub m : ℕ
  pub combinations : ℕ

-- the first line, with numbers in their bounds
unfoldable pub read_heading : List ℕ → Read Numbers
read_heading t =
    and_then (read_line max_field 3 t) (λ head. λ rest.
    cond (within 1 max_relations (get_or head 0 0) && (within min_members max_members (get_or head 1 0) && leb (get_or head 2 0) max_combinations))
    (some (record { relations = get_or head 0 0; m = get_or head 1 0; combinations = get_or head 2 0 }, rest))
    none)

-- the numbers that the code gives
abbrev pub numbers_of : Heading → Numbers
numbers_of h = record { relations = h.relations; m = h.m; combinations = h.combinations }
