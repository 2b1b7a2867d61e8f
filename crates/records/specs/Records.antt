-- Relation records as they are lent, the instance of a call whose records are one list, and the steps in which they are taken apart.
use Rattle.std.specs.Prelude.{List, [], ◌∷◌, map, ℕ, min, set, replicate}
use Rattle.std.specs.Borrow.{Bor, MutBor}
use denote.Triple.Both.{Both}
use Rattle.model.specs.declared.Relation.{Relation}
use Rattle.model.specs.declared.Record.{Record}
use Rattle.model.specs.Limits.{max_relations}
use Rattle.model.specs.Network.{Network}
use Rattle.model.specs.Request.{Instance}
use Rattle.layout.specs.Shape.{padded, shape_of}
use Rattle.layout.specs.Loan.{Loan, entry}
use Rattle.records.specs.declared.Parts.{Parts}

-- the relation of a record
abbrev pub relation_in : Record → Relation
relation_in R = record { width = R.width; tuples = R.tuples }

-- its live count (card 6)
abbrev pub live_at : Record → ℕ
live_at R = R.live

-- the relations of the records, and their live counts
abbrev pub relations_in : List Record → List Relation
relations_in Rs = map relation_in Rs

abbrev pub live_in : List Record → List ℕ
live_in Rs = map live_at Rs

-- the record with another live count
abbrev pub counted : Record → ℕ → Record
counted R n = record { width = R.width; tuples = R.tuples; live = n }

-- the records with these live counts, the first with the first; behind the last count as they were
unfoldable pub with_live : List Record → List ℕ → List Record
with_live [] counts = []
with_live (R ∷ Rs) [] = R ∷ Rs
with_live (R ∷ Rs) (n ∷ counts) = counted R n ∷ with_live Rs counts

-- ---- The instance

abbrev pub record_network : List Record → List ℕ → List ℕ → Network
record_network Rs variables values = record { relations = relations_in Rs; variables = variables; values = values }

-- the network with its combinations
abbrev pub record_instance : List Record → List ℕ → List ℕ → ℕ → List ℕ → Instance
record_instance Rs variables values m members = record { network = record_network Rs variables values; m = m; members = members }

-- those that references lend, at entry
abbrev pub RecordLoan : Type 0
RecordLoan = Both (Bor (List Record)) (Bor (List Record))

-- records lent to be written, and a list of numbers: `x.entry.now` as they are lent, `x.exit.now` as they are left
abbrev pub MutRecordLoan : Type 0
MutRecordLoan = Both (MutBor (List Record)) (MutBor (List Record))

abbrev pub MutLoan : Type 0
MutLoan = Both (MutBor (List ℕ)) (MutBor (List ℕ))

abbrev pub entry_network : RecordLoan → Loan → Loan → Network
entry_network relations variables values = record_network relations.entry.now (entry variables) (entry values)

abbrev pub entry_instance : RecordLoan → Loan → Loan → ℕ → Loan → Instance
entry_instance relations variables values m members =
    record_instance relations.entry.now (entry variables) (entry values) m (entry members)

-- ---- Records taken apart

abbrev pub no_record : Record
no_record = record { width = 0; tuples = 0; live = 0 }

-- n, or 64 where n is more
abbrev pub lesser : ℕ → ℕ
lesser n = min n max_relations

-- their shape, and the live counts of the first 64
abbrev pub parts_of : List Record → Parts
parts_of Rs = record { shape = shape_of (relations_in Rs); live = padded max_relations (live_in Rs) }

-- so many records, none of them taken apart
abbrev pub unread : ℕ → Parts
unread n =
    let none : List ℕ = replicate max_relations 0 in
    record { shape = record { count = n; widths = none; tuples = none }; live = none }

-- the parts with record i taken apart
abbrev pub with_record : Parts → ℕ → Record → Parts
with_record P i R =
    record {
      shape =
          record {
            count = P.shape.count;
            widths = set P.shape.widths i R.width;
            tuples = set P.shape.tuples i R.tuples;
          };
      live = set P.live i R.live;
    }
