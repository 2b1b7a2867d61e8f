-- What the moves from C give and leave, told by the bytes that they are lent (card 9).
use Rattle.std.specs.Prelude.{◌≡◌, Bool, cond, List, [], ◌++◌, map, ℕ, ◌*◌, ◌/◌, length, drop}
use Rattle.std.proofs.Math.Option.{Option, none, some}
use Rattle.model.specs.Network.{Network}
use Rattle.model.specs.Fault.{first_fault}
use Rattle.model.specs.Moves.{Move, widen, narrow, moved, move_faults}
use Rattle.wire.specs.Entries.{entries, entries16, bytes}
use Rattle.encoding.specs.Records.{records}
use Rattle.encoding.specs.Whole.{whole_instance}
use Rattle.encoding.specs.Packed.{packed_pair}

-- how many bytes a value has where it comes from
abbrev pub taken : Move → ℕ
taken widen = 2
taken narrow = 4

-- .. and where it goes
abbrev pub given : Move → ℕ
given widen = 4
given narrow = 2

-- the network that bytes hold: sheet records, questions, and codes of the form that is left
abbrev pub move_network : Move → List ℕ → List ℕ → List ℕ → Network
move_network d sheets questions codes =
    record { relations = records sheets; variables = entries16 questions; values = entries (taken d) (length codes / taken d) codes }

-- The packed answer, and the bytes of the second list at the end.
pub record MoveOutcome : Type 0 where
  pub answer : ℕ
  pub target : List ℕ

-- done, with the bytes of the values in front and every later byte as lent; or refused, and every byte as lent
abbrev pub moved_bytes : Move → Option ℕ → List ℕ → List ℕ → MoveOutcome
moved_bytes d none values target =
    record { answer = packed_pair (0, 0); target = bytes (given d) values ++ drop (given d * length values) target }
moved_bytes d (some f) values target = record { answer = packed_pair (2, f); target = target }

-- of lists that are whole
unfoldable pub whole_moved : Move → List ℕ → List ℕ → List ℕ → List ℕ → MoveOutcome
whole_moved d sheets questions codes target =
    let N = move_network d sheets questions codes in
    moved_bytes d (first_fault (move_faults d N (length target / given d))) (map (moved d) N.values) target

-- every list is a whole number of entries: six bytes to a record, two to a question and to an old code, four to a new one
abbrev pub whole_move : Move → List ℕ → List ℕ → List ℕ → List ℕ → Bool
whole_move widen sheets questions codes target = whole_instance (length sheets) (length questions) (length target) (length codes)
whole_move narrow sheets questions codes target = whole_instance (length sheets) (length questions) (length codes) (length target)

-- What a move gives and leaves.
unfoldable pub byte_move : Move → List ℕ → List ℕ → List ℕ → List ℕ → MoveOutcome
byte_move d sheets questions codes target =
    cond (whole_move d sheets questions codes target) (whole_moved d sheets questions codes target) (moved_bytes d (some 1) [] target)

-- A move keeps its contract: its answer is n, and the bytes of the second list are `before` at entry and `after` at the end.
abbrev pub KeepsMoveBytes : Move → List ℕ → List ℕ → List ℕ → List ℕ → ℕ → List ℕ → Type 0
KeepsMoveBytes d sheets questions codes before n after = record { answer = n; target = after } ≡ byte_move d sheets questions codes before
