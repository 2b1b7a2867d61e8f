-- What a change call that packs its answer gives and leaves, on the records and on their parts.
use Rattle.std.specs.Prelude.{◌≡◌, cond, List, ℕ, eqb}
use Rattle.model.specs.declared.Answer.{Answer}
use Rattle.model.specs.Request.{Change, Instance}
use Rattle.model.specs.Reply.{Numbers, answer_numbers, request, Keeps}
use Rattle.layout.specs.Shape.{padded}
use Rattle.encoding.specs.Packed.{packed, unpacked, replied_in}
use Rattle.records.specs.declared.Parts.{Parts}
use Rattle.records.specs.declared.Done.{Done}
use Rattle.records.specs.Records.{live_in, with_live, MutRecordLoan, MutLoan, lesser}

-- A change call keeps its contract: n is its answer, packed. The live counts lent and left are those in the records, and nothing else
-- in the records changes.
abbrev pub RepliesIn : ℕ → Instance → MutRecordLoan → MutLoan → MutLoan → Change → Type 0
RepliesIn n I relations words supports change =
    let lent = relations.entry.now in
    let left = relations.exit.now in
    Keeps (request I words.entry.now supports.entry.now (live_in lent) change) (replied_in n words.exit.now supports.exit.now (live_in left))
    × (left ≡ with_live lent (live_in left))

-- ---- On the parts

-- the live counts of the first relations, of at most 64
abbrev pub counts_of : Parts → List ℕ → List ℕ
counts_of P live = padded (lesser P.shape.count) live

-- of how many relations the counts are to be written: of all n, or of none after a refusal
abbrev pub written_for : Numbers → ℕ → ℕ
written_for a n = cond (eqb a.kind 2) 0 n

abbrev pub done_with : Answer → ℕ → List ℕ → Done
done_with a n live = record { answer = packed (answer_numbers a); written = written_for (answer_numbers a) n; live = live }

-- .. and the call on the parts keeps it: it gives its answer, packed, and the counts
abbrev pub RepliesDone : Done → Parts → Instance → MutLoan → MutLoan → Change → Type 0
RepliesDone d P I words supports change =
    Keeps (request I words.entry.now supports.entry.now (counts_of P P.live) change) (replied_in d.answer words.exit.now supports.exit.now (counts_of P d.live))
    × (d.written ≡ written_for (unpacked d.answer) (lesser P.shape.count))

-- the counts that are to be written
abbrev pub counts_to_write : Done → List ℕ
counts_to_write d = padded (lesser d.written) d.live

-- n is the answer, and the records have these counts
abbrev pub WritesBack : ℕ → MutRecordLoan → Done → Type 0
WritesBack n relations d = (n ≡ d.answer) × (relations.exit.now ≡ with_live relations.entry.now (counts_to_write d))
