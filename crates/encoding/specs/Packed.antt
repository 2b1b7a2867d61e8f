-- What a call from C gives and leaves.
use Rattle.std.specs.Prelude.{cond, List, ℕ, ◌+◌, ◌*◌, ◌/◌, ◌%◌, eqb}
use Rattle.model.specs.Reply.{Numbers, Reply}
use Rattle.model.specs.Enumeration.{EnumerationReply}
use Rattle.wire.specs.Entries.{bytes}
use Rattle.encoding.specs.Records.{with_counts}

-- ---- Answers as one number

-- the counts, 16 bits each
abbrev pub packed_counts : ℕ → ℕ → ℕ → ℕ
packed_counts left withdrawn deleted = left + 65536 * (withdrawn + 65536 * deleted)

-- bits 0 to 7 the kind, 8 to 15 the subject, 16 to 31 left, 32 to 47 withdrawn, 48 to 63 deleted
abbrev pub packed : Numbers → ℕ
packed n = n.kind + 256 * (n.subject + 256 * packed_counts n.left n.withdrawn n.deleted)

-- the numbers read back from their bits
unfoldable pub unpacked : ℕ → Numbers
unpacked n =
    record {
      kind = n % 256;
      subject = n / 256 % 256;
      left = n / 65536 % 65536;
      withdrawn = n / 4294967296 % 65536;
      deleted = n / 281474976710656 % 65536;
    }

-- what a packed answer says, with the live words, the support list and the live counts at the end
abbrev pub replied_in : ℕ → List ℕ → List ℕ → List ℕ → Reply
replied_in n words supports counts = record { answer = unpacked n; words = words; supports = supports; counts = counts }

-- .. and with the list that the connected combinations are written to
abbrev pub enumerated_in : ℕ → List ℕ → EnumerationReply
enumerated_in n members = record { answer = unpacked n; members = members }

-- of test and compare: bits 0 to 7 the answer, 8 to 15 the refusal number, or the variable that compare names
abbrev pub packed_pair : ℕ × ℕ → ℕ
packed_pair a = a.0 + 256 * a.1

-- both read back
abbrev pub pair_in : ℕ → ℕ × ℕ
pair_in n = (n % 256, n / 256)

-- ---- .. and the bytes lent

-- The packed answer of a change call, and the bytes of the records, of the live words and of the support numbers at its end.
pub record Outcome : Type 0 where
  pub answer : ℕ
  pub sheets : List ℕ
  pub marks : List ℕ
  pub supports : List ℕ

abbrev pub outcome : ℕ → List ℕ → List ℕ → List ℕ → Outcome
outcome answer sheets marks supports = record { answer = answer; sheets = sheets; marks = marks; supports = supports }

-- a reply: its counts in the records lent, its words and its numbers as bytes
abbrev pub encoded : Reply → List ℕ → Outcome
encoded r sheets = outcome (packed r.answer) (with_counts sheets r.counts) (bytes 8 r.words) (bytes 2 r.supports)

-- the bytes that a call leaves: those of its reply, or those lent where it is refused
unfoldable pub reply_bytes : Reply → List ℕ → List ℕ → List ℕ → Outcome
reply_bytes r sheets marks supports =
    cond (eqb r.answer.kind 2) (outcome (packed r.answer) sheets marks supports) (encoded r sheets)
