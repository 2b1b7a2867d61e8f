-- The lines of live tuples, and what they are written from.
use Rattle.std.specs.Prelude.{◌≡◌, Bool, List, [], map, ℕ, ◌+◌, ◌-◌, ◌*◌, ◌≤◌, eqb, length}
use Rattle.std.proofs.Math.Option.{none}
use Rattle.model.specs.declared.Answer.{Answer}
use Rattle.model.specs.Limits.{max_relations, word_bits}
use Rattle.model.specs.Lists.{from, select}
use Rattle.model.specs.Network.{Network, total}
use Rattle.model.specs.LiveWords.{is_live}
use Rattle.model.specs.Fault.{network_faults, first_fault}
use Rattle.model.specs.Reply.{answer_numbers, replied}
use Rattle.model.specs.Text.{text_of}
use Rattle.model.specs.Listing.{tuple_line, tuple_lines, reply_lines}
use Rattle.layout.specs.Starts.{tuple_start, value_start, records_in, SoundStarts}
use Rattle.printing.specs.Appended.{Appended}

-- how many bytes a reply may take
abbrev pub output : ℕ
output = 131072

-- the most bytes of the answer's line: four numbers of ten digits, and the byte behind each
abbrev pub answer_room : ℕ
answer_room = 44

-- the line of each id from g on and below end that passes the test
unfoldable pub text_over : (ℕ → List ℕ) → (ℕ → Bool) → ℕ → ℕ → List ℕ
text_over line p g end = text_of (map line (select p (from g (end - g))))

-- ---- By starts and values

-- the network of these starts and values; it has no scopes, and no line shows one
abbrev pub rows : List ℕ → List ℕ → Network
rows starts values = record { relations = records_in starts; variables = []; values = values }

-- the lines of relation r's live tuples
abbrev pub relation_text : List ℕ → List ℕ → List ℕ → ℕ → List ℕ
relation_text starts values words r =
    text_over (tuple_line (rows starts values)) (is_live words) (tuple_start starts r) (tuple_start starts (r + 1))

-- The starts are sound, every value stands in the list, and every tuple has its bit.
pub record Printable (starts values words : List ℕ) : Type 0 where
  pub framed : SoundStarts starts
  pub all-values : value_start starts max_relations ≤ length values
  pub all-bits : tuple_start starts max_relations ≤ word_bits * length words

-- ---- A reply

abbrev pub is_refusal : Answer → Bool
is_refusal a = eqb (answer_numbers a).kind 2

-- A network without the faults 2 to 6, enough words for its tuples, and enough room for the lines of those that live.
pub record Accepted (N : Network) (words : List ℕ) : Type 0 where
  pub faultless : first_fault (network_faults N) ≡ none
  pub enough : total N ≤ word_bits * length words
  pub short : answer_room + length (text_of (tuple_lines N words)) ≤ output

-- the text of the reply that has this answer and leaves these words, with any supports and counts, is at the front of the buffer `after`
abbrev pub Printed : Network → Answer → List ℕ → List ℕ → List ℕ → ℕ → Type 0
Printed N answer words before after n =
    (supports counts : List ℕ) → Appended (text_of (reply_lines N (replied answer words supports counts))) before 0 after n
