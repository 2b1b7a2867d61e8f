-- What the listing program writes for a text, and the combinations program for a text and a number m.
use Rattle.std.specs.Prelude.{cond, List, [], ◌∷◌, map, ℕ, ◌*◌, ◌-◌, ◌^◌, eqb, take, replicate}
use Rattle.std.proofs.Math.Option.{Option, none, some}
use Rattle.model.specs.Limits.{max_support_numbers, word_bits}
use Rattle.model.specs.Lists.{from, select}
use Rattle.model.specs.Network.{Network, tuples_in, total, relation_of, index_of, tuple_of}
use Rattle.model.specs.Combination.{combinations}
use Rattle.model.specs.LiveWords.{is_live}
use Rattle.model.specs.Request.{filter, Instance, Request}
use Rattle.model.specs.Reply.{Numbers, Reply, reply}
use Rattle.model.specs.Edges.{max_member_list}
use Rattle.model.specs.Enumeration.{EnumerationReply, enumeration_reply}
use Rattle.model.specs.Text.{text_of}
use Rattle.model.specs.Reading.{read}

-- 64 words, every bit 1
unfoldable pub all_live : List ℕ
all_live = replicate 64 (2 ^ word_bits - 1)

-- filter, with every tuple live and counted, and a support list of any length that may be needed
unfoldable pub fresh : Instance → Request
fresh I =
    record {
      given = I;
      words = all_live;
      supports = replicate max_support_numbers 0;
      counts = map tuples_in I.network.relations;
      change = filter;
    }

-- kind, sheet or refusal number, left, deleted
abbrev pub answer_line : Numbers → List ℕ
answer_line a = a.kind ∷ a.subject ∷ a.left ∷ a.deleted ∷ []

-- tuple g: its relation, its index, its values
abbrev pub tuple_line : Network → ℕ → List ℕ
tuple_line N g = relation_of N g ∷ index_of N g ∷ tuple_of N g

-- each live tuple in the order of ids
unfoldable pub tuple_lines : Network → List ℕ → List (List ℕ)
tuple_lines N ws = map (tuple_line N) (select (is_live ws) (from 0 (total N)))

-- the answer; then, unless it is a refusal, each tuple left
unfoldable pub reply_lines : Network → Reply → List (List ℕ)
reply_lines N r = answer_line r.answer ∷ cond (eqb r.answer.kind 2) [] (tuple_lines N r.words)

-- a text that is not in the form is refused with number 1
abbrev pub refused_line : List ℕ
refused_line = 2 ∷ 1 ∷ 0 ∷ 0 ∷ []

abbrev pub lines_for : Option Instance → List (List ℕ)
lines_for none = refused_line ∷ []
lines_for (some I) = reply_lines I.network (reply (fresh I))

-- The listing program's output for its input.
unfoldable pub listing : List ℕ → List ℕ
listing t = text_of (lines_for (read t))

-- ---- Combinations (card 1)

-- the answer, whose third number is how many there are; then each combination
unfoldable pub enumeration_lines : ℕ → EnumerationReply → List (List ℕ)
enumeration_lines m p = answer_line p.answer ∷ combinations m (take (p.answer.left * m) p.members)

-- of the network that a text holds, whatever m and combinations stand there
abbrev pub combination_lines_for : ℕ → Option Instance → List (List ℕ)
combination_lines_for m none = refused_line ∷ []
combination_lines_for m (some I) = enumeration_lines m (enumeration_reply I.network m (replicate max_member_list 0))

-- The combinations program's output for m and a text.
unfoldable pub combination_listing : ℕ → List ℕ → List ℕ
combination_listing m t = text_of (combination_lines_for m (read t))
