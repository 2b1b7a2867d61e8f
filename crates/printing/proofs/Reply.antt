-- The text of a reply: its answer's line, and the tuples' lines unless it is a refusal; and what these are written from.
-- From the definition of the reply's lines, the laws of texts, and the law that a network without fault has sound lists.
use mathlib.Core.Path.{◌≡◌, ◌∙◌, ap}
use mathlib.Core.Bool.{Bool, true, false, cond}
use mathlib.Core.List.{List, [], ◌++◌, append-nil}
use Prim.Native.Nat.{ℕ}
use native.Mathlib.Omega.{arith}
use lib.Dec.{eqb}
use Rattle.model.specs.Limits.{max_relations}
use Rattle.model.specs.Network.{Network, tuples_in, values_in, relation_of, index_of, tuple_of, values_at}
use Rattle.model.specs.Reply.{Reply}
use Rattle.model.specs.Text.{line_text, text_of}
use Rattle.model.specs.Listing.{answer_line, tuple_lines, reply_lines}
use Rattle.model.proofs.Network.{before-le}
use Rattle.model.proofs.Fault.{faultless}
use Rattle.model.proofs.Text.{text_of-cons}
use Rattle.layout.specs.declared.Shape.{Shape}
use Rattle.layout.specs.Shape.{relations_of, network_of}
use Rattle.layout.specs.Starts.{starts_of}
use Rattle.layout.proofs.Starts.{tuple_start-of, value_start-of}
use Rattle.layout.proofs.Bridge.{network-is, laid_of}
use Rattle.printing.specs.Lines.{rows, Printable, Accepted}

module _ (N : Network) (r : Reply) where
  by_kind : (b : Bool) → eqb r.answer.kind 2 ≡ b → text_of (reply_lines N r) ≡ line_text (answer_line r.answer) ++ text_of (cond b [] (tuple_lines N r.words))
  unfolding reply_lines
  by_kind b e =
      text_of-cons (answer_line r.answer) (cond (eqb r.answer.kind 2) [] (tuple_lines N r.words))
      ∙ ap (λ (c : Bool). line_text (answer_line r.answer) ++ text_of (cond c [] (tuple_lines N r.words))) e

  pub reply_text-refused : eqb r.answer.kind 2 ≡ true → text_of (reply_lines N r) ≡ line_text (answer_line r.answer)
  unfolding text_of
  reply_text-refused e = by_kind true e ∙ append-nil (line_text (answer_line r.answer))

  pub reply_text-accepted : eqb r.answer.kind 2 ≡ false → text_of (reply_lines N r) ≡ line_text (answer_line r.answer) ++ text_of (tuple_lines N r.words)
  reply_text-accepted e = by_kind false e

-- ---- The tuples of a reply that is no refusal

module _ (S : Shape) (variables values words : List ℕ) (a : Accepted (network_of S variables values) words) where
  abbrev starts : List ℕ
  starts = starts_of (relations_of S)

  pub accepted-printable : Printable starts values words
  accepted-printable =
      let v = value_start-of (relations_of S) max_relations (omega arith) in
      let t = tuple_start-of (relations_of S) max_relations (omega arith) in
      record {
        framed = (laid_of S variables values a.faultless).framed;
        all-values = omega (arith, before-le values_in (relations_of S) max_relations, (faultless (network_of S variables values) a.faultless).values);
        all-bits = omega (arith, before-le tuples_in (relations_of S) max_relations, a.enough);
      }

  -- the starts describe the shape's records, and no line shows a scope
  pub accepted-lines : tuple_lines (rows starts values) words ≡ tuple_lines (network_of S variables values) words
  unfolding tuple_lines relation_of index_of tuple_of values_at
  accepted-lines =
      ap (λ (N : Network). tuple_lines N words) (network-is S variables values a.faultless)
