-- The answer's line and, unless it is a refusal, the tuples' lines behind it. From what the two parts ensure, and the text of a reply.
use Rattle.std.proofs.Common.{◌≡◌, false, sym, ap, ◌∙◌, List, [], ◌∷◌, ℕ, ◌≤◌, length, get_or, arith, rules}
use borrow.Author.Tests.{eq-eqb, ne_eqb}
use Rattle.model.specs.declared.Answer.{Answer}
use Rattle.model.specs.Network.{Network}
use Rattle.model.specs.Reply.{answer_numbers, replied}
use Rattle.model.specs.Text.{line_text, text_of}
use Rattle.model.specs.Listing.{answer_line, tuple_lines}
use Rattle.model.proofs.Text.{line_text-length}
use Rattle.layout.specs.Shape.{network_of}
use Rattle.printing.specs.Lines.{output, answer_room, rows, is_refusal, Accepted}
use Rattle.printing.specs.Appended.{Appended}
use Rattle.printing.proofs.Appended.{appended_then, appended-same, appended-end}
use Rattle.printing.proofs.Reply.{reply_text-refused, reply_text-accepted, accepted-printable, accepted-lines}
use Rattle.printing.proofs.answer.print.Goals as goal
use Rattle.printing.proofs.answer.print.Goals.{After-line-n, Else-fields-eq-REFUSED, After-starts_of-starts}

answer-short : (a : Answer) → length (line_text (answer_line (answer_numbers a))) ≤ answer_room
answer-short a = let n = answer_numbers a in line_text-length n.kind (n.subject ∷ n.left ∷ n.deleted ∷ [])

pub line-n-requires : goal.line-n-requires
line-n-requires c =
    let long : length c.args.out.now ≡ output = search rules in
    (search rules, omega (arith, long, ap (λ (xs : List ℕ). length (line_text xs)) c.answer_fields-fields.ensures, answer-short c.args.answer))

first : (c : After-line-n) → Appended (line_text (answer_line (answer_numbers c.args.answer))) c.args.out.now 0 c.line-n.new.out c.line-n.result
first c = appended-same (ap line_text c.answer_fields-fields.ensures) c.line-n.ensures

no-refusal : (c : Else-fields-eq-REFUSED) → is_refusal c.args.answer ≡ false
no-refusal c = ne_eqb _ _ (λ e. c.if-fields-eq-REFUSED.false (ap (λ (xs : List ℕ). get_or xs 0 0) c.answer_fields-fields.ensures ∙ e))

pub returns-then-fields-eq-REFUSED : goal.returns-then-fields-eq-REFUSED
returns-then-fields-eq-REFUSED c supports counts =
    let N : Network = network_of c.args.shape c.args.variables.now c.args.values.now in
    let refusal = eq-eqb _ _ (sym (ap (λ (xs : List ℕ). get_or xs 0 0) c.answer_fields-fields.ensures) ∙ c.if-fields-eq-REFUSED.true) in
    appended-same (sym (reply_text-refused N (replied c.args.answer c.args.words.now supports counts) refusal)) (first (goal.at.returns-then-fields-eq-REFUSED c).After-line-n)

-- the lines by the starts are those of the network
lines : (c : After-starts_of-starts) → Accepted (network_of c.args.shape c.args.variables.now c.args.values.now) c.args.words.now → tuple_lines (rows c.starts_of-starts.result c.args.values.now) c.args.words.now ≡ tuple_lines (network_of c.args.shape c.args.variables.now c.args.values.now) c.args.words.now
lines c accepted =
    let a = c.args in
    ap (λ (xs : List ℕ). tuple_lines (rows xs a.values.now) a.words.now) c.starts_of-starts.ensures ∙ accepted-lines a.shape a.variables.now a.values.now a.words.now accepted

pub tuple_lines-requires-clause-printable : goal.tuple_lines-requires-clause-printable
tuple_lines-requires-clause-printable c =
    let a = c.args in
    let accepted = c.requires (no-refusal (goal.at.tuple_lines-requires-clause-printable c).Else-fields-eq-REFUSED) in
    rw c.starts_of-starts.ensures (accepted-printable a.shape a.variables.now a.values.now a.words.now accepted)

pub tuple_lines-requires-clause-words_in_bounds : goal.tuple_lines-requires-clause-words_in_bounds
tuple_lines-requires-clause-words_in_bounds c =
    let at = goal.at.tuple_lines-requires-clause-words_in_bounds c in
    let accepted = c.requires (no-refusal at.Else-fields-eq-REFUSED) in
    let long : length c.args.out.now ≡ output = search rules in
    omega (arith, long, c.line-n.ensures.long, accepted.short, ap (λ (ls : List (List ℕ)). length (text_of ls)) (lines at.After-starts_of-starts accepted), appended-end {at = 0} (omega arith) (first at.After-line-n), answer-short c.args.answer)

pub returns : goal.returns
returns c supports counts =
    let at = goal.at.returns c in
    let N : Network = network_of c.args.shape c.args.variables.now c.args.values.now in
    let none = no-refusal at.Else-fields-eq-REFUSED in
    appended-same (sym (reply_text-accepted N (replied c.args.answer c.args.words.now supports counts) none))
    (appended_then (first at.After-line-n) (appended-same (ap text_of (lines at.After-starts_of-starts (c.requires none))) c.tuple_lines.ensures))
