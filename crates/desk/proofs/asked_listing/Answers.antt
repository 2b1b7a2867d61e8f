-- From the reading of the field, and that a field that is read is in range.
use Rattle.std.proofs.Common.{◌≡◌, sym, ap, subst, ◌∙◌, ◌++◌, List, [], ◌∷◌, ℕ, ◌-◌, length, take, drop, length-drop, arith}
use Rattle.std.proofs.Math.Option.{none, some}
use lib.Seq.{take-length}
use Rattle.model.specs.Text.{max_field, newline, text_of}
use Rattle.model.specs.Reading.{read_field}
use Rattle.model.specs.Listing.{refused_line, combination_listing}
use Rattle.model.proofs.ReadLines.{field_bound, read_field-sound}
use Rattle.reading.proofs.Found.{found-at, found_none}
use Rattle.desk.specs.Asked.{asked_for, asked_listing}
use Rattle.desk.proofs.Written.{written}
use Rattle.desk.proofs.asked_listing.Goals as goal
use Rattle.desk.proofs.asked_listing.Goals.{Else-m-eq0}

-- ---- What is asked, by what was read

asked-none : (input : List ℕ) → read_field max_field newline input ≡ none → text_of (refused_line ∷ []) ≡ asked_listing input
unfolding asked_listing
asked-none input e = ap asked_for (sym e)

asked-some : (input : List ℕ) (m : ℕ) (text : List ℕ) → read_field max_field newline input ≡ some (m, text) → combination_listing m text ≡ asked_listing input
unfolding asked_listing
asked-some input m text e = ap asked_for (sym e)

-- the text behind m, to the end
behind : (n : ℕ) (input : List ℕ) → take (length input - n) (drop n input) ≡ drop n input
behind n input = ap (λ (k : ℕ). take k (drop n input)) (sym (length-drop n input)) ∙ take-length (drop n input)

read : (c : Else-m-eq0) → read_field max_field newline c.args.input.now ≡ some (c.field-m.result.value, drop c.field-m.result.next c.args.input.now)
read c = sym c.field-m.ensures.read ∙ found-at c.args.input.now c.field-m.result.next c.field-m.result.value c.if-m-eq0.false

pub returns-then-m-eq0-clause-text : goal.returns-then-m-eq0-clause-text
returns-then-m-eq0-clause-text c =
    let f = c.field-m in
    let input = c.args.input.now in
    let absent = sym f.ensures.read ∙ found_none input f.result.next f.result.value c.if-m-eq0.true in
    (written (asked_listing input) (asked-none input absent) c.refused.ensures).1

pub overflow_cast-m : goal.overflow_cast-m
overflow_cast-m c = omega (arith, (read_field-sound max_field field_bound newline c.args.input.now (read (goal.at.overflow_cast-m c).Else-m-eq0)).0)

pub returns-clause-text : goal.returns-clause-text
returns-clause-text c =
    let f = c.field-m.result in
    let k = c.combination_listing in
    let input = c.args.input.now in
    let told : combination_listing f.value (take (length input - f.next) (drop f.next input)) ≡ asked_listing input =
    ap (combination_listing f.value) (behind f.next input) ∙ asked-some input f.value (drop f.next input) (read (goal.at.returns-clause-text c).Else-m-eq0)
    in
    subst (λ (t : List ℕ). (k.result ≡ length t) × (k.new.out ≡ t ++ drop k.result c.args.out.now)) told k.ensures.text
