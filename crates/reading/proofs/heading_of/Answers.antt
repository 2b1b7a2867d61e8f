-- From how a heading is read from its line.
use Rattle.std.proofs.Common.{◌≡◌, sym, ◌∙◌, drop, rules}
use Rattle.std.proofs.Math.Option.{some}
use Rattle.model.specs.Text.{max_field}
use Rattle.model.specs.Reading.{read_line}
use Rattle.reading.proofs.Found.{found-at, found_none}
use Rattle.reading.proofs.Networks.{line-alone}
use Rattle.reading.proofs.Whole.{heading-none, heading-relations, heading-m, heading-many, heading-proper}
use Rattle.reading.proofs.heading_of.Goals as goal
use Rattle.reading.proofs.heading_of.Goals.{Else-next-eq0}

-- the line as it was read
line-some : (c : Else-next-eq0) → read_line max_field 3 c.args.text.now ≡ some (c.line-next.new.into, drop c.line-next.result c.args.text.now)
line-some c =
    sym (line-alone max_field 3 c.args.text.now c.args.text.now c.line-next.new.into c.line-next.result (search rules) c.line-next.ensures.read)
    ∙ found-at c.args.text.now c.line-next.result c.line-next.new.into c.if-next-eq0.false

pub returns-then-next-eq0-clause-read : goal.returns-then-next-eq0-clause-read
returns-then-next-eq0-clause-read c =
    let t = c.args.text.now in
    let read = line-alone max_field 3 t t c.line-next.new.into c.line-next.result (search rules) c.line-next.ensures.read in
    heading-none t (sym read ∙ found_none t c.line-next.result c.line-next.new.into c.if-next-eq0.true)

pub returns-then-not-within-clause-read : goal.returns-then-not-within-clause-read
returns-then-not-within-clause-read c =
    heading-relations c.args.text.now _ _ (line-some (goal.at.returns-then-not-within-clause-read c).Else-next-eq0) c.number-relations.result c.number-m.result c.number-combinations.result c.number-relations.ensures.0 c.number-m.ensures.0 c.number-combinations.ensures.0
    (sym c.within.ensures ∙ c.if-not-within.true)

pub returns-then-not-within-2-clause-read : goal.returns-then-not-within-2-clause-read
returns-then-not-within-2-clause-read c =
    heading-m c.args.text.now _ _ (line-some (goal.at.returns-then-not-within-2-clause-read c).Else-next-eq0) c.number-relations.result c.number-m.result c.number-combinations.result c.number-relations.ensures.0 c.number-m.ensures.0 c.number-combinations.ensures.0
    (sym c.within.ensures ∙ c.if-not-within.false) (sym c.within-2.ensures ∙ c.if-not-within-2.true)

pub returns-then-combinations-gt-MAX_COMBINATIONS-clause-read : goal.returns-then-combinations-gt-MAX_COMBINATIONS-clause-read
returns-then-combinations-gt-MAX_COMBINATIONS-clause-read c =
    heading-many c.args.text.now _ _ (line-some (goal.at.returns-then-combinations-gt-MAX_COMBINATIONS-clause-read c).Else-next-eq0) c.number-relations.result c.number-m.result c.number-combinations.result c.number-relations.ensures.0 c.number-m.ensures.0 c.number-combinations.ensures.0
    (sym c.within.ensures ∙ c.if-not-within.false) (sym c.within-2.ensures ∙ c.if-not-within-2.false) c.if-combinations-gt-MAX_COMBINATIONS.true

pub returns-clause-read : goal.returns-clause-read
returns-clause-read c =
    heading-proper c.args.text.now _ _ (line-some (goal.at.returns-clause-read c).Else-next-eq0) c.number-relations.result c.number-m.result c.number-combinations.result c.number-relations.ensures.0 c.number-m.ensures.0 c.number-combinations.ensures.0
    (sym c.within.ensures ∙ c.if-not-within.false) (sym c.within-2.ensures ∙ c.if-not-within-2.false) c.if-combinations-gt-MAX_COMBINATIONS.false
