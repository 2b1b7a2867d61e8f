-- From how a record is read from its line.
use Rattle.std.proofs.Common.{◌≡◌, sym, ◌∙◌, drop, rules}
use Rattle.std.proofs.Math.Option.{some}
use Rattle.model.specs.Text.{max_field}
use Rattle.model.specs.Reading.{read_line}
use Rattle.reading.proofs.Found.{found-at, found_none}
use Rattle.reading.proofs.Networks.{line-alone, record-none, record-wrong, record-many, record-proper}
use Rattle.reading.proofs.relations.record_at.Goals as goal
use Rattle.reading.proofs.relations.record_at.Goals.{Else-next-eq0}

-- the line as it was read
line-some : (c : Else-next-eq0) → read_line max_field 2 (drop c.args.at c.args.text.now) ≡ some (c.line-next.new.into, drop c.line-next.result c.args.text.now)
line-some c =
    sym (line-alone max_field 2 c.args.text.now (drop c.args.at c.args.text.now) c.line-next.new.into c.line-next.result (search rules) c.line-next.ensures.read)
    ∙ found-at c.args.text.now c.line-next.result c.line-next.new.into c.if-next-eq0.false

pub returns-then-next-eq0-clause-read : goal.returns-then-next-eq0-clause-read
returns-then-next-eq0-clause-read c =
    let t = c.args.text.now in
    let read = line-alone max_field 2 t (drop c.args.at t) c.line-next.new.into c.line-next.result (search rules) c.line-next.ensures.read in
    record-none c.args.room (drop c.args.at t) (sym read ∙ found_none t c.line-next.result c.line-next.new.into c.if-next-eq0.true)

pub returns-then-not-within-clause-read : goal.returns-then-not-within-clause-read
returns-then-not-within-clause-read c =
    record-wrong c.args.room (drop c.args.at c.args.text.now) _ _ (line-some (goal.at.returns-then-not-within-clause-read c).Else-next-eq0) c.number-width.result c.number-tuples.result c.number-width.ensures.0 c.number-tuples.ensures.0 (sym c.within.ensures ∙ c.if-not-within.true)

pub returns-then-room-tuples-clause-read : goal.returns-then-room-tuples-clause-read
returns-then-room-tuples-clause-read c =
    record-many c.args.room (drop c.args.at c.args.text.now) _ _ (line-some (goal.at.returns-then-room-tuples-clause-read c).Else-next-eq0) c.number-width.result c.number-tuples.result c.number-width.ensures.0 c.number-tuples.ensures.0 (sym c.within.ensures ∙ c.if-not-within.false) c.if-room-tuples.true

pub returns-clause-read : goal.returns-clause-read
returns-clause-read c =
    record-proper c.args.room (drop c.args.at c.args.text.now) _ _ (line-some (goal.at.returns-clause-read c).Else-next-eq0) c.number-width.result c.number-tuples.result c.number-width.ensures.0 c.number-tuples.ensures.0 (sym c.within.ensures ∙ c.if-not-within.false) c.if-room-tuples.false
