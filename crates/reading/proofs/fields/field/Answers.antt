-- From how the first byte of a field is read.
use Rattle.std.proofs.Common.{◌≡◌, sym, ◌∙◌, ◌-◌, get_or, rules}
use Rattle.reading.proofs.Bytes.{digit_low, digit-high, digit-is, field_past, field-stop, field-first}
use Rattle.reading.proofs.fields.field.Goals as goal

pub returns-then-text-at-clause-read : goal.returns-then-text-at-clause-read
returns-then-text-at-clause-read c = let a = c.args in sym (field_past a.top a.text.now a.end a.at c.if-text-at.true)

pub returns-then-b-lt-NOUGHT-clause-read : goal.returns-then-b-lt-NOUGHT-clause-read
returns-then-b-lt-NOUGHT-clause-read c = let a = c.args in sym (field-stop a.top a.text.now a.end a.at c.if-text-at.false (digit_low _ c.if-b-lt-NOUGHT.true))

pub returns-then-b-gt-NINE-clause-read : goal.returns-then-b-gt-NINE-clause-read
returns-then-b-gt-NINE-clause-read c = let a = c.args in sym (field-stop a.top a.text.now a.end a.at c.if-text-at.false (digit-high _ c.if-b-gt-NINE.true))

pub returns-clause-read : goal.returns-clause-read
returns-clause-read c =
    let a = c.args in
    let value : c.from.result ≡ get_or a.text.now a.at 0 - 48 = search rules in
    (rw value at c.digits.ensures.read) ∙ sym (field-first a.top a.text.now a.end a.at c.if-text-at.false (digit-is _ c.if-b-lt-NOUGHT.false c.if-b-gt-NINE.false))
