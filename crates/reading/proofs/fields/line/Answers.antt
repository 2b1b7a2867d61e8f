-- From how a line is read field by field.
use Rattle.std.proofs.Common.{sym, ap, ◌∙◌, List, ℕ, ◌+◌, ◌-◌, take, drop, arith}
use lib.Seq.{drop-set-lt}
use Rattle.model.specs.Reading.{read_line}
use Rattle.reading.specs.Parts.{behind}
use Rattle.reading.proofs.Found.{found-at, found_none}
use Rattle.reading.proofs.Lines.{take_more, line-stop, line-more}
use Rattle.reading.proofs.fields.line.Goals as goal

pub returns-then-f-eq0-clause-read : goal.returns-then-f-eq0-clause-read
returns-then-f-eq0-clause-read c =
    let a = c.args in
    let l = c.loop-to in
    let f = c.field-f in
    sym (line-stop a.top (a.start + a.n - (l.to + 1)) (a.start + a.n - l.to) (drop l.from a.text.now) (take l.to l.into) (omega arith) (omega arith) (sym f.ensures.read ∙ found_none a.text.now f.result.next f.result.value c.if-f-eq0.true))
    ∙ l.invariant.read

pub loop-to-preserved : goal.loop-to-preserved
loop-to-preserved c =
    let a = c.args in
    let l = c.loop-to in
    let f = c.field-f in
    let j = a.start + a.n - (l.to + 1) in
    let reads = sym f.ensures.read ∙ found-at a.text.now f.result.next f.result.value c.if-f-eq0.false in
    record {
      read =
          ap (λ (us : List ℕ). behind us (read_line a.top j (drop f.result.next a.text.now))) (take_more l.into l.to f.result.value (omega arith))
          ∙ sym (line-more a.top j (a.start + a.n - l.to) (drop l.from a.text.now) (take l.to l.into) (omega arith) (omega arith) (drop f.result.next a.text.now) f.result.value reads)
          ∙ l.invariant.read;
      kept = drop-set-lt (a.start + a.n) l.into l.to f.result.value (omega arith) ∙ l.invariant.kept;
    }
