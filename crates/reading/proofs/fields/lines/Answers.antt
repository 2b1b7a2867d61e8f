-- From how lines are read line by line.
use Rattle.std.proofs.Common.{◌≡◌, refl, sym, ap, ◌∙◌, ℕ, ◌+◌, ◌-◌, ◌*◌, take, drop, arith}
use Rattle.model.specs.Reading.{read_lines}
use Rattle.reading.specs.Parts.{found_at, behind}
use Rattle.reading.proofs.Found.{positive}
use Rattle.reading.proofs.Lines.{drop-later, lines-stop, lines_more, lines_end, line-inside, next_place}
use Rattle.reading.proofs.fields.lines.Goals as goal
use Rattle.reading.proofs.fields.lines.Goals.{After-line-from}

-- behind all lines the list is still as lent
kept : (c : After-line-from) → let a = c.args in drop (a.start + a.k * a.n) c.line-from.new.into ≡ drop (a.start + a.k * a.n) a.into.now
kept c =
    let a = c.args in
    let l = c.loop-i in
    drop-later (a.start + l.i * a.n + a.n) (a.start + a.k * a.n) c.line-from.new.into l.into (omega (arith, line-inside l.i a.k a.n (omega arith))) c.line-from.ensures.kept
    ∙ l.invariant.kept

pub returns-then-from-eq0-clause-read : goal.returns-then-from-eq0-clause-read
returns-then-from-eq0-clause-read c =
    let a = c.args in
    let l = c.loop-i in
    let to = a.start + l.i * a.n in
    sym (lines-stop a.top (a.k - (l.i + 1)) (a.k - l.i) a.n a.text.now (drop l.from a.text.now) (take to l.into) (take (to + a.n) c.line-from.new.into) c.line-from.result (omega arith) c.line-from.ensures.read c.if-from-eq0.true)
    ∙ l.invariant.read

pub returns-then-from-eq0-clause-kept : goal.returns-then-from-eq0-clause-kept
returns-then-from-eq0-clause-kept c = kept (goal.at.returns-then-from-eq0-clause-kept c).After-line-from

pub loop-i-preserved : goal.loop-i-preserved
loop-i-preserved c =
    let a = c.args in
    let l = c.loop-i in
    let to = a.start + l.i * a.n in
    record {
      placed = positive c.line-from.result c.if-from-eq0.false;
      read =
          ap (λ (j : ℕ). behind (take j c.line-from.new.into) (read_lines a.top (a.k - (l.i + 1)) a.n (drop c.line-from.result a.text.now))) (sym (next_place a.start to l.i a.n refl))
          ∙ sym (lines_more a.top (a.k - (l.i + 1)) (a.k - l.i) a.n a.text.now (drop l.from a.text.now) (take to l.into) (take (to + a.n) c.line-from.new.into) c.line-from.result (omega arith) c.line-from.ensures.read c.if-from-eq0.false)
          ∙ l.invariant.read;
      kept = kept (goal.at.loop-i-preserved c).After-line-from;
    }

pub returns-clause-read : goal.returns-clause-read
returns-clause-read c =
    let a = c.args in
    let l = c.loop-i in
    let t = a.text.now in
    let i : a.k ≡ l.i = omega arith in
    let none_left : 0 ≡ a.k - l.i = omega arith in
    ap (λ (j : ℕ). found_at l.from (take (a.start + j * a.n) l.into) t) i
    ∙ lines_end a.top a.n t (take (a.start + l.i * a.n) l.into) l.from l.invariant.placed
    ∙ ap (λ (j : ℕ). behind (take (a.start + l.i * a.n) l.into) (read_lines a.top j a.n (drop l.from t))) none_left
    ∙ l.invariant.read
