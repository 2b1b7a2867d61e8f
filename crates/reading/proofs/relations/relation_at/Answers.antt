-- From how a relation is read from its record, its scope and its values.
use Rattle.std.proofs.Common.{sym, ap, List, ◌++◌, ℕ, ◌+◌, ◌*◌, ◌≤◌, ◌<◌, take, drop, arith}
use native.Mathlib.Nat.{mul-le-mul}
use Rattle.model.specs.Limits.{max_width}
use Rattle.model.specs.Text.{max_field}
use Rattle.model.specs.Reading.{read_line}
use Rattle.reading.specs.Parts.{map_read, append, unlisted, record_of}
use Rattle.reading.proofs.Found.{positive, map-none}
use Rattle.reading.proofs.Networks.{record-width, relation-none, relation-scopeless, relation-found}
use Rattle.reading.proofs.relations.relation_at.Goals as goal

pub returns-in_default-clause-read : goal.returns-in_default-clause-read
returns-in_default-clause-read c =
    let a = c.args in
    sym (ap (map_read (append (unlisted (take a.variable a.variables.now) (take a.value a.values.now)))) (relation-none a.room (drop a.at a.text.now) c.in_default.ensures.read))

pub line-scope_end-requires : goal.line-scope_end-requires
line-scope_end-requires c = (record-width c.args.room (drop c.args.at c.args.text.now) _ _ c.in-Some.ensures.read, omega (arith, c.in-Some.ensures.small))

pub returns-then-scope_end-eq0-clause-read : goal.returns-then-scope_end-eq0-clause-read
returns-then-scope_end-eq0-clause-read c =
    let a = c.args in
    let r = c.in-Some.r in
    let t = a.text.now in
    let us = take a.variable a.variables.now in
    let absent = map-none (λ (vs : List ℕ). us ++ vs) t c.line-scope_end.result (take (a.variable + r.width) c.line-scope_end.new.into) (read_line max_field r.width (drop r.next t)) c.line-scope_end.ensures.read c.if-scope_end-eq0.true in
    sym (ap (map_read (append (unlisted us (take a.value a.values.now)))) (relation-scopeless a.room (drop a.at t) (record_of r) (drop r.next t) c.in-Some.ensures.read absent))

pub lines-next-requires : goal.lines-next-requires
lines-next-requires c =
    let r = c.in-Some.r in
    let small = c.in-Some.ensures.small in
    let few : r.tuples * r.width ≤ c.args.room * max_width = mul-le-mul small.2 small.1 in
    let wide : 0 < r.width = record-width c.args.room (drop c.args.at c.args.text.now) _ _ c.in-Some.ensures.read in
    (positive c.line-scope_end.result c.if-scope_end-eq0.false, wide, omega arith)

pub returns-clause-read : goal.returns-clause-read
returns-clause-read c =
    let a = c.args in
    let r = c.in-Some.r in
    relation-found a.room (drop a.at a.text.now) (record_of r) (drop r.next a.text.now) c.in-Some.ensures.read
    a.text.now (take a.variable a.variables.now) (take (a.variable + r.width) c.line-scope_end.new.into)
    (take a.value a.values.now) (take (a.value + r.tuples * r.width) c.lines-next.new.into)
    c.line-scope_end.result c.lines-next.result c.line-scope_end.ensures.read c.if-scope_end-eq0.false c.lines-next.ensures.read
