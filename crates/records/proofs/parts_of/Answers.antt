-- From the laws of records taken one after the other, and the contracts of the three functions that are called.
use Rattle.std.proofs.Common.{◌≡◌, ◌+◌, length, take, suc, sym, ◌∙◌, ap, arith, length-take-le, get_or-take}
use Rattle.records.specs.Records.{no_record}
use Rattle.records.proofs.Taken.{taken, taken_none, taken_next, taken-all}
use Rattle.records.proofs.parts_of.Goals as goal

pub loop-i-init : goal.loop-i-init
loop-i-init c = c.blank-parts.ensures ∙ sym (taken_none c.args.relations.now)

pub loop-i-preserved : goal.loop-i-preserved
loop-i-preserved c =
    let lent = c.args.relations.now in
    let i = c.loop-i.i in
    let n = c.at_most_64-n.result in
    let few : length (take n lent) ≡ n = length-take-le n lent (omega arith) in
    let next : suc i ≡ i + 1 = omega arith in
    c.with_record-parts.ensures
    ∙ rw (c.loop-i.invariant, get_or-take n lent i no_record (omega arith)) (sym (taken_next lent i) ∙ ap (taken lent) next)

pub returns : goal.returns
returns c =
    let lent = c.args.relations.now in
    let n = c.at_most_64-n.result in
    let few : length (take n lent) ≡ n = length-take-le n lent (omega arith) in
    let all : c.loop-i.i ≡ n = omega arith in
    c.loop-i.invariant ∙ ap (taken lent) (all ∙ c.at_most_64-n.ensures) ∙ taken-all lent
