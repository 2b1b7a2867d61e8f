-- From the laws of pairs added one after the other, and of entries read from bytes.
use Rattle.std.proofs.Common.{arith, sym, ◌∙◌, ◌<◌, ◌/◌, length}
use Rattle.request.proofs.Pairs.{paired-start, paired-next, paired-end}
use Rattle.wire.proofs.Entries.{entries16-length, entries16-at, entries32-length, entries32-at}
use Rattle.encoding.proofs.choices.choices_at.Goals as goal

pub loop-i-init : goal.loop-i-init
loop-i-init c = paired-start _ _

pub loop-i-preserved : goal.loop-i-preserved
loop-i-preserved c =
    let l = c.loop-i in
    let variable : l.i < length c.args.questions.now / 2 = omega arith in
    let value : l.i < length c.args.codes.now / 4 = omega arith in
    paired-next _ _ l.firsts l.seconds l.bound l.i l.invariant
    (omega (arith, entries16-length c.args.questions.now)) (omega (arith, entries32-length c.args.codes.now)) _ _ _ _ _
    (c.at-x.ensures ∙ sym (entries16-at _ _ variable))
    (c.at-v.ensures ∙ sym (entries32-at _ _ value))
    c.add_choice-bound.ensures.0
    c.add_choice-bound.ensures.1

pub returns : goal.returns
returns c =
    let l = c.loop-i in
    let variables = entries16-length c.args.questions.now in
    let values = entries32-length c.args.codes.now in
    rw (← variables, ← values) (paired-end _ _ l.firsts l.seconds l.bound l.i l.invariant (rw (variables, values) (omega arith)))
