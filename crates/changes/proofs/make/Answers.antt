-- From the laws of what is planned.
use Rattle.std.proofs.Common.{length, ◌∙◌}
use Rattle.layout.specs.Shape.{instance_of}
use Rattle.changes.proofs.Changed.{clear-ready, planned-refused, planned-tally, planned-reply}
use Rattle.changes.proofs.make.Goals as goal

pub returns-then-fault-ne0 : goal.returns-then-fault-ne0
returns-then-fault-ne0 c =
    let a = c.args in
    λ S change planned.
    planned-refused a.plan (instance_of S a.variables.now a.values.now a.m a.members.now) a.words.now a.supports.now a.counts.now change planned c.if-fault-ne0.true

pub change-requires : goal.change-requires
change-requires c =
    let a = c.args in
    let P = c.requires in
    let I = instance_of P.shape a.variables.now a.values.now a.m a.members.now in
    let clear = P.planned.clear c.if-fault-ne0.false in
    clear-ready a.plan I (length a.words.now) (length a.supports.now) P.change clear a.words.now a.supports.now a.counts.now clear.sufficient.enough clear.sufficient.room
    (planned-tally a.plan I a.words.now a.supports.now a.counts.now P.change P.planned c.if-fault-ne0.false)

pub returns : goal.returns
returns c =
    let a = c.args in
    λ S change planned.
    c.change.ensures
    ∙ planned-reply a.plan (instance_of S a.variables.now a.values.now a.m a.members.now) a.words.now a.supports.now a.counts.now change planned c.if-fault-ne0.false
