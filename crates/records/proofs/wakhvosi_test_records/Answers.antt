-- From the contract of `packed::test`, and that the parts of the records hold their instance.
use Rattle.std.proofs.Common.{◌∙◌, ap}
use Rattle.model.specs.Reply.{test_reply}
use Rattle.layout.specs.Shape.{instance_of}
use Rattle.layout.proofs.Records.{test_reply-shape_of}
use Rattle.records.specs.declared.Parts.{Parts}
use Rattle.records.specs.Records.{relations_in}
use Rattle.records.proofs.wakhvosi_test_records.Goals as goal

pub returns : goal.returns
returns c =
    let a = c.args in
    c.test.ensures
    ∙ ap (λ (P : Parts). test_reply (instance_of P.shape a.variables.now a.values.now a.m a.members.now) a.words.now) c.parts_of-parts.ensures
    ∙ test_reply-shape_of (relations_in a.relations.now) a.variables.now a.values.now a.m a.members.now a.words.now
