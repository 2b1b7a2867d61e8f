-- From the contract of `packed::combinations`, and that the parts of the records hold their network.
use Rattle.std.proofs.Common.{◌∙◌, ap}
use Rattle.model.specs.Enumeration.{enumeration_reply}
use Rattle.layout.specs.Shape.{network_of}
use Rattle.layout.proofs.Records.{enumeration_reply-shape_of}
use Rattle.records.specs.declared.Parts.{Parts}
use Rattle.records.specs.Records.{relations_in}
use Rattle.records.proofs.wakhvosi_combinations_records.Goals as goal

pub returns : goal.returns
returns c =
    let a = c.args in
    c.combinations.ensures
    ∙ ap (λ (P : Parts). enumeration_reply (network_of P.shape a.variables.now a.values.now) a.m a.list.now) c.parts_of-parts.ensures
    ∙ enumeration_reply-shape_of (relations_in a.relations.now) a.variables.now a.values.now a.m a.list.now
