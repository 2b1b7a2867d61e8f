use mathlib.Core.Path.{refl, ap, ◌∙◌}
use Rattle.model.specs.Request.{Instance}
use Rattle.model.specs.Fault.{first_fault, refusal, network_faults, combination_faults}
use Rattle.layout.specs.Shape.{relations_of, instance_of, network_of}
use Rattle.layout.proofs.Checked.{opened-laid, opened-instance}
use Rattle.request.proofs.Openings.{opened-none, opened-front, opened-back}
use Rattle.request.proofs.checks.instance_checked.Goals as goal

pub returns-then-opening-ne0 : goal.returns-then-opening-ne0
returns-then-opening-ne0 c =
    let I = instance_of c.args.shape c.args.variables.now c.args.values.now c.args.m c.args.members.now in
    opened-front c.network_checked-opening.result (network_faults I.network) (relations_of c.args.shape) c.network_checked-opening.ensures (combination_faults I) c.if-opening-ne0.true

pub fault-fault-requires : goal.fault-fault-requires
fault-fault-requires c =
    let N = network_of c.args.shape c.args.variables.now c.args.values.now in
    let sound = opened-none c.network_checked-opening.result (network_faults N) (relations_of c.args.shape) c.network_checked-opening.ensures refl c.if-opening-ne0.false in
    opened-laid c.args.shape c.args.variables.now c.args.values.now c.network_checked-opening.result.starts (c.network_checked-opening.ensures.starts c.if-opening-ne0.false) sound

pub returns : goal.returns
returns c =
    let I = instance_of c.args.shape c.args.variables.now c.args.values.now c.args.m c.args.members.now in
    let sound = opened-none c.network_checked-opening.result (network_faults I.network) (relations_of c.args.shape) c.network_checked-opening.ensures refl c.if-opening-ne0.false in
    opened-back c.network_checked-opening.result (network_faults I.network) (relations_of c.args.shape) c.network_checked-opening.ensures (combination_faults I) c.fault-fault.result refl c.if-opening-ne0.false
    (c.fault-fault.ensures
    ∙ ap (λ (J : Instance). refusal (first_fault (combination_faults J)))
    (opened-instance c.args.shape c.args.variables.now c.args.values.now c.network_checked-opening.result.starts (c.network_checked-opening.ensures.starts c.if-opening-ne0.false) sound c.args.m c.args.members.now))
