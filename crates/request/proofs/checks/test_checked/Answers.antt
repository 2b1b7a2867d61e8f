use mathlib.Core.Path.{refl, ap, ◌∙◌}
use mathlib.Core.List.{[], ◌∷◌}
use Prim.Native.Nat.{ℕ}
use Rattle.model.specs.Fault.{network_faults, combination_faults, instance_faults, words_fault}
use Rattle.model.proofs.Fault.{first_fault-front}
use Rattle.layout.specs.Shape.{relations_of, instance_of}
use Rattle.combination.specs.Refusals.{words_refusal}
use Rattle.layout.proofs.Checked.{opened-total}
use Rattle.request.proofs.Openings.{opened-none, opened-front, opened-back}
use Rattle.request.proofs.checks.test_checked.Goals as goal

pub returns-then-opening-ne0 : goal.returns-then-opening-ne0
returns-then-opening-ne0 c =
    let I = instance_of c.args.shape c.args.variables.now c.args.values.now c.args.m c.args.members.now in
    opened-front c.instance_checked-opening.result (instance_faults I) (relations_of c.args.shape) c.instance_checked-opening.ensures (words_fault I.network c.args.words ∷ []) c.if-opening-ne0.true

pub returns : goal.returns
returns c =
    let I = instance_of c.args.shape c.args.variables.now c.args.values.now c.args.m c.args.members.now in
    let sound = first_fault-front (network_faults I.network) (combination_faults I) (opened-none c.instance_checked-opening.result (instance_faults I) (relations_of c.args.shape) c.instance_checked-opening.ensures refl c.if-opening-ne0.false) in
    opened-back c.instance_checked-opening.result (instance_faults I) (relations_of c.args.shape) c.instance_checked-opening.ensures (words_fault I.network c.args.words ∷ []) c.words_fault-fault.result refl c.if-opening-ne0.false
    (c.words_fault-fault.ensures
    ∙ ap (λ (n : ℕ). words_refusal n c.args.words)
    (c.tuple_count.ensures
    ∙ opened-total c.args.shape c.args.variables.now c.args.values.now c.instance_checked-opening.result.starts (c.instance_checked-opening.ensures.starts c.if-opening-ne0.false) sound))
