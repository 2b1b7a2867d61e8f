use mathlib.Core.Path.{◌≡◌, refl, ap, ◌∙◌}
use mathlib.Core.Option.{none}
use mathlib.Core.List.{[], ◌∷◌}
use Prim.Native.Nat.{ℕ}
use Rattle.model.specs.Request.{Instance, combinations_of}
use Rattle.model.specs.Fault.{first_fault, network_faults, combination_faults, instance_faults, words_fault, supports_fault, list_faults}
use Rattle.model.proofs.Fault.{first_fault-front, first_fault-back}
use Rattle.layout.specs.Shape.{relations_of, instance_of}
use Rattle.combination.specs.Refusals.{supports_refusal}
use Rattle.request.specs.Checks.{test_faults_on}
use Rattle.layout.proofs.Checked.{opened-laid, opened-paired, opened-needed}
use Rattle.request.proofs.Openings.{opened-none, opened-front, opened-back}
use Rattle.request.proofs.checks.checked.Goals as goal

pub returns-then-opening-ne0 : goal.returns-then-opening-ne0
unfolding list_faults
returns-then-opening-ne0 c =
    let I = instance_of c.args.shape c.args.variables.now c.args.values.now c.args.m c.args.members.now in
    opened-front c.test_checked-opening.result (test_faults_on I c.args.words) (relations_of c.args.shape) c.test_checked-opening.ensures (supports_fault I c.args.numbers ∷ []) c.if-opening-ne0.true

-- without a fault 2 to 11
sound : (I : Instance) (words : ℕ) → first_fault (test_faults_on I words) ≡ none → first_fault (instance_faults I) ≡ none
sound I words e = first_fault-front (instance_faults I) (words_fault I.network words ∷ []) e

pub needed-requires : goal.needed-requires
needed-requires c =
    let I = instance_of c.args.shape c.args.variables.now c.args.values.now c.args.m c.args.members.now in
    let starts = c.test_checked-opening.result.starts in
    let e = c.test_checked-opening.ensures.starts c.if-opening-ne0.false in
    let passed = sound I c.args.words (opened-none c.test_checked-opening.result (test_faults_on I c.args.words) (relations_of c.args.shape) c.test_checked-opening.ensures refl c.if-opening-ne0.false) in
    let network = first_fault-front (network_faults I.network) (combination_faults I) passed in (
      (opened-laid c.args.shape c.args.variables.now c.args.values.now starts e network).framed,
      opened-paired c.args.shape c.args.variables.now c.args.values.now starts e network c.args.m c.args.members.now (first_fault-back (network_faults I.network) (combination_faults I) passed),
    )

pub returns : goal.returns
unfolding list_faults
returns c =
    let I = instance_of c.args.shape c.args.variables.now c.args.values.now c.args.m c.args.members.now in
    let passed = sound I c.args.words (opened-none c.test_checked-opening.result (test_faults_on I c.args.words) (relations_of c.args.shape) c.test_checked-opening.ensures refl c.if-opening-ne0.false) in
    opened-back c.test_checked-opening.result (test_faults_on I c.args.words) (relations_of c.args.shape) c.test_checked-opening.ensures (supports_fault I c.args.numbers ∷ []) c.supports_fault-fault.result refl c.if-opening-ne0.false
    (c.supports_fault-fault.ensures
    ∙ ap (λ (n : ℕ). supports_refusal n c.args.numbers)
    (c.needed.ensures
    ∙ opened-needed c.args.shape c.args.variables.now c.args.values.now c.test_checked-opening.result.starts (c.test_checked-opening.ensures.starts c.if-opening-ne0.false) (first_fault-front (network_faults I.network) (combination_faults I) passed) (combinations_of I)))
