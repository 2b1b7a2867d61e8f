-- The faults in checking order, or the values moved.
use Rattle.std.proofs.Common.{◌≡◌, List, ℕ, refl, sym, ap, ◌∙◌}
use Rattle.std.proofs.Math.Option.{none}
use Rattle.model.specs.Fault.{network_faults, first_fault, refusal}
use Rattle.model.specs.Moves.{narrow, too_wide_faults}
use Rattle.layout.specs.Shape.{network_of}
use Rattle.moves.proofs.Replies.{fault-of, reply-network, reply-wide, reply-short, reply-done}
use Rattle.moves.proofs.narrow.Goals as goal

pub returns-then-f-ne0 : goal.returns-then-f-ne0
returns-then-f-ne0 c =
    let N = network_of c.args.shape c.args.variables.now c.args.values.now in
    reply-network narrow N c.args.target.now c.fault_on-f.result (fault-of N c.fault_on-f.result c.fault_on-f.ensures) c.if-f-ne0.true

pub returns-then-any_too_wide : goal.returns-then-any_too_wide
returns-then-any_too_wide c =
    let N = network_of c.args.shape c.args.variables.now c.args.values.now in
    let sound : 0 ≡ refusal (first_fault (network_faults N)) = sym c.if-f-ne0.false ∙ fault-of N c.fault_on-f.result c.fault_on-f.ensures in
    reply-wide narrow N c.args.target.now sound (rw (sym c.any_too_wide.ensures ∙ c.if-any_too_wide.true) refl)

pub returns-then-target-values : goal.returns-then-target-values
returns-then-target-values c =
    let N = network_of c.args.shape c.args.variables.now c.args.values.now in
    let sound : 0 ≡ refusal (first_fault (network_faults N)) = sym c.if-f-ne0.false ∙ fault-of N c.fault_on-f.result c.fault_on-f.ensures in
    let fit : first_fault (too_wide_faults narrow N.values) ≡ none = rw (sym c.any_too_wide.ensures ∙ c.if-any_too_wide.false) refl in
    reply-short narrow N c.args.target.now sound fit c.if-target-values.true

pub returns : goal.returns
returns c =
    let N = network_of c.args.shape c.args.variables.now c.args.values.now in
    let sound : 0 ≡ refusal (first_fault (network_faults N)) = sym c.if-f-ne0.false ∙ fault-of N c.fault_on-f.result c.fault_on-f.ensures in
    let fit : first_fault (too_wide_faults narrow N.values) ≡ none = rw (sym c.any_too_wide.ensures ∙ c.if-any_too_wide.false) refl in
    ap (λ (after : List ℕ). record { answer = (0, 0); target = after }) c.put_narrowed.ensures ∙ reply-done narrow N c.args.target.now sound fit c.if-target-values.false
