use mathlib.Core.Path.{sym, ◌∙◌}
use Prim.Native.Nat.{ℕ}
use mir.Val.{Fits}
use mir.Syntax.{w64}
use lib.ListN.{get_or}
use Rattle.model.specs.Request.{choose_several}
use Rattle.layout.specs.Shape.{network_of}
use Rattle.layout.specs.Setting.{network}
use Rattle.request.proofs.Plans.{G, planned-shared, planned-own}
use Rattle.request.proofs.Pairs.{choices-refusal, choices-low, kept-holds}
use Rattle.std.proofs.Common.{rules}
use Rattle.request.proofs.plan.plan_choose_several.Goals as goal

pub returns-then-fault-ne0 : goal.returns-then-fault-ne0
returns-then-fault-ne0 c xs vs lists S m members words numbers wrong opened =
    planned-shared S c.args.variables.now c.args.values.now m members words numbers wrong (choose_several xs vs) c.args.opening opened _ c.if-fault-ne0.true

pub returns : goal.returns
returns c xs vs lists S m members words numbers wrong opened =
    let N = network_of S c.args.variables.now c.args.values.now in
    let M = network (G S c.args.variables.now c.args.values.now m members words numbers wrong (choose_several xs vs) c.args.opening opened) in
    let fits : (i : ℕ) → Fits w64 (get_or c.unlike_any-removed.result i 0) = λ i. search rules in
    planned-own S c.args.variables.now c.args.values.now m members words numbers wrong (choose_several xs vs) c.args.opening opened c.if-fault-ne0.false c.choices_fault-fault.result
    (c.choices_fault-fault.ensures ∙ choices-refusal N c.args.choices xs vs lists)
    c.unlike_any-removed.result
    (λ z. (record { long = search rules; small = λ i h. (fits i).fits }, kept-holds M c.unlike_any-removed.result c.args.choices xs vs lists (choices-low N c.args.choices xs vs lists (sym c.choices_fault-fault.ensures ∙ z)) c.unlike_any-removed.ensures))
