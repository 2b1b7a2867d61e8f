use mathlib.Core.Path.{◌∙◌}
use Prim.Native.Nat.{ℕ}
use mir.Val.{Fits}
use mir.Syntax.{w64}
use lib.ListN.{get_or}
use Rattle.model.specs.Request.{choose}
use Rattle.layout.specs.Shape.{network_of}
use Rattle.request.proofs.Openings.{variable-refusal}
use Rattle.request.proofs.Plans.{planned-shared, planned-own}
use Rattle.std.proofs.Common.{rules}
use Rattle.request.proofs.plan.plan_choose.Goals as goal

pub returns-then-fault-ne0 : goal.returns-then-fault-ne0
returns-then-fault-ne0 c S m members words numbers wrong opened =
    planned-shared S c.args.variables.now c.args.values.now m members words numbers wrong (choose c.args.x c.args.v) c.args.opening opened _ c.if-fault-ne0.true

pub returns : goal.returns
returns c S m members words numbers wrong opened =
    let fits : (i : ℕ) → Fits w64 (get_or c.unlike-removed.result i 0) = λ i. search rules in
    planned-own S c.args.variables.now c.args.values.now m members words numbers wrong (choose c.args.x c.args.v) c.args.opening opened c.if-fault-ne0.false c.variable_fault-fault.result
    (c.variable_fault-fault.ensures ∙ variable-refusal (network_of S c.args.variables.now c.args.values.now) c.args.x c.args.v)
    c.unlike-removed.result (λ _. (record { long = search rules; small = λ i h. (fits i).fits }, c.unlike-removed.ensures))
