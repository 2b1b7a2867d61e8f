use mathlib.Core.Path.{◌≡◌, sym, ap, ◌∙◌}
use Prim.Native.Nat.{ℕ}
use mir.Val.{Fits}
use mir.Syntax.{w64}
use lib.ListN.{get_or}
use Rattle.model.specs.Network.{total}
use Rattle.model.specs.Request.{Instance, withdraw}
use Rattle.layout.proofs.SoundStarts.{tuple-count}
use Rattle.layout.specs.Shape.{network_of}
use Rattle.layout.specs.Setting.{network}
use Rattle.request.specs.Checks.{ids_refusal}
use Rattle.request.proofs.Openings.{ids-refusal, ids-held}
use Rattle.request.proofs.Plans.{G, opened-sufficient, planned-shared, planned-own}
use Rattle.std.proofs.Common.{rules}
use Rattle.request.proofs.plan.plan_withdraw.Goals as goal

pub returns-then-fault-ne0 : goal.returns-then-fault-ne0
returns-then-fault-ne0 c ids lists S variables values m members words numbers wrong opened =
    planned-shared S variables values m members words numbers wrong (withdraw ids) c.args.opening opened _ c.if-fault-ne0.true

pub returns : goal.returns
returns c ids lists S variables values m members words numbers wrong opened =
    let given = network (G S variables values m members words numbers wrong (withdraw ids) c.args.opening opened) in
    let fitting = opened-sufficient S variables values m members words numbers wrong (withdraw ids) c.args.opening opened c.if-fault-ne0.false in
    let all : c.tuple_count.result ≡ total given = c.tuple_count.ensures ∙ tuple-count fitting.sound.laid.framed in
    let fits : (i : ℕ) → Fits w64 (get_or c.args.ids.words i 0) = λ i. search rules in
    planned-own S variables values m members words numbers wrong (withdraw ids) c.args.opening opened c.if-fault-ne0.false c.ids_fault-fault.result
    (c.ids_fault-fault.ensures ∙ ids-refusal (network_of S variables values) ids c.args.ids lists c.tuple_count.result (all ∙ ap (λ (J : Instance). total J.network) fitting.same))
    c.args.ids.words
    (λ z. (record { long = search rules; small = λ i h. (fits i).fits }, ids-held given ids c.args.ids lists (total given) (ap (λ (n : ℕ). ids_refusal n c.args.ids.bound) (sym all) ∙ sym c.ids_fault-fault.ensures ∙ z)))
