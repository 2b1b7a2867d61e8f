use mathlib.Core.Path.{◌≡◌, sym, ◌∙◌}
use mathlib.Core.Bool.{and-false}
use native.Mathlib.Decide.{ℕ_discrete}
use lib.Dec.{ltb}
use lib.ListN.{replicate}
use Rattle.model.specs.Network.{Network, total}
use Rattle.model.specs.Request.{filter, removes}
use Rattle.model.proofs.LiveWords.{none-is_live}
use Rattle.layout.specs.Setting.{network}
use Rattle.request.specs.declared.checks.Opening.{Opening}
use Rattle.request.specs.Removal.{Holds, removed_by}
use Rattle.request.specs.Plan.{PlansFrom}
use Rattle.request.proofs.Removed.{blank-full}
use Rattle.request.proofs.Plans.{G, planned-shared, planned-own}
use Rattle.request.proofs.plan.plan_filter.Goals as goal

nothing-held : (N : Network) → Holds (replicate 64 0) (removed_by N filter)
unfolding removes
nothing-held N g h = none-is_live 64 g ∙ sym (and-false (ltb g (total N)))

plans : (o : Opening) → Dec (o.fault ≡ 0) → PlansFrom (record { fault = o.fault; starts = o.starts; removed = replicate 64 0 }) o filter
plans o (yes z) S variables values m members words numbers wrong opened =
    planned-own S variables values m members words numbers wrong filter o opened z o.fault z (replicate 64 0)
    (λ _. (blank-full, nothing-held (network (G S variables values m members words numbers wrong filter o opened))))
plans o (no d) S variables values m members words numbers wrong opened =
    planned-shared S variables values m members words numbers wrong filter o opened (replicate 64 0) d

pub returns : goal.returns
returns c = plans c.args.opening (ℕ_discrete c.args.opening.fault 0)
