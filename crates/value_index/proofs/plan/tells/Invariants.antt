use Rattle.std.proofs.Common.{◌≤◌}
use Rattle.value_index.specs.Plan.{hashes}
use Rattle.value_index.proofs.plan.tells.Given as goal

abbrev pub invariant-loop : goal.invariant-loop
invariant-loop l = l.reached ≤ hashes
