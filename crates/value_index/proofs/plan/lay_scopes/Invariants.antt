use Rattle.value_index.specs.Index.{Full}
use Rattle.value_index.proofs.plan.lay_scopes.Given as goal

abbrev pub invariant-loop-r : goal.invariant-loop-r
invariant-loop-r l = Full l.index
