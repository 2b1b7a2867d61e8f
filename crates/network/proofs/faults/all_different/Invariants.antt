-- The columns from i on decide.
use Rattle.std.proofs.Common.{◌≡◌, drop}
use Rattle.model.specs.Lists.{pairwise}
use Rattle.model.specs.Fault.{different}
use Rattle.network.proofs.faults.all_different.Given as goal

abbrev pub invariant-loop-i : goal.invariant-loop-i
invariant-loop-i l = pairwise different (drop l.i l.scope) ≡ pairwise different l.scope
