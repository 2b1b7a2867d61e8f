-- The best so far is a place in the set, if there is one.
use Rattle.std.proofs.Common.{MatchOption}
use Rattle.refuting.specs.Refuted.{Left}
use Rattle.refuting.proofs.fewest.Given as goal

abbrev pub invariant-loop-j : goal.invariant-loop-j
invariant-loop-j l = MatchOption l.best (Unit {0}) (λ j. Left l.members l.left j)
