-- Nothing was found before the id reached, where there is still all to find.
use Rattle.std.proofs.Common.{◌≤◌, List, ℕ}
use Rattle.support.specs.Search.{searching}
use Rattle.support.proofs.Turn.{Passed}
use Rattle.support.proofs.walk_last.Given as goal

abbrev pub invariant-loop-g : goal.invariant-loop-g
invariant-loop-g l = record {
  passed : Passed (searching (λ (xs : List ℕ). xs) l.variables l.values l.starts l.words l.members l.place l.own l.low) l.k l.resumes l.chosen l.from l.end l.g-iterator.words.now l.g-iterator.at l.g-iterator.end;
  fewer : l.failures ≤ l.g-iterator.at;
}
