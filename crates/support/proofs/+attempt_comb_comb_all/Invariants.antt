-- Nothing was found before the id reached, where there is still all to find, and every entry of the table failed. The measure is the number of
-- members still unchosen.
use Rattle.std.proofs.Common.{◌+◌, ◌-◌, ◌*◌, List, ℕ, length}
use Rattle.support.specs.Search.{searching}
use Rattle.support.proofs.Turn.{Passed}
use Rattle.support.proofs.Failed.{Known}
use Rattle.support.proofs.+attempt_comb_comb_all.Given as goal

abbrev pub decreases-attempt : goal.decreases-attempt
decreases-attempt l = (length l.members.now - l.k) * 3

abbrev pub decreases-comb : goal.decreases-comb
decreases-comb l = (length l.members.now - l.k) * 3 + 1

abbrev pub decreases-comb_all : goal.decreases-comb_all
decreases-comb_all l = (length l.members.now - l.k) * 3 + 2

abbrev pub invariant-comb-loop-g : goal.invariant-comb-loop-g
invariant-comb-loop-g l =
    let Q = searching (λ (xs : List ℕ). xs) l.variables l.values l.starts l.words l.members l.place l.own l.low in
    record {
      passed : Passed Q l.k l.resumes l.chosen l.from l.end l.g-iterator.words.now l.g-iterator.at l.g-iterator.end;
      known : Known Q l.k l.resumes l.chosen l.failed;
    }
