-- Every live tuple passed has a support, and so do over lean words those to come.
use Rattle.live.proofs.Ahead.{Ahead}
use Rattle.layout.specs.Setting.{setting}
use Rattle.narrowing.specs.Narrows.{Long}
use Rattle.consistency.proofs.Pairs.{Passed, FreshIn, LeanIn}
use Rattle.consistency.proofs.pair_supported.Given as goal

abbrev pub invariant-loop-g : goal.invariant-loop-g
invariant-loop-g l =
    let G = setting (λ xs. xs) l.variables l.values l.starts l.members l.m in
    record {
      ahead : Ahead l.words l.first l.end l.g-iterator.words.now l.g-iterator.at l.g-iterator.end;
      passed : Passed G l.words l.p l.first l.g-iterator.at;
      fresh : FreshIn G l.p l.lean l.fresh;
      lean : LeanIn G l.p l.words l.lean;
      candidates : Long l.candidates;
      spare : Long l.spare;
    }
