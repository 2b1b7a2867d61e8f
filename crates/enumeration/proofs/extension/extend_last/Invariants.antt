-- With those from the place where the loop stands on, the combinations added are all.
use Rattle.std.proofs.Common.{suc}
use Rattle.enumeration.specs.Stage.{last_extensions}
use Rattle.enumeration.proofs.Added.{Going}
use Rattle.enumeration.proofs.Ahead.{Ahead}
use Rattle.enumeration.proofs.extension.extend_last.Given as goal

abbrev pub invariant-loop-r : goal.invariant-loop-r
invariant-loop-r l = record {
  ahead : Ahead l.set l.from l.count l.r-iterator.set l.r-iterator.at l.r-iterator.count;
  going : Going (suc l.k) (last_extensions l.set l.members l.k l.r-iterator.at l.count) (last_extensions l.set l.members l.k l.from l.count) l.found l.initial.list l.n l.list;
}
