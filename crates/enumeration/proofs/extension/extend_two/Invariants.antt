-- With those from the place where the loop stands on, the combinations added are all.
use Rattle.enumeration.specs.Stage.{extensions}
use Rattle.enumeration.proofs.Added.{Going}
use Rattle.enumeration.proofs.Ahead.{Ahead}
use Rattle.enumeration.proofs.extension.extend_two.Given as goal

abbrev pub invariant-loop-r : goal.invariant-loop-r
invariant-loop-r l = record {
  ahead : Ahead l.tried l.from l.count l.r-iterator.set l.r-iterator.at l.r-iterator.count;
  going : Going l.m (extensions l.near l.sets l.members l.m l.k l.r-iterator.at l.count) (extensions l.near l.sets l.members l.m l.k l.from l.count) l.found l.initial.list l.n l.list;
}
