-- A bit is 1 only where its two relations are beside each other.
use Rattle.model.specs.Combination.{combinations}
use Rattle.sweeping.specs.Sweep.{Besides}
use Rattle.sweeping.proofs.all_beside.Given as goal

abbrev pub invariant-loop-p : goal.invariant-loop-p
invariant-loop-p l = Besides (combinations l.m l.members) l.beside
