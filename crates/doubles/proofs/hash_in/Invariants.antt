-- `hash_in`: the hash stays in bounds.
use Rattle.std.proofs.Common.{◌<◌}
use Rattle.doubles.specs.Doubles.{hash_bound}
use Rattle.doubles.proofs.hash_in.Given as goal

abbrev pub invariant-loop-c : goal.invariant-loop-c
invariant-loop-c l = l.hash < hash_bound
