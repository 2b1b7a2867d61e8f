-- `classes_in` walks over the relation's ids.
use Rattle.std.proofs.Common.{◌-◌, ◌≤◌}
use Rattle.spreading.proofs.factor.classes_in.Given as goal

abbrev pub invariant-loop-g : goal.invariant-loop-g
invariant-loop-g l = record { behind : l.first ≤ l.g; within : l.g ≤ l.end }

abbrev pub decreases-loop-g : goal.decreases-loop-g
decreases-loop-g l = l.end - l.g
