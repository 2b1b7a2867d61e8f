-- The tuples before the id reached lead to nothing. The measure is the number of steps left.
use Rattle.std.proofs.Common.{◌+◌, ◌*◌, ◌≤◌}
use Rattle.live.proofs.Ahead.{Ahead}
use Rattle.layout.specs.Setting.{network_in}
use Rattle.refuting.proofs.Refutation.{Past}
use Rattle.refuting.proofs.+refuted_refuted_with.Given as goal

abbrev pub decreases-refuted : goal.decreases-refuted
decreases-refuted l = l.steps * 2 + 1

abbrev pub decreases-refuted_with : goal.decreases-refuted_with
decreases-refuted_with l = l.steps * 2

abbrev pub invariant-refuted-loop-g : goal.invariant-refuted-loop-g
invariant-refuted-loop-g l =
    let N = network_in (record { variables = l.variables; values = l.values; starts = l.starts }) in
    record {
      ahead : Ahead l.words l.first l.end l.g-iterator.words.now l.g-iterator.at l.g-iterator.end;
      fewer : l.over ≤ l.steps;
      past : Past N l.members l.place l.own l.words l.left l.best l.g-iterator.at;
    }
