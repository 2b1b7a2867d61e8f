-- What was removed so far might be, and each relation passed adds at most all tuples to the two numbers.
use Rattle.std.proofs.Common.{◌-◌, ◌*◌, ◌≤◌}
use Rattle.model.specs.Limits.{max_tuples}
use Rattle.live.proofs.Ahead.{Ahead}
use Rattle.sweeping.specs.Sweep.{Sweeps}
use Rattle.sweeping.proofs.sweep_relation.Given as goal

abbrev pub invariant-loop-k : goal.invariant-loop-k
invariant-loop-k l = record {
  ahead : Ahead l.beside l.base l.end l.k-iterator.words.now l.k-iterator.at l.k-iterator.end;
  tested : l.tested ≤ (l.k-iterator.at - l.base) * max_tuples;
  fell : l.fell ≤ (l.k-iterator.at - l.base) * max_tuples;
  swept : Sweeps (record { variables = l.variables; values = l.values; starts = l.starts }) l.beside l.initial.words l.words;
}
