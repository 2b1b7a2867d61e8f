-- What was removed so far might be, and each relation passed adds at most 64 times all tuples to the two numbers.
use Rattle.std.proofs.Common.{◌*◌, ◌≤◌}
use Rattle.model.specs.Limits.{max_relations, max_tuples}
use Rattle.sweeping.specs.Sweep.{Sweeps}
use Rattle.sweeping.proofs.sweep.Given as goal

abbrev pub invariant-loop-r : goal.invariant-loop-r
invariant-loop-r l = record {
  few : l.r-end ≤ max_relations;
  swept : Sweeps (record { variables = l.variables; values = l.values; starts = l.starts }) l.beside l.initial.words l.words;
  tested : l.tested ≤ l.r * max_relations * max_tuples;
  fell : l.fell ≤ l.r * max_relations * max_tuples;
}
