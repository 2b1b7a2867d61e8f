-- Before relation r the sums are those of the relations passed. They fit, since there are at most 64 records of 16-bit numbers.
use Rattle.std.proofs.Common.{◌≡◌, ◌≤◌, ◌*◌}
use Rattle.model.specs.Network.{variables_in, tuples_in, values_in, before}
use Rattle.layout.specs.Shape.{relations_of}
use Rattle.network.proofs.faults.totals_of.Given as goal

abbrev pub invariant-loop-r : goal.invariant-loop-r
invariant-loop-r l = record {
  variables : l.variables ≡ before variables_in (relations_of l.shape) l.r;
  tuples : l.tuples ≡ before tuples_in (relations_of l.shape) l.r;
  values : l.values ≡ before values_in (relations_of l.shape) l.r;
  few_variables : l.variables ≤ 65535 * l.r;
  few_tuples : l.tuples ≤ 65535 * l.r;
  few_values : l.values ≤ 4294836225 * l.r;
}
