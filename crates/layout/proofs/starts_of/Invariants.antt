-- Up to place r the tables hold the sums passed so far.
use Rattle.std.proofs.Common.{◌≡◌}
use Rattle.model.specs.Network.{variables_in, tuples_in, values_in, before}
use Rattle.layout.specs.Shape.{relations_of}
use Rattle.layout.proofs.Starts.{Filled}
use Rattle.layout.proofs.starts_of.Given as goal

abbrev pub invariant-loop-r : goal.invariant-loop-r
invariant-loop-r l = record {
  variables : l.variable ≡ before variables_in (relations_of l.shape) l.r;
  tuples : l.tuple ≡ before tuples_in (relations_of l.shape) l.r;
  values : l.value ≡ before values_in (relations_of l.shape) l.r;
  filled : Filled (relations_of l.shape) l.r l.starts;
}
