-- The scopes from the next relation on decide, and that one's begins at `start`.
use Rattle.std.proofs.Common.{◌≡◌, ℕ, [], drop, length}
use Rattle.model.specs.Lists.{all, from}
use Rattle.model.specs.Network.{variables_in, before, scope_of}
use Rattle.model.specs.Fault.{proper_scope}
use Rattle.layout.specs.Shape.{relations_of, network_of}
use Rattle.network.proofs.faults.proper_scopes.Given as goal

abbrev pub invariant-loop-width : goal.invariant-loop-width
invariant-loop-width l = record {
  begins : l.start ≡ before variables_in (relations_of l.fn.shape) l.width-index;
  left : all (λ (r : ℕ). proper_scope (scope_of (network_of l.fn.shape l.variables []) r)) (drop l.width-index (from 0 (length (relations_of l.fn.shape))))
      ≡ all (λ (r : ℕ). proper_scope (scope_of (network_of l.fn.shape l.variables []) r)) (from 0 (length (relations_of l.fn.shape)));
}
