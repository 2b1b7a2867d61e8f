-- `fault` is that of as many values: the faults look at their number alone.
-- From the contract of `fault_on`.
use mathlib.Core.Path.{ap, ◌∙◌}
use mathlib.Core.List.{List}
use Prim.Native.Nat.{ℕ}
use lib.ListN.{length, replicate, length-replicate}
use Rattle.model.specs.Fault.{Fault, first_fault, refusal}
use Rattle.model.proofs.Meaning.{network_faults-values}
use Rattle.layout.specs.Shape.{network_of}
use Rattle.network.proofs.faults.fault.Goals as goal

pub returns : goal.returns
returns c =
    let a = c.args in
    let vs = a.values.now in
    let zs : List ℕ = replicate (length vs) 0 in
    c.fault_on.ensures
    ∙ ap (λ (fs : List Fault). refusal (first_fault fs)) (network_faults-values (network_of a.shape a.variables.now vs) zs vs (length-replicate (length vs) 0))
