-- `gather_near` narrows the words' copy to what may agree, and joins that.
-- From the bound of a relation's ids.
use Rattle.std.proofs.Common.{refl, ◌+◌, ◌≤◌, arith}
use Rattle.model.specs.Network.{size, first_id}
use Rattle.layout.specs.Setting.{network_in}
use Rattle.layout.proofs.SoundStarts.{tuple-end, ids-few}
use Rattle.spreading.proofs.fresh.gather_near.Goals as goal

pub returns : goal.returns
returns c =
    let a = c.args in
    let N = network_in (record { variables = a.variables.now; values = a.values.now; starts = a.starts.now }) in
    let framed = c.requires.seeks.0.laid.framed in
    let below = c.requires.seeks.1.0.1 in
    let few : first_id N a.s + size N a.s ≤ 4096 = omega (arith, tuple-end framed a.s below, ids-few framed a.s below) in (
      c.join.ensures.long,
      record {
        keeps = λ z h l. c.join.ensures.keeps (first_id N a.s + z) l;
        adds = λ z h g l. c.join.ensures.adds (first_id N a.s + z) (omega arith) (omega (arith, few, h)) (c.narrow_members.ensures.1.0.keeps a.s z h g l) refl;
      },
    )
