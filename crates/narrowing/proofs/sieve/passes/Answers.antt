-- `passes` looks for a bit of the tuple's value, if the relation has the sieve's column, by the laws of the tuples that pass.
use Rattle.std.proofs.Common.{sym, arith}
use Rattle.layout.specs.Setting.{network_in}
use Rattle.layout.proofs.SoundStarts.{width-in, scope-rises}
use Rattle.layout.proofs.Places.{below-limit}
use Rattle.narrowing.proofs.Sieves.{passes_none, passes-bits}
use Rattle.narrowing.proofs.sieve.passes.Goals as goal

pub overflow_sub-a_end : goal.overflow_sub-a_end
overflow_sub-a_end c =
    let p = c.requires in
    omega (arith, scope-rises p.laid.framed c.args.r (below-limit p.laid c.args.r c.args.x p.own))

pub returns-then-a_end-a : goal.returns-then-a_end-a
returns-then-a_end-a c =
    let p = c.requires in
    let a = c.args in
    let N = network_in (record { variables = a.variables.now; values = a.values.now; starts = a.starts.now }) in
    sym (passes_none N a.r a.x a.sieve (omega (arith, width-in p.laid.framed a.r (below-limit p.laid a.r a.x p.own))))

pub bits_at-requires : goal.bits_at-requires
bits_at-requires c =
    let p = c.requires in
    (p, omega (arith, width-in p.laid.framed c.args.r (below-limit p.laid c.args.r c.args.x p.own)))

pub returns : goal.returns
returns c =
    let p = c.requires in
    let a = c.args in
    let N = network_in (record { variables = a.variables.now; values = a.values.now; starts = a.starts.now }) in
    sym (passes-bits N a.r a.x a.sieve c.bits_at.result c.bits_at.ensures (omega (arith, width-in p.laid.framed a.r (below-limit p.laid a.r a.x p.own))))
