use Rattle.std.proofs.Common.{◌*◌, ◌≤◌, arith}
use native.Mathlib.Nat.{mul-le-mul}
use Rattle.model.specs.Network.{variables_in, tuples_in, values_in}
use Rattle.layout.proofs.Relations.{before-next, before-end}
use Rattle.network.proofs.faults.totals_of.Goals as goal

pub loop-r-preserved : goal.loop-r-preserved
loop-r-preserved c =
    let few : c.wide-width.result * c.wide-size.result ≤ 65535 * 65535 = mul-le-mul {n₂ = 65535} {m₂ = 65535} (omega arith) (omega arith) in record {
      variables = omega (arith, before-next c.args.shape variables_in c.loop-r.r);
      tuples = omega (arith, before-next c.args.shape tuples_in c.loop-r.r);
      values = rw (c.wide-width.ensures.0, c.wide-size.ensures.0) (omega (arith, before-next c.args.shape values_in c.loop-r.r));
      few_variables = omega arith;
      few_tuples = omega arith;
      few_values = omega (arith, few);
    }

pub returns-clause-variables : goal.returns-clause-variables
returns-clause-variables c = omega (arith, before-end c.args.shape variables_in c.loop-r.r)

pub returns-clause-tuples : goal.returns-clause-tuples
returns-clause-tuples c = omega (arith, before-end c.args.shape tuples_in c.loop-r.r)

pub returns-clause-values : goal.returns-clause-values
returns-clause-values c = omega (arith, before-end c.args.shape values_in c.loop-r.r)
