-- From the law of cells under some of the variables.
use Rattle.std.proofs.Common.{arith}
use Rattle.model.specs.LiveWords.{is_set}
use Rattle.model.proofs.Agreement.{cells-under}
use Rattle.doubles.proofs.alike.equal_in.Goals as goal

pub returns : goal.returns
returns c _ = cells-under (is_set c.args.common) c.args.scope.now c.args.a.now c.args.b.now c.requires.0 c.requires.1 (λ k h. c.loop-c.invariant k (omega arith))
