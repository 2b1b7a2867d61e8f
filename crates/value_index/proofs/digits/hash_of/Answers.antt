use Rattle.std.proofs.Common.{arith}
use Rattle.std.proofs.lemmas.Grind.{common_steps}
use Rattle.value_index.proofs.ValueRows.{not-mixed, is-mixed, hash-first}
use Rattle.value_index.proofs.digits.hash_of.Goals as goal

pub returns-then-plan-eq0 : goal.returns-then-plan-eq0
returns-then-plan-eq0 c = grind (arith, common_steps, not-mixed, hash-first)

pub returns : goal.returns
returns c = grind (arith, common_steps, is-mixed, hash-first)
