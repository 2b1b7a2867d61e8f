use Rattle.std.proofs.Common.{arith}
use Rattle.std.proofs.lemmas.Grind.{common_steps}
use Rattle.value_index.proofs.ValueRows.{mixed-below}
use Rattle.bridging.proofs.Classes.{class-any, class-is}
use Rattle.bridging.proofs.class_of.Goals as goal

pub returns-then-is_any : goal.returns-then-is_any
returns-then-is_any c = grind (arith, common_steps, class-any)

pub returns : goal.returns
returns c = grind (arith, common_steps, class-is, mixed-below)
