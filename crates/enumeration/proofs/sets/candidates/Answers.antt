-- What is in every set, where relation r is in none. From the laws of what is in every set.
use Rattle.std.proofs.Common.{arith}
use Rattle.std.proofs.lemmas.Grind.{common_steps}
use Rattle.live.proofs.Bits.{is_set-and}
use Rattle.enumeration.proofs.Joining.{common-apart}
use Rattle.enumeration.proofs.sets.candidates.Goals as goal

pub returns : goal.returns
returns c s h = grind (arith, common_steps, is_set-and, common-apart, c.requires.union.0 c.args.r, c.requires.union.1 s h)
