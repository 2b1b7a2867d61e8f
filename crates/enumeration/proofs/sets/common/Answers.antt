-- A word of ones has every relation, and `&` keeps what is in both. From the laws of bits.
use Rattle.std.proofs.Common.{arith}
use Rattle.std.proofs.lemmas.Grind.{common_steps}
use Rattle.live.proofs.Bits.{is_set-and}
use Rattle.enumeration.proofs.Joining.{every}
use Rattle.enumeration.proofs.sets.common.Goals as goal

pub loop-j-init : goal.loop-j-init
loop-j-init c r h = rw (every r h)

pub loop-j-preserved : goal.loop-j-preserved
loop-j-preserved c r h = grind (arith, common_steps, is_set-and, c.loop-j.invariant r h)
