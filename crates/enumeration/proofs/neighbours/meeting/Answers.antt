-- One bit after the other. From the laws of bits.
use Rattle.std.proofs.Common.{arith}
use Rattle.std.proofs.lemmas.Grind.{common_steps}
use Rattle.live.proofs.Bits.{is_set-nought, is_set-or, is_set-pow, one_shl}
use Rattle.enumeration.proofs.neighbours.meeting.Goals as goal

pub loop-s-init : goal.loop-s-init
loop-s-init c x = grind (arith, common_steps, is_set-nought)

pub loop-s-preserved : goal.loop-s-preserved
loop-s-preserved c x = grind (arith, common_steps, is_set-or, is_set-pow, one_shl, c.loop-s.invariant x)
