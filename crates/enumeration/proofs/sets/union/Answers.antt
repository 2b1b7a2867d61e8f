-- No relation is in the word 0, and `|` adds what is in the other one. From the laws of bits.
use Rattle.std.proofs.Common.{arith}
use Rattle.std.proofs.lemmas.Grind.{common_steps}
use Rattle.live.proofs.Bits.{is_set-or, is_set-nought}
use Rattle.enumeration.proofs.sets.union.Goals as goal

pub loop-j-init : goal.loop-j-init
loop-j-init c r h = rw (is_set-nought r)

pub loop-j-preserved : goal.loop-j-preserved
loop-j-preserved c r h = grind (arith, common_steps, is_set-or, c.loop-j.invariant r h)
