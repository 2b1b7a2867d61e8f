-- The set of one relation more. From the laws of lists.
use Rattle.std.proofs.Common.{arith}
use Rattle.std.proofs.lemmas.Grind.{common_steps}
use Rattle.enumeration.proofs.neighbours.neighbours.Goals as goal

pub loop-r-preserved : goal.loop-r-preserved
loop-r-preserved c = record {
  sized = grind (arith, common_steps);
  done = λ i s h. grind (arith, common_steps, c.loop-r.invariant.done i s, c.meeting.ensures s);
}
