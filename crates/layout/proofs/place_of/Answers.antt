use Rattle.std.proofs.Common.{arith}
use Rattle.layout.proofs.SoundStarts.{scope-rises}
use Rattle.layout.proofs.place_of.Goals as goal

pub overflow_sub-width : goal.overflow_sub-width
overflow_sub-width c = omega (arith, scope-rises c.requires.0 c.args.r c.requires.1)
