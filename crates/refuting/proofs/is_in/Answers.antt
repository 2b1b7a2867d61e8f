-- `is_in` reads the bit of the place.
use Rattle.std.proofs.Common.{refl}
use Rattle.model.specs.LiveWords.{bit, is_set}
use Rattle.refuting.proofs.is_in.Goals as goal

pub returns : goal.returns
unfolding is_set bit
returns c = refl
