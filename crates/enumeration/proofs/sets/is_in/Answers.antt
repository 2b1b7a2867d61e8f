-- `is_in` reads the relation's bit. From the definitions alone.
use Rattle.std.proofs.Common.{refl}
use Rattle.model.specs.LiveWords.{bit, is_set}
use Rattle.enumeration.proofs.sets.is_in.Goals as goal

pub returns : goal.returns
unfolding is_set bit
returns c = refl
