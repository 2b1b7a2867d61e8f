-- `live::is_live` meets its contract: the word's bit is the definition's.
-- From the definitions alone.
use mathlib.Core.Path.{refl}
use Rattle.model.specs.LiveWords.{bit, is_set, is_live}
use Rattle.live.proofs.is_live.Goals as goal

pub returns : goal.returns
unfolding is_live is_set bit
returns c = refl
