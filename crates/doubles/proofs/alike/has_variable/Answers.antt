-- `has_variable`: the bit is the definition's, and there is none past the word.
use Rattle.std.proofs.Common.{refl, sym, arith}
use Rattle.model.specs.LiveWords.{bit, is_set}
use Rattle.live.proofs.Bits.{is_set-high}
use Rattle.doubles.proofs.alike.has_variable.Goals as goal

pub returns-then-wide-ge-VARIABLES : goal.returns-then-wide-ge-VARIABLES
returns-then-wide-ge-VARIABLES c = sym (is_set-high c.args.set 64 c.args.v c.ranges.set.fits (omega arith))

pub returns : goal.returns
unfolding is_set bit
returns c = refl
