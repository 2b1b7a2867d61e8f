-- `live::set` meets its contract: the word that is stored has the definition's bits.
-- From the law of the word's bits.
use mathlib.Core.Path.{ap}
use Prim.Native.Nat.{◌/◌, ◌%◌}
use native.Mathlib.Omega.{arith}
use lib.ListN.{get_or, set}
use Rattle.model.specs.LiveWords.{raised}
use Rattle.live.proofs.Bits.{word-raise}
use borrow.Author.Rules.{rules}
use Rattle.live.proofs.set.Goals as goal

pub returns : goal.returns
unfolding raised
returns c =
    let ws = c.args.words.now in
    let g = c.args.g in
    ap (set ws (g / 64)) (word-raise (get_or ws (g / 64) 0) (g % 64) (search rules) (omega arith))
