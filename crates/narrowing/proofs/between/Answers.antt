-- `between` answers the word of the ids below the end that are not below the start, by the law of such words.
use Rattle.narrowing.proofs.Words.{between-bits}
use Rattle.narrowing.proofs.between.Goals as goal

pub returns : goal.returns
returns c =
    let low = c.below in
    let high = c.below-2 in
    between-bits c.args.i c.args.start c.args.end low.result high.result low.ensures.0 low.ensures.1 high.ensures.0 high.ensures.1
