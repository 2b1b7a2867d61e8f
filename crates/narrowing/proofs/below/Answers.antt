-- `below` answers the word of the ids below a bound: none of a word's ids, all of them, or the lowest ones, by the laws of such words.
use Rattle.std.proofs.Common.{◌-◌, arith}
use lib.Pow.{pow-lt}
use Rattle.live.proofs.Bits.{one_shl}
use Rattle.narrowing.proofs.Words.{below_none, below_all, below-some}
use Rattle.narrowing.proofs.below.Goals as goal

pub returns-then-bound-base : goal.returns-then-bound-base
returns-then-bound-base c = (omega arith, λ j l. below_none c.args.base c.args.bound j c.if-bound-base.true)

pub returns-then-k-ge64 : goal.returns-then-k-ge64
returns-then-k-ge64 c = (omega arith, λ j l. below_all c.args.base c.args.bound j c.if-k-ge64.true l)

pub returns : goal.returns
returns c =
    let a = c.args in (
      rw (one_shl (a.bound - a.base) c.if-k-ge64.false) (omega (arith, pow-lt c.if-k-ge64.false)),
      λ j l. below-some a.base a.bound j c.if-bound-base.false c.if-k-ge64.false,
    )
