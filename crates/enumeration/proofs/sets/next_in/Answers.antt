-- The zeros behind the place are counted. From the laws of trailing zeros.
use Rattle.std.proofs.Common.{arith}
use Rattle.enumeration.proofs.Last.{next-is, next-none, next-nothing, next-zeros, next-beyond}
use Rattle.enumeration.proofs.sets.next_in.Goals as goal

pub returns-then-from-count : goal.returns-then-from-count
returns-then-from-count c = rw c.if-from-count.true (next-is _ _ _ _ (omega arith) (next-none c.args.set c.args.count))

pub returns-then-rest-eq0 : goal.returns-then-rest-eq0
returns-then-rest-eq0 c = next-is _ _ _ _ (omega arith) (next-nothing _ _ _ 0 (omega arith) c.if-rest-eq0.true)

pub returns-then-r-count : goal.returns-then-r-count
returns-then-r-count c = next-is _ _ _ _ (omega arith) (next-zeros _ _ _ 0 (omega arith) c.ranges.set.fits c.if-rest-eq0.false c.if-r-count.true)

pub returns-else-r-count : goal.returns-else-r-count
returns-else-r-count c = next-is _ _ _ _ (omega arith) (next-beyond _ _ _ 0 (omega arith) c.ranges.set.fits c.if-rest-eq0.false c.if-r-count.false)
