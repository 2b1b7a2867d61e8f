-- No relation behind r is in the set. From the laws of the last member.
use Rattle.std.proofs.Common.{set, ◌+◌, arith}
use Rattle.enumeration.proofs.Added.{adds_none}
use Rattle.enumeration.proofs.Joining.{none_above}
use Rattle.enumeration.proofs.Last.{last_none}
use Rattle.enumeration.proofs.extension.extend_by.Goals as goal

pub returns-then-last-r-le1 : goal.returns-then-last-r-le1
returns-then-last-r-le1 c =
    rw (last_none c.args.last (set c.args.members c.args.k c.args.r) (c.args.k + 1) c.args.count (c.args.r + 1) c.requires.low (λ t h l. none_above c.args.last c.args.r t c.if-last-r-le1.true (omega arith)))
    (adds_none (c.args.k + 2) c.args.found c.args.list.now)
