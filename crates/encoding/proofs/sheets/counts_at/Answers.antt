-- From the laws of counts read into an array.
use Rattle.std.proofs.Common.{arith}
use Rattle.encoding.proofs.Counts.{read-start, read_next, read-end}
use Rattle.encoding.proofs.sheets.counts_at.Goals as goal

pub loop-r-init : goal.loop-r-init
loop-r-init c = read-start c.args.sheets.now

pub loop-r-preserved : goal.loop-r-preserved
loop-r-preserved c = rw c.at.ensures (read_next _ c.loop-r.r c.loop-r.counts c.loop-r.invariant (omega arith) (omega arith))

pub returns : goal.returns
returns c = read-end _ c.loop-r.r c.loop-r.counts c.loop-r.invariant (omega arith)
