-- From the laws of records read into arrays.
use Rattle.std.proofs.Common.{arith}
use Rattle.encoding.proofs.Records.{apart-start, apart_next, apart-end}
use Rattle.encoding.proofs.sheets.shape_at.Goals as goal

pub loop-r-init : goal.loop-r-init
loop-r-init c = apart-start _

pub loop-r-preserved : goal.loop-r-preserved
loop-r-preserved c =
    let l = c.loop-r in
    rw (c.at.ensures, c.at-in-loop-r.ensures) (apart_next _ l.r l.widths l.tuples l.invariant (omega arith) (omega arith))

pub returns : goal.returns
returns c = apart-end _ c.loop-r.r c.loop-r.widths c.loop-r.tuples c.loop-r.invariant (omega arith)
