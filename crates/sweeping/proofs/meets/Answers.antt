use Rattle.narrowing.proofs.TupleRows.{row-of-within, rows-within, rows-every}
use Rattle.sweeping.proofs.meets.Goals as goal

pub meet-requires : goal.meet-requires
meet-requires c = let t = c.requires.1 in (rows-within (row-of-within t.plan t.has) c.rows_of-n.ensures, t.spans)

pub returns : goal.returns
returns c =
    let rows = c.rows_of-n.ensures in
    (rows.long, λ e g l h live every. c.meet.ensures e g l h live (rows-every c.args.index.now c.rows_of-n.new.rows c.rows_of-n.result g rows every))
