-- `meet` is `meet_both` of one or two rows, and `meet_all` of more, by the laws of two rows of a list.
use Rattle.std.proofs.Common.{◌∙◌}
use Rattle.narrowing.proofs.TupleRows.{one-twice, two-both}
use Rattle.narrowing.proofs.rows.meet.Goals as goal

pub returns-then-n-eq1 : goal.returns-then-n-eq1
returns-then-n-eq1 c e g l h live inside =
    let a = c.args in
    c.meet_both.ensures e g l h live (one-twice a.index.now a.rows.now a.n _ g c.if-n-eq1.true c.wide-a.ensures.0 ∙ inside)

pub returns-then-n-eq2 : goal.returns-then-n-eq2
returns-then-n-eq2 c e g l h live inside =
    let a = c.args in
    c.meet_both-then-n-eq2.ensures e g l h live (two-both a.index.now a.rows.now a.n _ _ g c.if-n-eq2.true c.wide-a.ensures.0 c.wide.ensures.0 ∙ inside)
