-- From the laws of ids added one after the other, and of entries read from bytes.
use Rattle.std.proofs.Common.{arith, sym, ◌∙◌}
use Rattle.request.proofs.Removed.{filled-start, filled_next, filled-end}
use Rattle.wire.proofs.Entries.{entries16-length, entries16-at}
use Rattle.encoding.proofs.ids.ids_at.Goals as goal

pub loop-i-init : goal.loop-i-init
loop-i-init c = filled-start _

pub loop-i-preserved : goal.loop-i-preserved
loop-i-preserved c =
    let l = c.loop-i in
    filled_next _ l.words l.bound l.i l.invariant _ _ _ (omega (arith, entries16-length c.args.ids.now))
    (c.at.ensures ∙ sym (entries16-at _ _ (omega arith)))
    c.add-bound.ensures.0
    c.add-bound.ensures.1

pub returns : goal.returns
returns c = filled-end _ c.loop-i.words c.loop-i.bound c.loop-i.i c.loop-i.invariant (omega (arith, entries16-length c.args.ids.now))
