use Rattle.std.proofs.Common.{◌*◌}
use Rattle.live.proofs.Bits.{or-none}
use Rattle.value_index.proofs.Spread.{none_more}
use Rattle.value_index.proofs.any.has_some.Goals as goal

pub loop-i-preserved : goal.loop-i-preserved
loop-i-preserved c e =
    let l = c.loop-i in
    let none = or-none l.some _ e in
    none_more c.args.index.now c.args.row (64 * c.args.from) l.i none.1 (l.invariant none.0)
