use Rattle.std.proofs.Common.{◌+◌, ◌*◌, ◌<◌, length, length-set, ◌∙◌, arith}
use Rattle.value_index.proofs.Spread.{join-grows, join_more}
use Rattle.value_index.proofs.any.join_row.Goals as goal

pub loop-i-preserved : goal.loop-i-preserved
loop-i-preserved c =
    let l = c.loop-i in
    let a = c.args in
    let inside : a.other + l.i < length l.index = omega arith in record {
      full = length-set l.index (a.other + l.i) _ ∙ l.invariant.full;
      grown = join-grows a.index.now l.index a.row a.other (64 * a.from) l.i c.requires.1.0 inside l.invariant.grown;
      joined = join_more a.index.now l.index a.row a.other (64 * a.from) l.i inside l.invariant.grown l.invariant.joined;
    }
