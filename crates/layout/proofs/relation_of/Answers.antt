use Rattle.std.proofs.Common.{sym, arith, below_more}
use Rattle.layout.proofs.SoundStarts.{relation-between, relation-later}
use Rattle.layout.proofs.relation_of.Goals as goal

pub loop-r-preserved : goal.loop-r-preserved
loop-r-preserved c = record {
  below = relation-later c.requires.0 c.loop-r.r c.args.g c.loop-r.invariant.below c.requires.1 (omega arith);
  ended = below_more _ c.loop-r.r c.loop-r.invariant.ended (omega arith);
}

pub returns : goal.returns
returns c = sym (relation-between c.requires.0 c.loop-r.r c.args.g c.loop-r.invariant.below c.loop-r.invariant.ended (omega arith))
