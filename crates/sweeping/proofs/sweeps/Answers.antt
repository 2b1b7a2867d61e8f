use Rattle.layout.proofs.Pairs.{member_below}
use Rattle.sweeping.proofs.Unmet.{sweeps-then}
use Rattle.sweeping.proofs.sweeps.Goals as goal

pub all_beside-beside-requires : goal.all_beside-beside-requires
all_beside-beside-requires c = let s = c.requires.word_array.1 in (s.paired.list, λ q h. member_below s.laid.framed s.paired q h)

pub returns-then-sweep : goal.returns-then-sweep
returns-then-sweep c = (sweeps-then c.sweep.ensures c.sweep-then-sweep.ensures).1 c.args.m c.args.members.now c.all_beside-beside.ensures
