-- From the laws of fresh tuples in fewer words.
use Rattle.layout.specs.Setting.{network_in}
use Rattle.spreading.proofs.Meeting.{meets-fewer, meets-left}
use Rattle.spreading.proofs.fresh.narrow_to_fresh.Goals as goal

pub narrow_fresh-requires-clause-meets : goal.narrow_fresh-requires-clause-meets
narrow_fresh-requires-clause-meets c =
    let a = c.args in
    let N = network_in (record { variables = a.variables.now; values = a.values.now; starts = a.starts.now }) in
    let left = c.keep.new.words in
    meets-fewer N a.members.now a.place a.words.now c.loop-j.words left c.loop-j.invariant.keeps.inside
    (meets-left N a.members.now a.place a.words.now a.fresh.now left 0 4096 c.keep.ensures.1 c.requires.meets)
