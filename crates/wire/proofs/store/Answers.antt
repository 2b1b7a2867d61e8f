-- The next entry, by the laws of a list that is encoded.
use Rattle.wire.proofs.Entries.{stored-next}
use Rattle.wire.proofs.store.Goals as goal

pub loop-i-preserved : goal.loop-i-preserved
loop-i-preserved g c =
    let law = g.met.T.Entry in
    stored-next _ _ _ law.bytes_none law.bytes_more law.bytes_count _ _ _ _ _ _ c.loop-i-test.true c.index-s-i.is c.loop-i.invariant c.put.ensures
