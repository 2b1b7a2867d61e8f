-- From what both ensure, and that the numbers of an answer are read back from their bits.
use Rattle.encoding.proofs.Packed.{enumerated-in}
use Rattle.records.proofs.packed.combinations.Goals as goal

pub returns : goal.returns
returns c = enumerated-in _ _ _ c.combinations.result _ _ c.combinations.ensures c.pack_enumeration.ensures
