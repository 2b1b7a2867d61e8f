-- `seek_together` begins with nothing chosen.
-- From the law of the root.
use Rattle.together.proofs.Root.{together}
use Rattle.together.proofs.seek_together.Goals as goal

pub returns : goal.returns
returns c =
    let a = c.args in
    together c.requires.long.1 a.words.now c.first_but-k.result _ c.first_but-k.ensures.1.1 a.start a.pending.now _ a.numbers.now _ c.seek.result c.seek.ensures
