-- The copy is the first n words before the noughts behind the first n.
use Rattle.std.proofs.Common.{arith}
use Rattle.live.proofs.Copies.{copied-front}
use Rattle.live.proofs.copied.Goals as goal

pub returns : goal.returns
returns c = rw c.copy_from_slice.ensures.after (copied-front c.args.n c.args.words.now (omega arith) (omega arith))
