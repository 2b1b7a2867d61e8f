-- `live_count` counts within the words.
-- From the laws of starts.
use Rattle.std.proofs.Common.{arith}
use Rattle.layout.proofs.SoundStarts.{tuple-start, tuple-end, ids-few}
use Rattle.spreading.proofs.steps.live_count.Goals as goal

pub count-requires : goal.count-requires
count-requires c =
    let sound = c.requires.1.0 in
    let below = c.requires.1.1 in
    omega (arith, tuple-start sound c.args.r (omega arith), tuple-end sound c.args.r below, ids-few sound c.args.r below)
