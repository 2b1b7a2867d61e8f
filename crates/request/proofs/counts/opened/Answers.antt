use native.Mathlib.Omega.{arith}
use lib.ListN.{length}
use Rattle.request.proofs.Openings.{listed-covered, counted-opened}
use Rattle.request.proofs.counts.opened.Goals as goal

pub counted-requires : goal.counted-requires
counted-requires c = λ z. listed-covered c.args.shape c.args.variables.now c.args.values.now c.args.m c.args.members.now (length c.args.words.now) c.checked-opening.result c.args.numbers c.checked-opening.ensures z c.args.words.now (omega arith)

pub returns : goal.returns
returns c =
    counted-opened c.args.shape c.args.variables.now c.args.values.now c.args.m c.args.members.now (length c.args.words.now) c.checked-opening.result c.args.numbers c.checked-opening.ensures c.args.words.now c.args.counts.now c.counted.result c.counted.ensures
