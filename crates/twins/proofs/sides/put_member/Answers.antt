-- From the laws of sides.
use Rattle.std.proofs.Common.{arith}
use Rattle.twins.proofs.Dividing.{put-far, put-near}
use Rattle.twins.proofs.sides.put_member.Goals as goal

pub returns-then-mask-sides-eq0 : goal.returns-then-mask-sides-eq0
returns-then-mask-sides-eq0 c = put-far c.args.sides c.args.j c.args.mask (omega arith)

pub returns : goal.returns
returns c = put-near c.args.sides c.args.j c.args.mask c.requires.1
