-- What was found is copied in front of the list lent. From the laws of the answer.
use Rattle.std.proofs.Common.{arith}
use Rattle.layout.specs.Shape.{network_of}
use Rattle.enumeration.proofs.Answered.{fits, left}
use Rattle.enumeration.proofs.combinations.Goals as goal

pub paste-requires : goal.paste-requires
paste-requires c =
    rw (c.listed.ensures, c.wide.ensures.0)
    (let f = fits (network_of c.args.shape c.args.variables.now c.args.values.now) c.args.m c.args.list.now c.enumerate-a.ensures in (omega (arith, f), omega (arith, f)))

pub returns : goal.returns
returns c =
    rw (c.paste.ensures, c.listed.ensures, c.wide.ensures.0)
    (left (network_of c.args.shape c.args.variables.now c.args.values.now) c.args.m c.args.list.now c.enumerate-a.new.list c.enumerate-a.ensures)
