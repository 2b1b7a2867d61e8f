-- One combination more behind those found. From the laws of lists that combinations are added to.
use Rattle.std.proofs.Common.{refl, rules}
use Rattle.enumeration.proofs.Added.{added-one}
use Rattle.enumeration.proofs.extension.add.Goals as goal

pub returns : goal.returns
returns c = (added-one c.args.found c.args.k c.args.r c.wide.result c.args.list.now c.args.members _ c.wide.ensures.0 c.requires.0 (search rules) c.requires.1.0 c.requires.1.1 (rw (← c.put-whole.ensures) c.paste.ensures), refl)
