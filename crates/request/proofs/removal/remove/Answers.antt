use Rattle.std.proofs.Common.{rules, arith}
use Rattle.request.proofs.Removed.{cut-start, cut-next, cut-end}
use Rattle.request.proofs.removal.remove.Goals as goal

pub loop-i-init : goal.loop-i-init
loop-i-init c = cut-start _ _

pub loop-i-preserved : goal.loop-i-preserved
loop-i-preserved c = cut-next _ _ c.loop-i.words c.loop-i.i c.loop-i.invariant (omega (arith, c.requires.bits, c.loop-i.invariant.long))

pub returns : goal.returns
returns c = cut-end _ _ c.loop-i.words c.loop-i.i c.loop-i.invariant c.args.n c.requires (λ i _. search rules) (omega arith)
