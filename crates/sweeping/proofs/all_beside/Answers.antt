use Rattle.std.proofs.Common.{◌+◌, ◌*◌, ◌/◌, ℕ, get_or, subst}
use Rattle.sweeping.specs.Sweep.{Put}
use Rattle.sweeping.proofs.Beside.{beside_none, beside-more}
use Rattle.sweeping.proofs.all_beside.Goals as goal

pub loop-p-init : goal.loop-p-init
loop-p-init c = beside_none

pub loop-p-preserved : goal.loop-p-preserved
loop-p-preserved c =
    let l = c.loop-p in
    let members = c.args.members.now in
    beside-more c.requires.0 c.requires.1 l.p c.loop-p-test.true l.invariant
    (subst (λ (n : ℕ). Put members (l.p / n * n) (l.p / n * n + n) (get_or members l.p 0) l.beside c.put_beside.new.beside) c.wide-each.ensures.0 c.put_beside.ensures)
