use Rattle.std.proofs.Common.{List, ℕ, set, ap₂, ◌∙◌, arith}
use Rattle.model.specs.Moves.{narrowed}
use Rattle.model.proofs.Lists.{overlaid-next}
use Rattle.moves.proofs.put_narrowed.Goals as goal

pub loop-i-preserved : goal.loop-i-preserved
loop-i-preserved c =
    ap₂ (λ (ts : List ℕ) (v : ℕ). set ts c.loop-i.i v) c.loop-i.invariant c.narrowed.ensures
    ∙ overlaid-next narrowed c.args.values.now c.args.target.now c.loop-i.i (omega arith) (omega arith)
