-- The first i values are written.
use Rattle.std.proofs.Common.{◌≡◌}
use Rattle.model.specs.Moves.{narrowed}
use Rattle.model.proofs.Lists.{overlaid}
use Rattle.moves.proofs.put_narrowed.Given as goal

abbrev pub invariant-loop-i : goal.invariant-loop-i
invariant-loop-i l = l.target ≡ overlaid narrowed l.values l.initial.target l.i
