-- The bits set, with the variables from the next column on, are the scope's.
use Rattle.std.proofs.Common.{◌≡◌, ℕ, drop}
use Rattle.std.specs.Prelude.{◌||◌}
use Rattle.model.specs.Lists.{elem}
use Rattle.model.specs.LiveWords.{is_set}
use Rattle.combination.proofs.mask_of.Given as goal

abbrev pub invariant-loop-x : goal.invariant-loop-x
invariant-loop-x l = (x : ℕ) → (is_set l.mask x || elem x (drop l.x-index l.scope)) ≡ elem x l.scope
