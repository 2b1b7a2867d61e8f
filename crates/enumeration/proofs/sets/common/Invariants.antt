-- A relation is in the word, and in each of the sets from place j on, if it is in each of all.
use Rattle.std.proofs.Common.{◌≡◌, ◌&&◌, ℕ, ◌<◌, take, drop}
use Rattle.model.specs.Limits.{max_relations}
use Rattle.model.specs.LiveWords.{is_set}
use Rattle.enumeration.specs.Reach.{common}
use Rattle.enumeration.proofs.sets.common.Given as goal

abbrev pub invariant-loop-j : goal.invariant-loop-j
invariant-loop-j l =
    (r : ℕ) → r < max_relations → (is_set l.all r && common (drop l.j (take l.k l.sets)) r) ≡ common (take l.k l.sets) r
