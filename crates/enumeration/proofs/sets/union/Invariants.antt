-- A relation is in the word, or in one of the sets from place j on, if it is in one of all.
use Rattle.std.proofs.Common.{◌≡◌, ◌||◌, ℕ, ◌<◌, take, drop}
use Rattle.model.specs.Limits.{max_relations}
use Rattle.model.specs.Lists.{any}
use Rattle.model.specs.LiveWords.{is_set}
use Rattle.enumeration.proofs.sets.union.Given as goal

abbrev pub invariant-loop-j : goal.invariant-loop-j
invariant-loop-j l =
    (r : ℕ) → r < max_relations → (is_set l.some r || any (λ n. is_set n r) (drop l.j (take l.k l.sets))) ≡ any (λ n. is_set n r) (take l.k l.sets)
