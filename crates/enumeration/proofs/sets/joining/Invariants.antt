-- The sets from place j on are still to be asked.
use Rattle.std.proofs.Common.{◌≡◌, ◌&&◌, ℕ, ◌<◌, take, drop}
use Rattle.model.specs.Limits.{max_relations}
use Rattle.model.specs.LiveWords.{is_set}
use Rattle.enumeration.specs.Reach.{reach}
use Rattle.enumeration.proofs.Joining.{others}
use Rattle.enumeration.proofs.sets.joining.Given as goal

abbrev pub invariant-loop-j : goal.invariant-loop-j
invariant-loop-j l = record {
  reached : reach l.r l.all (drop l.j (take l.k l.sets)) ≡ reach l.r l.own (take l.k l.sets);
  asked : (s : ℕ) → s < max_relations → (is_set l.rest s && others l.r s (drop l.j (take l.k l.sets))) ≡ others l.r s (take l.k l.sets);
}
