-- The sets of the relations below r are found.
use Rattle.std.proofs.Common.{◌≡◌, ◌&&◌, ℕ, ◌<◌, ltb, length, get_or}
use Rattle.model.specs.Limits.{max_relations}
use Rattle.model.specs.LiveWords.{is_set}
use Rattle.combination.specs.Masks.{meets}
use Rattle.enumeration.proofs.neighbours.neighbours.Given as goal

abbrev pub invariant-loop-r : goal.invariant-loop-r
invariant-loop-r l = record {
  sized : length l.near ≡ max_relations;
  done : (i s : ℕ) → i < l.r → is_set (get_or l.near i 0) s ≡ (ltb s l.count && meets l.masks (get_or l.masks i 0) s);
}
