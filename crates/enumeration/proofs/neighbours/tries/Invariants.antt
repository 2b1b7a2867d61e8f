-- What is not in the word is not in some, nor a neighbour of those in all from `from` on that were passed.
use Rattle.std.proofs.Common.{◌≡◌, true, false, ℕ, ◌≤◌, ◌<◌, get_or}
use Rattle.model.specs.LiveWords.{is_set}
use Rattle.enumeration.proofs.Ahead.{Ahead}
use Rattle.enumeration.proofs.neighbours.tries.Given as goal

abbrev pub invariant-loop-s : goal.invariant-loop-s
invariant-loop-s l = record {
  ahead : Ahead l.all l.from l.count l.s-iterator.set l.s-iterator.at l.s-iterator.count;
  taken : (r : ℕ) → is_set l.word r ≡ false → (is_set l.some r ≡ false) × ((t : ℕ) → l.from ≤ t → t < l.s-iterator.at → is_set l.all t ≡ true → is_set (get_or l.near t 0) r ≡ false);
}
