-- `equal_in` compares column by column: the values are equal in the columns passed whose variable is in the set.
use Rattle.std.proofs.Common.{◌≡◌, true, ℕ, ◌<◌, get_or}
use Rattle.model.specs.LiveWords.{is_set}
use Rattle.doubles.proofs.alike.equal_in.Given as goal

abbrev pub invariant-loop-c : goal.invariant-loop-c
invariant-loop-c l = (k : ℕ) → k < l.c → is_set l.common (get_or l.scope k 0) ≡ true → get_or l.a k 0 ≡ get_or l.b k 0
