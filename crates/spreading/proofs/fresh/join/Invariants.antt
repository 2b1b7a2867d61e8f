-- `join` joins word by word: the words passed are joined.
use Rattle.std.proofs.Common.{true, ◌*◌}
use Rattle.narrowing.specs.Gathers.{Joins}
use Rattle.spreading.proofs.fresh.join.Given as goal

abbrev pub invariant-loop-i : goal.invariant-loop-i
invariant-loop-i l = Joins (λ _. true) 0 (64 * l.i) l.words l.initial.sum l.sum
