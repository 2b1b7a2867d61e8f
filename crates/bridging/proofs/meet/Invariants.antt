-- No class of the words passed is in both.
use Rattle.std.proofs.Common.{ℕ, ◌/◌, ◌<◌}
use Rattle.bridging.specs.Bridge.{Reached}
use Rattle.bridging.proofs.meet.Given as goal

abbrev pub invariant-loop-i : goal.invariant-loop-i
invariant-loop-i l = (c : ℕ) → c / 64 < l.i → Reached l.near l.a c → Reached l.far l.b c → ⊥
