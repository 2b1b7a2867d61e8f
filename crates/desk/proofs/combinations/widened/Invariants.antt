-- The first i members are copied.
use Rattle.std.proofs.Common.{◌≡◌, take}
use Rattle.desk.proofs.combinations.widened.Given as goal

abbrev pub invariant-loop-i : goal.invariant-loop-i
invariant-loop-i l = take l.i l.into ≡ take l.i l.members
