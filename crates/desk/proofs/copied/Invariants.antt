-- The first i fields are copied.
use Rattle.std.proofs.Common.{◌≡◌, take}
use Rattle.desk.proofs.copied.Given as goal

abbrev pub invariant-loop-i : goal.invariant-loop-i
invariant-loop-i l = take l.i l.into ≡ take l.i l.fields
