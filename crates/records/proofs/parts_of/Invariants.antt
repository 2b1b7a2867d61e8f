use Rattle.std.proofs.Common.{◌≡◌}
use Rattle.records.proofs.Taken.{taken}
use Rattle.records.proofs.parts_of.Given as goal

-- the first i records are taken apart
abbrev pub invariant-loop-i : goal.invariant-loop-i
invariant-loop-i l = l.parts ≡ taken l.fn.relations l.i
