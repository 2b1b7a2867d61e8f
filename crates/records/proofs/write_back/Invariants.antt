use Rattle.std.proofs.Common.{◌≡◌}
use Rattle.records.proofs.Written.{written}
use Rattle.records.proofs.write_back.Given as goal

-- the first i counts are written
abbrev pub invariant-loop-i : goal.invariant-loop-i
invariant-loop-i l = l.relation-items ≡ written l.initial.relation-items l.fn.done.live l.i
