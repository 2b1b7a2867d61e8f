-- The first r counts are written.
use Rattle.std.proofs.Common.{◌≡◌, take}
use Rattle.encoding.specs.Records.{with_counts}
use Rattle.encoding.proofs.sheets.put_counts.Given as goal

abbrev pub invariant-loop-r : goal.invariant-loop-r
invariant-loop-r l = l.sheets ≡ with_counts l.initial.sheets (take l.r l.counts)
