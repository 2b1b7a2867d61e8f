-- The first r counts are read.
use Rattle.encoding.proofs.Counts.{Read}
use Rattle.encoding.proofs.sheets.counts_at.Given as goal

abbrev pub invariant-loop-r : goal.invariant-loop-r
invariant-loop-r l = Read l.sheets l.r l.counts
