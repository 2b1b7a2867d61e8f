-- The first r records are taken apart.
use Rattle.encoding.proofs.Records.{Apart}
use Rattle.encoding.proofs.sheets.shape_at.Given as goal

abbrev pub invariant-loop-r : goal.invariant-loop-r
invariant-loop-r l = Apart l.sheets l.r l.widths l.tuples
