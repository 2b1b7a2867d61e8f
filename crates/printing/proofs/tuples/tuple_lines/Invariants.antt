-- What remains are the lines of the tuples from relation r on.
use Rattle.printing.proofs.Appended.{Remains}
use Rattle.printing.proofs.Relations.{lines_from}
use Rattle.printing.proofs.tuples.tuple_lines.Given as goal

abbrev pub invariant-loop-r : goal.invariant-loop-r
invariant-loop-r l = Remains (lines_from l.starts l.values l.words l.r) l.out l.n (lines_from l.starts l.values l.words 0) l.initial.out l.at
