-- What remains of the line is the line of the fields left.
use Rattle.std.proofs.Common.{drop}
use Rattle.model.specs.Text.{line_text}
use Rattle.printing.proofs.Appended.{Remains}
use Rattle.printing.proofs.text.line.Given as goal

abbrev pub invariant-loop-v : goal.invariant-loop-v
invariant-loop-v l = Remains (line_text (drop l.v-index l.fields)) l.out l.n (line_text l.fields) l.initial.out l.at
