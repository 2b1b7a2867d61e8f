-- The fields before entry `to` are read, and the rest of the line decides.
use Rattle.std.proofs.Common.{◌≡◌, ◌+◌, ◌-◌, take, drop}
use Rattle.model.specs.Reading.{read_line}
use Rattle.reading.specs.Parts.{behind}
use Rattle.reading.proofs.fields.line.Given as goal

abbrev pub invariant-loop-to : goal.invariant-loop-to
invariant-loop-to l = record {
  read : behind (take l.to l.into) (read_line l.top (l.start + l.n - l.to) (drop l.from l.text)) ≡ behind (take l.start l.initial.into) (read_line l.top l.n (drop l.at l.text));
  kept : drop (l.start + l.n) l.into ≡ drop (l.start + l.n) l.initial.into;
}
