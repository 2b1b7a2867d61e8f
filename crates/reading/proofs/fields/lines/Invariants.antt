-- i lines are read, and the others decide.
use Rattle.std.proofs.Common.{◌≡◌, ◌+◌, ◌-◌, ◌*◌, ◌<◌, take, drop}
use Rattle.model.specs.Reading.{read_lines}
use Rattle.reading.specs.Parts.{behind}
use Rattle.reading.proofs.fields.lines.Given as goal

abbrev pub invariant-loop-i : goal.invariant-loop-i
invariant-loop-i l = record {
  placed : 0 < l.from;
  read : behind (take (l.start + l.i * l.n) l.into) (read_lines l.top (l.k - l.i) l.n (drop l.from l.text)) ≡ behind (take l.start l.initial.into) (read_lines l.top l.k l.n (drop l.at l.text));
  kept : drop (l.start + l.k * l.n) l.into ≡ drop (l.start + l.k * l.n) l.initial.into;
}
