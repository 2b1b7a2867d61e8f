-- The digits from position i on decide, the number before them being v.
use Rattle.std.proofs.Common.{◌≡◌, ◌<◌, drop}
use Rattle.model.specs.Reading.{read_digits}
use Rattle.reading.proofs.fields.digits.Given as goal

abbrev pub invariant-loop-i : goal.invariant-loop-i
invariant-loop-i l = record {
  small : l.v < 4294967296;
  read : read_digits l.top l.end l.v (drop l.i l.text) ≡ read_digits l.top l.end l.first (drop l.from l.text);
}
