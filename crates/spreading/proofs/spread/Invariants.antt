-- `spread` goes from one live tuple of relation r to the next: what agrees with those passed is gathered.
use Rattle.std.proofs.Common.{◌≡◌, length}
use Rattle.live.proofs.Ahead.{Ahead}
use Rattle.layout.specs.Setting.{network_in}
use Rattle.spreading.proofs.Relations.{Gathered}
use Rattle.spreading.proofs.spread.Given as goal

abbrev pub invariant-loop-g : goal.invariant-loop-g
invariant-loop-g l = record {
  long : length l.sum ≡ 64;
  ahead : Ahead l.given l.first l.end l.g-iterator.words.now l.g-iterator.at l.g-iterator.end;
  gathered : Gathered (network_in (record { variables = l.variables; values = l.values; starts = l.starts })) l.r l.s l.given l.given l.sum l.g-iterator.at;
}
