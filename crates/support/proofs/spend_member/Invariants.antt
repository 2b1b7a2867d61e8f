-- What is spent so far agrees with the seeking tuple.
use Rattle.std.proofs.Common.{◌≡◌, length}
use Rattle.live.proofs.Ahead.{Ahead}
use Rattle.layout.specs.Setting.{network_in}
use Rattle.support.proofs.Spent.{SpentOf}
use Rattle.support.proofs.spend_member.Given as goal

abbrev pub invariant-loop-g : goal.invariant-loop-g
invariant-loop-g l = record {
  long : length l.fresh ≡ 64;
  ahead : Ahead l.words l.first l.end l.g-iterator.words.now l.g-iterator.at l.g-iterator.end;
  spent : SpentOf (network_in (record { variables = l.variables; values = l.values; starts = l.starts })) l.r l.x l.s l.end l.initial.fresh l.fresh;
}
