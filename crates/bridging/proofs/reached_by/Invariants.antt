-- The live tuples passed are entered.
use Rattle.live.proofs.Ahead.{Ahead}
use Rattle.layout.specs.Setting.{network_in}
use Rattle.bridging.proofs.Tables.{ReachesBelow}
use Rattle.bridging.proofs.reached_by.Given as goal

abbrev pub invariant-loop-g : goal.invariant-loop-g
invariant-loop-g l = record {
  ahead : Ahead l.words l.first l.end l.g-iterator.words.now l.g-iterator.at l.g-iterator.end;
  reached : ReachesBelow (network_in (record { variables = l.variables; values = l.values; starts = l.starts })) l.s l.key l.over l.factor l.words l.reached l.g-iterator.at;
}
