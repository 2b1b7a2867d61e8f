-- `mask_of` goes from one live tuple to the next: the bits of those passed are there.
use Rattle.live.proofs.Ahead.{Ahead}
use Rattle.layout.specs.Setting.{network_in}
use Rattle.narrowing.proofs.Sieves.{MasksBelow}
use Rattle.narrowing.proofs.sieve.mask_of.Given as goal

abbrev pub invariant-loop-g : goal.invariant-loop-g
invariant-loop-g l = record {
  ahead : Ahead l.words l.first l.end l.g-iterator.words.now l.g-iterator.at l.g-iterator.end;
  below : MasksBelow (network_in (record { variables = l.variables; values = l.values; starts = l.starts })) l.s l.column l.words l.bits l.g-iterator.at;
}
