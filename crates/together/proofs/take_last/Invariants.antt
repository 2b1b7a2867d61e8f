-- `take_last` goes from one seeking tuple to the next: those before that still seek have no support.
use Rattle.live.proofs.Ahead.{Ahead}
use Rattle.together.proofs.Places.{joint_of}
use Rattle.together.proofs.Turn.{Passed}
use Rattle.together.proofs.take_last.Given as goal

abbrev pub invariant-loop-g : goal.invariant-loop-g
invariant-loop-g l = record {
  ahead : Ahead l.words l.first l.end l.g-iterator.words.now l.g-iterator.at l.g-iterator.end;
  passed : Passed (joint_of l.variables l.values l.starts l.members l.place) l.start l.k l.chosen l.words l.initial.pending l.initial.numbers l.g-iterator.at l.pending l.numbers;
}
