-- `seek` goes from one tuple of a member to the next: the tuples that still seek have no support with one before. The measure is the number of
-- members still unchosen.
use Rattle.std.proofs.Common.{◌+◌, ◌-◌, ◌*◌, length}
use Rattle.live.proofs.Ahead.{Ahead}
use Rattle.together.proofs.Places.{joint_of}
use Rattle.together.proofs.Turn.{Reached}
use Rattle.together.proofs.+seek_seek_with.Given as goal

abbrev pub decreases-seek : goal.decreases-seek
decreases-seek l = (length l.members.now - l.k) * 2 + 1

abbrev pub decreases-seek_with : goal.decreases-seek_with
decreases-seek_with l = (length l.members.now - l.k) * 2

abbrev pub invariant-seek-loop-g : goal.invariant-seek-loop-g
invariant-seek-loop-g l = record {
  ahead : Ahead l.words l.first l.end l.g-iterator.words.now l.g-iterator.at l.g-iterator.end;
  reached : Reached (joint_of l.variables l.values l.starts l.members l.place) l.start l.k l.chosen l.words l.initial.pending l.initial.numbers l.left l.g-iterator.at l.pending l.numbers;
}
