-- What was removed so far might be, the walk is among the relation's ids, and no more tuples were tested than it passed.
use Rattle.std.proofs.Common.{◌≡◌, ◌+◌, ◌-◌, ◌≤◌, length}
use Rattle.model.specs.Limits.{max_tuples, max_width}
use Rattle.model.specs.Network.{width, size, first_id}
use Rattle.layout.specs.Setting.{Lists, network_in}
use Rattle.narrowing.specs.TupleRows.{tuple_rows}
use Rattle.sweeping.specs.Sweep.{Covers, Revises}
use Rattle.sweeping.proofs.clear_tuples.Given as goal

abbrev pub invariant-loop-g : goal.invariant-loop-g
invariant-loop-g l =
    let L : Lists = record { variables = l.variables; values = l.values; starts = l.starts } in record {
      begins : l.first ≡ first_id (network_in L) l.r;
      ends : l.end ≡ first_id (network_in L) l.r + size (network_in L) l.r;
      few : l.end ≤ max_tuples;
      columns : l.width ≡ width (network_in L) l.r;
      narrow : l.width ≤ max_width;
      from_first : l.first ≤ l.g;
      to_end : l.g ≤ l.end;
      few_tested : l.tested ≤ l.g - l.first;
      few_fell : l.fell ≤ l.tested;
      long : length l.rows ≡ tuple_rows;
      revised : Revises L l.r l.s l.initial.words l.words;
      covered : Covers (network_in L) l.s l.words l.alive;
    }

abbrev pub decreases-loop-g : goal.decreases-loop-g
decreases-loop-g l = l.end - l.g
