-- No id before the one reached is live and in all of the rows.
use Rattle.std.proofs.Common.{◌≡◌, true, ℕ, ◌-◌, ◌≤◌, ◌<◌}
use Rattle.model.specs.LiveWords.{is_live}
use Rattle.narrowing.specs.TupleRows.{in_rows}
use Rattle.narrowing.proofs.rows.next_in_rows.Given as goal

abbrev pub invariant-loop-at : goal.invariant-loop-at
invariant-loop-at l =
    record {
      from_on : l.start ≤ l.at;
      none : (h : ℕ) → l.start ≤ h → h < l.at → is_live l.words h ≡ true → in_rows l.index l.rows l.n h ≡ true → ⊥;
    }

abbrev pub decreases-loop-at : goal.decreases-loop-at
decreases-loop-at l = l.end - l.at
