-- What a change call answers from the starts and the live words.
use Rattle.std.specs.Prelude.{ℕ, ◌-◌, ◌*◌, ◌≤◌, List, length}
use Rattle.model.specs.declared.Counts.{Counts}
use Rattle.model.specs.Limits.{word_bits}
use Rattle.model.specs.TupleSet.{TupleSet, count}
use Rattle.model.specs.Network.{total}
use Rattle.model.specs.LiveWords.{living}
use Rattle.layout.specs.Starts.{outline, SoundStarts}

-- the live tuples
abbrev pub living_in : List ℕ → List ℕ → TupleSet
living_in starts words = living (total (outline starts)) words

-- There is a live bit for each tuple.
pub record Covered (starts words : List ℕ) : Type 0 where
  pub framed : SoundStarts starts
  pub enough : total (outline starts) ≤ word_bits * length words

-- the counts where before tuples lived at entry, kept of them after the change, and the tuples of L at the end
abbrev pub counts_of : ℕ → ℕ → TupleSet → Counts
counts_of before kept L = record { left = count L; withdrawn = before - kept; deleted = kept - count L }
