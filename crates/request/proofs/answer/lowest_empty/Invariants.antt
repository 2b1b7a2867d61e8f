-- None of the relations passed is empty.
use Rattle.std.proofs.Common.{◌≡◌, ℕ, ◌<◌, false}
use Rattle.model.specs.Reply.{is_emptied}
use Rattle.layout.specs.Starts.{outline}
use Rattle.request.specs.Answer.{living_in}
use Rattle.request.proofs.answer.lowest_empty.Given as goal

abbrev pub invariant-loop-r : goal.invariant-loop-r
invariant-loop-r l = (s : ℕ) → s < l.r → is_emptied (outline l.starts) (living_in l.starts l.words) s ≡ false
