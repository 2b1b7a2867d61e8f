use Rattle.std.proofs.Common.{◌≡◌, sym, ◌∙◌, arith}
use Rattle.request.specs.Removal.{added}
use Rattle.request.proofs.Removed.{added-inside, added-outside, above-max}
use Rattle.request.proofs.removal.add.Goals as goal
use Rattle.request.proofs.removal.add.Goals.{then-wide_id-lt-MAX_TUPLES, else-wide_id-lt-MAX_TUPLES}

pub returns : goal.returns
returns c =
    let g = c.args.g in
    let ws = c.args.words.now in
    let set : c.if-wide_id-lt-MAX_TUPLES.words ≡ added g ws =
    elim c.if-wide_id-lt-MAX_TUPLES.branch [
      | then-wide_id-lt-MAX_TUPLES w ↦ w.words-is ∙ w.set.ensures ∙ sym (added-inside g ws (omega arith))
      | else-wide_id-lt-MAX_TUPLES w ↦ w.words-is ∙ sym (added-outside g ws (omega arith))
    ] in
    (set, above-max c.args.bound g c.max.result (omega arith))
