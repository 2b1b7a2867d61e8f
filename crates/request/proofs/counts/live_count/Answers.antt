use mathlib.Core.Path.{◌≡◌, sym, ◌∙◌, ap₂}
use Prim.Native.Nat.{ℕ, ◌-◌, ◌<◌}
use native.Mathlib.Omega.{arith}
use Rattle.model.specs.TupleSet.{count}
use Rattle.model.specs.Network.{size, first_id}
use Rattle.model.specs.LiveWords.{living_from}
use Rattle.model.proofs.LiveCounts.{count-living}
use Rattle.layout.specs.Starts.{outline}
use Rattle.layout.proofs.SoundStarts.{relations-few, tuple-start, tuple-end, ids-within, tuples-few}
use Rattle.request.proofs.counts.live_count.Goals as goal

pub tuple_start-requires : goal.tuple_start-requires
tuple_start-requires c = omega (arith, relations-few c.requires.0.framed)

pub overflow_add-r : goal.overflow_add-r
overflow_add-r c = omega (arith, relations-few c.requires.0.framed)

pub tuple_start-requires-2 : goal.tuple_start-requires-2
tuple_start-requires-2 c = omega (arith, relations-few c.requires.0.framed)

pub count-requires : goal.count-requires
count-requires c =
    let f = c.requires.0.framed in
    let few : c.args.r < 64 = omega (arith, relations-few f) in (
      omega (arith, tuple-start f c.args.r (omega (arith, few)), tuple-end f c.args.r few),
      omega (arith, ids-within f c.args.r few, c.requires.0.enough),
      omega (arith, ids-within f c.args.r few, tuples-few f),
    )

pub returns : goal.returns
returns c =
    let f = c.requires.0.framed in
    let N = outline c.args.starts.now in
    let few : c.args.r < 64 = omega (arith, relations-few f) in
    let first : c.tuple_start.result ≡ first_id N c.args.r = c.tuple_start.ensures ∙ tuple-start f c.args.r (omega (arith, few)) in
    let n : c.tuple_start-2.result - c.tuple_start.result ≡ size N c.args.r = omega (arith, first, tuple-end f c.args.r few) in
    c.count.ensures ∙ ap₂ (λ (a n : ℕ). count (living_from a n c.args.words.now)) first n ∙ sym (count-living N c.args.words.now c.args.r c.requires.1)
