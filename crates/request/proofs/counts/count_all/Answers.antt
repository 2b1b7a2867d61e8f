use Rattle.std.proofs.Common.{◌≡◌, ℕ, ◌≤◌, length, sym, ◌∙◌, arith}
use lib.Seq.{ext_get_or}
use Rattle.model.specs.LiveCounts.{live_count, live_counts}
use Rattle.model.proofs.LiveCounts.{counts-length, counts-at}
use Rattle.model.proofs.Lists.{first-set}
use Rattle.layout.specs.Starts.{outline}
use Rattle.layout.proofs.SoundStarts.{relation-count}
use Rattle.request.specs.Answer.{living_in}
use Rattle.request.proofs.counts.count_all.Goals as goal

pub live_count-requires : goal.live_count-requires
live_count-requires c = (c.requires.0, omega (arith, relation-count c.requires.0.framed))

pub bounds-counts-wide : goal.bounds-counts-wide
bounds-counts-wide c = omega (arith, relation-count c.requires.0.framed)

pub loop-r-preserved : goal.loop-r-preserved
loop-r-preserved c =
    let P : ℕ → ℕ → Type 0 = λ k n. n ≡ live_count (outline c.args.starts.now) (living_in c.args.starts.now c.args.words.now) k in
    rw c.wide.ensures.0 (first-set P c.loop-r.counts c.loop-r.r c.live_count.result (omega (arith, relation-count c.requires.0.framed)) c.loop-r.invariant c.live_count.ensures)

pub returns : goal.returns
returns c =
    let N = outline c.args.starts.now in
    let S = living_in c.args.starts.now c.args.words.now in
    let done : length c.loop-r.counts ≤ c.loop-r.r = omega (arith, relation-count c.requires.0.framed) in
    ext_get_or 0 c.loop-r.counts (live_counts N S) (omega (arith, counts-length N S))
    (λ r h. c.loop-r.invariant r (omega (arith, h, done)) ∙ sym (counts-at N S r (omega (arith, h))))
