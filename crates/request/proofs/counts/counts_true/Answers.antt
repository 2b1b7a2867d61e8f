use Rattle.std.proofs.Common.{◌≡◌, ℕ, ◌<◌, length, not, slice_index_or, sym, ap, ◌∙◌, arith}
use Rattle.model.proofs.LiveCounts.{counts-differ, counts-places}
use Rattle.layout.specs.Starts.{records_in, outline}
use Rattle.layout.proofs.SoundStarts.{relation-count}
use Rattle.request.proofs.counts.counts_true.Goals as goal

pub returns-then-counts-wide : goal.returns-then-counts-wide
returns-then-counts-wide c =
    sym (ap not (counts-differ (outline c.args.starts.now) c.args.words.now c.args.counts.now (λ e. c.if-counts-wide.true (omega (arith, e.0, relation-count c.requires.framed)))))

pub live_count-requires : goal.live_count-requires
live_count-requires c = (c.requires, omega (arith, relation-count c.requires.framed))

pub returns-then-counts-wide-2 : goal.returns-then-counts-wide-2
returns-then-counts-wide-2 c =
    let inside : c.loop-r.r < length (records_in c.args.starts.now) = omega (arith, relation-count c.requires.framed) in
    sym (ap not (counts-differ (outline c.args.starts.now) c.args.words.now c.args.counts.now
    (λ e. c.if-counts-wide-2.true (ap (λ (k : ℕ). slice_index_or c.args.counts.now k 0) c.wide-in-loop-r.ensures.0 ∙ e.1 c.loop-r.r inside ∙ sym c.live_count.ensures))))

pub returns : goal.returns
returns c =
    let as_many : length c.args.counts.now ≡ length (records_in c.args.starts.now) = omega (arith, relation-count c.requires.framed) in
    sym (ap not (counts-places (outline c.args.starts.now) c.args.words.now c.args.counts.now as_many (λ r h. c.loop-r.invariant r (omega (arith, as_many, h)))))
