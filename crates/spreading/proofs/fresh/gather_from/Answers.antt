-- From what `gather_near` ensures, the law of one tuple more, and the laws of the next live id.
use Rattle.std.proofs.Common.{arith, ◌≡◌, ◌+◌, ◌-◌, ◌∙◌}
use Rattle.model.specs.Network.{first_id}
use Rattle.live.proofs.Ahead.{next-id, next-ahead, none-left}
use Rattle.layout.specs.Setting.{network_in}
use Rattle.layout.proofs.SoundStarts.{tuple-start, tuple-end, ids-few, ids-rise}
use Rattle.spreading.proofs.Relations.{gathered-more, gathered-all}
use Rattle.spreading.proofs.fresh.gather_from.Goals as goal

pub live_ids-g-items-requires : goal.live_ids-g-items-requires
live_ids-g-items-requires c =
    let framed = c.requires.searchable.0.laid.framed in
    let r = c.args.r in
    let below = c.requires.searchable.1.0.0 in
    let few = ids-few framed r below in (
      omega (arith, c.tuple_start-first.ensures, c.tuple_start-end.ensures, ids-rise framed r below),
      omega (arith, c.tuple_start-end.ensures, few, c.requires.long.0),
      omega (arith, c.tuple_start-end.ensures, few),
    )

pub loop-g-init : goal.loop-g-init
loop-g-init c =
    let framed = c.requires.searchable.0.laid.framed in
    let r = c.args.r in
    let below = c.requires.searchable.1.0.0 in
    let low = c.tuple_start-first.ensures ∙ tuple-start framed r (omega (arith, below)) in
    let rise = ids-rise framed r below in
    rw c.into_iter-g-iterator.ensures.into_iter_gives
    (record {
      long = c.requires.long.1.1;
      ahead = record {
        same_words = c.live_ids-g-items.ensures.words;
        same_end = c.live_ids-g-items.ensures.end;
        from = omega (arith, c.live_ids-g-items.ensures.start);
        to_end = omega (arith, c.live_ids-g-items.ensures.start, c.tuple_start-first.ensures, c.tuple_start-end.ensures, rise);
      };
      keeps = λ z h l. l;
      gathered = λ x z hx l live hz a lz. absurd (omega (arith, l, low, c.live_ids-g-items.ensures.start));
    })

pub gather_near-requires-clause-seeks : goal.gather_near-requires-clause-seeks
gather_near-requires-clause-seeks c =
    let Q = c.requires.searchable in
    let framed = Q.0.laid.framed in
    let r = c.args.r in
    let low = c.tuple_start-first.ensures ∙ tuple-start framed r (omega (arith, Q.1.0.0)) in
    let high = c.tuple_start-end.ensures ∙ tuple-end framed r Q.1.0.0 in
    let g = next-id c.loop-g.invariant.ahead c.in-Some.ensures.steps in
    (record { laid = Q.0.laid; indexed = Q.0.indexed; own = omega (arith, g.from, g.below, low, high, c.loop-g.invariant.ahead.from) }, Q.1)

pub loop-g-preserved : goal.loop-g-preserved
loop-g-preserved c =
    let a = c.args in
    let N = network_in (record { variables = a.variables.now; values = a.values.now; starts = a.starts.now }) in
    let low = c.tuple_start-first.ensures ∙ tuple-start c.requires.searchable.0.laid.framed a.r (omega (arith, c.requires.searchable.1.0.0)) in
    let l = c.loop-g.invariant in
    let g = next-id l.ahead c.in-Some.ensures.steps in
    let is-g : first_id N a.r + (c.in-Some.g - c.tuple_start-first.result) ≡ c.in-Some.g = omega (arith, g.from, l.ahead.from, low) in
    record {
      long = c.gather_near.ensures.0;
      ahead = next-ahead l.ahead c.in-Some.ensures.steps;
      keeps = λ z h i. c.gather_near.ensures.1.keeps z h (l.keeps z h i);
      gathered = gathered-more N a.r a.s g (c.in-Some.g - c.tuple_start-first.result) is-g c.gather_near.ensures.1 l.gathered;
    }

pub returns : goal.returns
returns c =
    let a = c.args in
    let N = network_in (record { variables = a.variables.now; values = a.values.now; starts = a.starts.now }) in
    let high = c.tuple_start-end.ensures ∙ tuple-end c.requires.searchable.0.laid.framed a.r c.requires.searchable.1.0.0 in
    let l = c.loop-g.invariant in
    let all = gathered-all N a.r a.s a.fresh.now a.words.now _ c.tuple_start-end.result _ (none-left l.ahead c.in-None.ensures.steps) l.gathered in
    record { long = l.long; keeps = l.keeps; adds = λ x z hx hz a lx lz. all x z hx (omega (arith, high, hx)) lx hz a lz }
