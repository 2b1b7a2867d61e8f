-- From what `gather` and `keep` ensure, the law of one tuple more, and the laws of the next live id.
use Rattle.std.proofs.Common.{arith, refl, ◌≡◌, ◌+◌, ◌-◌, ◌∙◌}
use borrow.Author.Tests.{ltb-false}
use Rattle.model.specs.Network.{first_id}
use Rattle.model.proofs.Bools.{not-both}
use Rattle.live.proofs.Ahead.{next-id, next-ahead, none-left}
use Rattle.layout.specs.Setting.{network_in}
use Rattle.layout.proofs.SoundStarts.{tuple-start, tuple-end, ids-few, ids-rise}
use Rattle.narrowing.proofs.Narrowing.{dead-past}
use Rattle.spreading.proofs.Relations.{gathered-more, gathered-all, spread-kept, spread_none}
use Rattle.spreading.proofs.spread.Goals as goal

pub returns-then-limit-count : goal.returns-then-limit-count
returns-then-limit-count c = (c.requires.0, (spread_none _ _ _ _, λ e. absurd (not-both refl e)))

pub count-requires : goal.count-requires
count-requires c =
    let framed = c.requires.1.0.laid.framed in
    let r = c.args.r in
    let below = c.requires.1.1.0 in
    let few = ids-few framed r below in (
      omega (arith, c.tuple_start-first.ensures, c.tuple_start-end.ensures, ids-rise framed r below),
      omega (arith, c.tuple_start-end.ensures, few, c.requires.0),
      omega (arith, c.tuple_start-end.ensures, few),
    )

pub live_ids-g-items-requires : goal.live_ids-g-items-requires
live_ids-g-items-requires c =
    let framed = c.requires.1.0.laid.framed in
    let r = c.args.r in
    let below = c.requires.1.1.0 in
    let few = ids-few framed r below in (
      omega (arith, c.tuple_start-first.ensures, c.tuple_start-end.ensures, ids-rise framed r below),
      omega (arith, c.tuple_start-end.ensures, few, c.requires.0),
      omega (arith, c.tuple_start-end.ensures, few),
    )

pub loop-g-init : goal.loop-g-init
loop-g-init c =
    let framed = c.requires.1.0.laid.framed in
    let r = c.args.r in
    let below = c.requires.1.1.0 in
    let low = c.tuple_start-first.ensures ∙ tuple-start framed r (omega (arith, below)) in
    let rise = ids-rise framed r below in
    rw c.into_iter-g-iterator.ensures.into_iter_gives
    (record {
      long = refl;
      ahead = record {
        same_words = c.live_ids-g-items.ensures.words;
        same_end = c.live_ids-g-items.ensures.end;
        from = omega (arith, c.live_ids-g-items.ensures.start);
        to_end = omega (arith, c.live_ids-g-items.ensures.start, c.tuple_start-first.ensures, c.tuple_start-end.ensures, rise);
      };
      gathered = λ x z hx l live hz a lz. absurd (omega (arith, l, low, c.live_ids-g-items.ensures.start));
    })

pub gather-requires-clause-seeks : goal.gather-requires-clause-seeks
gather-requires-clause-seeks c =
    let Q = c.requires.1 in
    let framed = Q.0.laid.framed in
    let r = c.args.r in
    let low = c.tuple_start-first.ensures ∙ tuple-start framed r (omega (arith, Q.1.0)) in
    let high = c.tuple_start-end.ensures ∙ tuple-end framed r Q.1.0 in
    let g = next-id c.loop-g.invariant.ahead c.in-Some.ensures.steps in
    (record { laid = Q.0.laid; indexed = Q.0.indexed; own = omega (arith, g.from, g.below, low, high, c.loop-g.invariant.ahead.from) }, Q.1.1)

pub loop-g-preserved : goal.loop-g-preserved
loop-g-preserved c =
    let a = c.args in
    let N = network_in (record { variables = a.variables.now; values = a.values.now; starts = a.starts.now }) in
    let low = c.tuple_start-first.ensures ∙ tuple-start c.requires.1.0.laid.framed a.r (omega (arith, c.requires.1.1.0)) in
    let l = c.loop-g.invariant in
    let g = next-id l.ahead c.in-Some.ensures.steps in
    let is-g : first_id N a.r + (c.in-Some.g - c.tuple_start-first.result) ≡ c.in-Some.g = omega (arith, g.from, l.ahead.from, low) in
    record {
      long = c.gather.ensures.0;
      ahead = next-ahead l.ahead c.in-Some.ensures.steps;
      gathered = gathered-more N a.r a.s g (c.in-Some.g - c.tuple_start-first.result) is-g c.gather.ensures.1 l.gathered;
    }

pub keep-requires : goal.keep-requires
keep-requires c =
    let few = ids-few c.requires.1.0.laid.framed c.args.s c.requires.1.1.1 in
    (c.requires.0, (omega (arith, c.tuple_start-to.ensures, few), omega (arith, c.tuple_start-to.ensures, few, c.loop-g.invariant.long)))

pub next-requires-2 : goal.next-requires-2
next-requires-2 c =
    let framed = c.requires.1.0.laid.framed in
    let few = ids-few framed c.args.s c.requires.1.1.1 in
    let rise = ids-rise framed c.args.s c.requires.1.1.1 in (
      omega (arith, c.tuple_start-from.ensures, c.tuple_start-to.ensures, rise),
      omega (arith, c.tuple_start-to.ensures, few, c.keep.ensures.0),
      omega (arith, c.tuple_start-to.ensures, few),
    )

pub returns : goal.returns
returns c =
    let a = c.args in
    let N = network_in (record { variables = a.variables.now; values = a.values.now; starts = a.starts.now }) in
    let framed = c.requires.1.0.laid.framed in
    let from = c.tuple_start-from.result in
    let to = c.tuple_start-to.result in
    let from_is = c.tuple_start-from.ensures ∙ tuple-start framed a.s (omega (arith, c.requires.1.1.1)) in
    let to_is = c.tuple_start-to.ensures ∙ tuple-end framed a.s c.requires.1.1.1 in
    let high = c.tuple_start-end.ensures ∙ tuple-end framed a.r c.requires.1.1.0 in
    let l = c.loop-g.invariant in
    let all = gathered-all N a.r a.s a.words.now a.words.now _ c.tuple_start-end.result _ (none-left l.ahead c.in-None.ensures.steps) l.gathered in
    let after = c.keep.new.words in (
      c.keep.ensures.0,
      (
        spread-kept N a.s from to a.words.now c.loop-g.sum after from_is to_is c.keep.ensures.1 a.r
            (λ x z hx hz p lx lz. all x z hx (omega (arith, high, hx)) lx hz p lz),
        λ e. let past = ltb-false c.next-2.result to e in dead-past N a.s from to from_is to_is after (omega (arith, past, c.next-2.ensures)),
      ),
    )
