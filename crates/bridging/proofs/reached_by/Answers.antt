-- From what `class_at` and `add` ensure, the laws of the tables, and the laws of the next live id.
use Rattle.std.proofs.Common.{◌≡◌, ℕ, ◌+◌, ◌-◌, ◌≤◌, ◌<◌, ◌∙◌, arith}
use Rattle.model.specs.Network.{Network, first_id}
use Rattle.live.proofs.Ahead.{next-id, next-ahead, none-left}
use Rattle.layout.specs.Starts.{tuple_start}
use Rattle.layout.specs.Setting.{Lists, network_in, SoundLists}
use Rattle.layout.proofs.SoundStarts.{tuple-start, tuple-end, ids-rise, ids-few}
use Rattle.narrowing.specs.Sieve.{TupleIn}
use Rattle.bridging.proofs.Tables.{reaches-none, reaches-on, reaches_more, reaches_end}
use Rattle.bridging.proofs.reached_by.Goals as goal

pub live_ids-g-items-requires : goal.live_ids-g-items-requires
live_ids-g-items-requires c =
    let p = c.requires.long in
    let few = ids-few p.1.0.framed c.args.s p.1.1 in
    (omega (arith, c.tuple_start-first.ensures, c.tuple_start-end.ensures, ids-rise p.1.0.framed c.args.s (omega (arith, p.1.1))), omega (arith, c.tuple_start-end.ensures, p.0, few), omega (arith, c.tuple_start-end.ensures, few))

pub loop-g-init : goal.loop-g-init
loop-g-init c =
    let a = c.args in
    let p = c.requires.long in
    let f = p.1.0.framed in
    let low = c.tuple_start-first.ensures ∙ tuple-start f a.s (omega (arith, p.1.1)) in
    rw c.into_iter-g-iterator.ensures.into_iter_gives
    (record {
      ahead = record {
        same_words = c.live_ids-g-items.ensures.words;
        same_end = c.live_ids-g-items.ensures.end;
        from = omega (arith, c.live_ids-g-items.ensures.start);
        to_end = omega (arith, c.live_ids-g-items.ensures.start, c.tuple_start-first.ensures, c.tuple_start-end.ensures, ids-rise f a.s (omega (arith, p.1.1)));
      };
      reached = reaches-none (network_in (record { variables = a.variables.now; values = a.values.now; starts = a.starts.now })) a.s a.key a.over a.factor a.words.now c.live_ids-g-items.result.at (omega (arith, low, c.live_ids-g-items.ensures.start));
    })

-- an id of relation s is one of its tuples
tuple-in : {L : Lists} → SoundLists L → (s : ℕ) → s < 64 → {first end g : ℕ} → first ≡ tuple_start L.starts s → end ≡ tuple_start L.starts (s + 1) → first ≤ g → g < end → TupleIn L s (g - first)
tuple-in laid s few f e low high =
    record { laid = laid; own = omega (arith, f, e, low, high, tuple-start laid.framed s (omega (arith, few)), tuple-end laid.framed s few) }

pub class_at-row-requires : goal.class_at-row-requires
class_at-row-requires c =
    let p = c.requires.long.1 in
    let i = c.loop-g.invariant.ahead in
    let g = next-id i c.in-Some.ensures.steps in
    (tuple-in p.0 c.args.s p.1 c.tuple_start-first.ensures c.tuple_start-end.ensures (omega (arith, g.from, i.from)) g.below, c.requires.column_or.0)

pub class_at-class-requires : goal.class_at-class-requires
class_at-class-requires c =
    let p = c.requires.long.1 in
    let i = c.loop-g.invariant.ahead in
    let g = next-id i c.in-Some.ensures.steps in
    (tuple-in p.0 c.args.s p.1 c.tuple_start-first.ensures c.tuple_start-end.ensures (omega (arith, g.from, i.from)) g.below, c.requires.column_or.1)

pub loop-g-preserved : goal.loop-g-preserved
loop-g-preserved c =
    let a = c.args in
    let N : Network = network_in (record { variables = a.variables.now; values = a.values.now; starts = a.starts.now }) in
    let p = c.requires.long in
    let l = c.loop-g in
    let low = c.tuple_start-first.ensures ∙ tuple-start p.1.0.framed a.s (omega (arith, p.1.1)) in
    let g = next-id l.invariant.ahead c.in-Some.ensures.steps in
    let y = c.in-Some.g - c.tuple_start-first.result in
    let id : first_id N a.s + y ≡ c.in-Some.g = omega (arith, g.from, l.invariant.ahead.from, low) in
    record {
      ahead = next-ahead l.invariant.ahead c.in-Some.ensures.steps;
      reached =
          reaches_more N a.s a.key a.over a.factor a.words.now y c.next.new.self.at (omega (arith, g.behind, id))
          (reaches-on N a.s a.key a.over a.factor a.words.now l.invariant.reached (λ i h b. g.none_before i h (omega (arith, b, id))))
          c.class_at-row.result c.class_at-class.result c.class_at-row.ensures.0 c.class_at-class.ensures.0
          c.add.ensures c.add-in-loop-g.ensures;
    }

pub returns : goal.returns
returns c =
    let a = c.args in
    let p = c.requires.long in
    let N : Network = network_in (record { variables = a.variables.now; values = a.values.now; starts = a.starts.now }) in
    let high = c.tuple_start-end.ensures ∙ tuple-end p.1.0.framed a.s p.1.1 in
    reaches_end N a.s a.key a.over a.factor a.words.now c.loop-g.reached c.tuple_start-end.result (omega (arith, high))
    (reaches-on N a.s a.key a.over a.factor a.words.now c.loop-g.invariant.reached (none-left c.loop-g.invariant.ahead c.in-None.ensures.steps))
