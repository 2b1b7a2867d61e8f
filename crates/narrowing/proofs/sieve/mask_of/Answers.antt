-- From what `bits_at` ensures, the law of one tuple more, and the laws of the next live id.
use Rattle.std.proofs.Common.{arith, ◌≡◌, ◌+◌, ◌-◌, ◌∙◌}
use native.Mathlib.Nat.{lt_of_not-le}
use Rattle.model.specs.Network.{first_id}
use Rattle.model.proofs.Bools.{not-both}
use Rattle.live.proofs.Ahead.{next-id, next-ahead, none-left}
use Rattle.layout.specs.Setting.{network_in}
use Rattle.layout.proofs.SoundStarts.{tuple-start, tuple-end, ids-few, ids-rise}
use Rattle.narrowing.proofs.Sieves.{masks-more}
use Rattle.narrowing.proofs.sieve.mask_of.Goals as goal

pub live_ids-g-items-requires : goal.live_ids-g-items-requires
live_ids-g-items-requires c =
    let framed = c.requires.1.laid.framed in
    let s = c.args.s in
    let few = ids-few framed s c.requires.1.relation in (
      omega (arith, c.tuple_start-first.ensures, c.tuple_start-end.ensures, ids-rise framed s (omega (arith, c.requires.1.relation))),
      omega (arith, c.tuple_start-end.ensures, few, c.requires.0),
      omega (arith, c.tuple_start-end.ensures, few),
    )

pub loop-g-init : goal.loop-g-init
loop-g-init c =
    let framed = c.requires.1.laid.framed in
    let s = c.args.s in
    let low = c.tuple_start-first.ensures ∙ tuple-start framed s (omega (arith, c.requires.1.relation)) in
    let rise = ids-rise framed s (omega (arith, c.requires.1.relation)) in
    rw c.into_iter-g-iterator.ensures.into_iter_gives
    (record {
      ahead = record {
        same_words = c.live_ids-g-items.ensures.words;
        same_end = c.live_ids-g-items.ensures.end;
        from = omega (arith, c.live_ids-g-items.ensures.start);
        to_end = omega (arith, c.live_ids-g-items.ensures.start, c.tuple_start-first.ensures, c.tuple_start-end.ensures, rise);
      };
      below = λ z h l live. absurd (omega (arith, l, low, c.live_ids-g-items.ensures.start));
    })

pub bits_at-bits-requires : goal.bits_at-bits-requires
bits_at-bits-requires c =
    let framed = c.requires.1.laid.framed in
    let s = c.args.s in
    let low = c.tuple_start-first.ensures ∙ tuple-start framed s (omega (arith, c.requires.1.relation)) in
    let high = c.tuple_start-end.ensures ∙ tuple-end framed s c.requires.1.relation in
    let g = next-id c.loop-g.invariant.ahead c.in-Some.ensures.steps in
    (record { laid = c.requires.1.laid; own = omega (arith, g.from, g.below, low, high, c.loop-g.invariant.ahead.from) }, c.requires.1.inside)

pub loop-g-preserved : goal.loop-g-preserved
loop-g-preserved c =
    let framed = c.requires.1.laid.framed in
    let a = c.args in
    let network = network_in (record { variables = a.variables.now; values = a.values.now; starts = a.starts.now }) in
    let low = c.tuple_start-first.ensures ∙ tuple-start framed a.s (omega (arith, c.requires.1.relation)) in
    let l = c.loop-g in
    let g = next-id l.invariant.ahead c.in-Some.ensures.steps in
    let id : first_id network a.s + (c.in-Some.g - c.tuple_start-first.result) ≡ c.in-Some.g = omega (arith, g.from, l.invariant.ahead.from, low) in
    record {
      ahead = next-ahead l.invariant.ahead c.in-Some.ensures.steps;
      below = masks-more network a.s a.column a.words.now l.bits c.bits_at-bits.result (c.in-Some.g - c.tuple_start-first.result) c.next.new.self.at c.bits_at-bits.ensures
          (λ i h b live. omega (arith, h, b, id, g.behind))
          (λ z h b live. l.invariant.below z h (lt_of_not-le (λ le. not-both live (g.none_before _ le (omega (arith, b, id))))) live);
    }

pub returns : goal.returns
returns c =
    let framed = c.requires.1.laid.framed in
    let high = c.tuple_start-end.ensures ∙ tuple-end framed c.args.s c.requires.1.relation in
    let none = none-left c.loop-g.invariant.ahead c.in-None.ensures.steps in
    λ z h live. c.loop-g.invariant.below z h (lt_of_not-le (λ le. not-both live (none _ le (omega (arith, h, high))))) live
