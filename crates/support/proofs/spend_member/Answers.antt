-- From what `tuples_agree` and `clear` ensure, and the laws of what is spent and of the next live id.
use Rattle.std.proofs.Common.{◌≡◌, true, ◌+◌, ◌-◌, ◌≤◌, ◌∙◌, sym, ap, arith}
use Rattle.model.specs.Network.{first_id}
use Rattle.model.specs.Agreement.{agree}
use Rattle.model.proofs.Bools.{not-both}
use Rattle.model.proofs.LiveWords.{cleared-length}
use Rattle.live.proofs.Ahead.{next-id, next-ahead}
use Rattle.layout.specs.Setting.{network_in}
use Rattle.layout.proofs.SoundStarts.{tuple-start, tuple-end, ids-few}
use Rattle.support.proofs.Spent.{spent-more}
use Rattle.support.proofs.spend_member.Goals as goal

pub live_ids-g-items-requires : goal.live_ids-g-items-requires
live_ids-g-items-requires c =
    let asked = c.requires.spend_at in
    let framed = asked.laid.framed in
    let s = c.args.s in
    let low = c.tuple_start-first.ensures ∙ tuple-start framed s (omega (arith, asked.second)) in
    let few : c.args.end ≤ 4096 = omega (arith, ids-few framed s asked.second, tuple-end framed s asked.second, asked.to_end) in
    (omega (arith, low, asked.from_first), omega (arith, few, c.requires.long.0), few)

pub loop-g-init : goal.loop-g-init
loop-g-init c =
    let asked = c.requires.spend_at in
    let low = c.tuple_start-first.ensures ∙ tuple-start asked.laid.framed c.args.s (omega (arith, asked.second)) in
    let ids = c.live_ids-g-items.ensures in
    rw c.into_iter-g-iterator.ensures.into_iter_gives
    (record {
      long = c.requires.long.1;
      ahead = record { same_words = ids.words; same_end = ids.end; from = omega (arith, ids.start); to_end = omega (arith, ids.start, low, asked.from_first) };
      spent = λ g was gone. absurd (not-both was gone);
    })

pub tuples_agree-requires : goal.tuples_agree-requires
tuples_agree-requires c =
    let asked = c.requires.spend_at in
    let low = c.tuple_start-first.ensures ∙ tuple-start asked.laid.framed c.args.s (omega (arith, asked.second)) in
    let g = next-id c.loop-g.invariant.ahead c.in-Some.ensures.steps in
    record { laid = asked.laid; first = asked.own; second = omega (arith, low, g.from, g.below, c.loop-g.invariant.ahead.from, asked.to_end) }

pub clear-requires : goal.clear-requires
clear-requires c =
    let asked = c.requires.spend_at in
    let framed = asked.laid.framed in
    let s = c.args.s in
    let g = next-id c.loop-g.invariant.ahead c.in-Some.ensures.steps in
    omega (arith, g.below, c.loop-g.invariant.long, ids-few framed s asked.second, tuple-end framed s asked.second, asked.to_end)

pub loop-g-preserved-then-tuples_agree : goal.loop-g-preserved-then-tuples_agree
loop-g-preserved-then-tuples_agree c =
    let a = c.args in
    let N = network_in (record { variables = a.variables.now; values = a.values.now; starts = a.starts.now }) in
    let asked = c.requires.spend_at in
    let framed = asked.laid.framed in
    let low = c.tuple_start-first.ensures ∙ tuple-start framed a.s (omega (arith, asked.second)) in
    let l = c.loop-g.invariant in
    let g = next-id l.ahead c.in-Some.ensures.steps in
    let id : first_id N a.s + (c.in-Some.g - c.tuple_start-first.result) ≡ c.in-Some.g = omega (arith, g.from, l.ahead.from, low) in
    let agrees : agree N (first_id N a.r + a.x) c.in-Some.g ≡ true = ap (agree N (first_id N a.r + a.x)) (sym id) ∙ sym c.tuples_agree.ensures ∙ c.if-tuples_agree.true in
    rw c.clear.ensures
    (record {
      long = cleared-length c.in-Some.g c.loop-g.fresh ∙ l.long;
      ahead = next-ahead l.ahead c.in-Some.ensures.steps;
      spent =
          spent-more N a.r a.x a.s a.end a.fresh.now c.loop-g.fresh c.in-Some.g
          (omega (arith, g.below, l.long, ids-few framed a.s asked.second, tuple-end framed a.s asked.second, asked.to_end))
          (omega (arith, g.from, l.ahead.from, low)) g.below agrees l.spent;
    })
