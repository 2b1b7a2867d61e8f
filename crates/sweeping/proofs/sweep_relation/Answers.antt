-- From the laws of the next live id, and of a sweep of one relation more.
use Rattle.std.proofs.Common.{◌≡◌, ◌-◌, ◌*◌, ap, ◌∙◌, arith}
use Rattle.model.specs.LiveWords.{is_live}
use Rattle.live.proofs.Ahead.{next-id, next-ahead}
use Rattle.sweeping.specs.Sweep.{bit_of}
use Rattle.sweeping.proofs.Unmet.{sweeps-none, sweeps-then, revises-sweeps}
use Rattle.sweeping.proofs.sweep_relation.Goals as goal

pub loop-k-init : goal.loop-k-init
loop-k-init c =
    rw c.into_iter-k-iterator.ensures.into_iter_gives
    (record {
      ahead = record {
        same_words = c.live_ids-k-items.ensures.words;
        same_end = c.live_ids-k-items.ensures.end;
        from = omega (arith, c.live_ids-k-items.ensures.start);
        to_end = omega (arith, c.live_ids-k-items.ensures.start);
      };
      tested = omega arith;
      fell = omega arith;
      swept = sweeps-none c.requires.0;
    })

pub loop-k-preserved : goal.loop-k-preserved
loop-k-preserved c =
    let a = c.args in
    let i = c.loop-k.invariant in
    let base = a.r * 64 in
    let k = next-id i.ahead c.in-Some.ensures.steps in
    let at : bit_of a.r (c.in-Some.k - base) ≡ c.in-Some.k = omega (arith, k.from, i.ahead.from) in record {
      ahead = next-ahead i.ahead c.in-Some.ensures.steps;
      tested = omega (arith, k.from, k.behind, i.ahead.from, i.tested);
      fell = omega (arith, k.from, k.behind, i.ahead.from, i.fell);
      swept = sweeps-then i.swept (revises-sweeps a.r (c.in-Some.k - base) c.requires.1.1.1 (omega (arith, k.below)) (ap (is_live a.beside.now) at ∙ k.live) c.revise-swept.ensures.1);
    }
