-- The neighbours of relation s are taken in, and no other one comes before it. From the laws of bits and of the next relation.
use Rattle.std.proofs.Common.{get_or, arith}
use native.Mathlib.Nat.{lt_of_not-le}
use Rattle.model.specs.LiveWords.{is_set}
use Rattle.model.proofs.Bools.{or-false-left, or-false-right, not-both}
use Rattle.live.proofs.Bits.{is_set-or}
use Rattle.enumeration.proofs.Ahead.{next-relation, next-ahead, none-left}
use Rattle.enumeration.proofs.neighbours.tries.Goals as goal

pub loop-s-init : goal.loop-s-init
loop-s-init c =
    rw c.into_iter-s-iterator.ensures.into_iter_gives
    (record {
      ahead = record {
        same_set = c.relations_in-s-items.ensures.set;
        same_count = c.relations_in-s-items.ensures.count;
        from = omega (arith, c.relations_in-s-items.ensures.from);
        to_end = omega (arith, c.relations_in-s-items.ensures.from);
      };
      taken = λ r e. (e, λ t h l b. absurd (omega (arith, h, l, c.relations_in-s-items.ensures.from)));
    })

pub loop-s-preserved : goal.loop-s-preserved
loop-s-preserved c =
    let l = c.loop-s in
    let s = c.in-Some.s in
    let next = next-relation l.invariant.ahead c.in-Some.ensures.steps in
    record {
      ahead = next-ahead l.invariant.ahead c.in-Some.ensures.steps;
      taken = λ r e.
          let either = rw (c.wide.ensures.0, is_set-or) at e in
          let before = l.invariant.taken r (or-false-left _ _ either) in
          let at = or-false-right (is_set l.word r) (is_set (get_or c.args.near.now s 0) r) either in
          (before.0, λ t g h b. grind (arith, before.1 t, at, next.first.none_before t, next.behind, b));
    }

pub returns : goal.returns
returns c r e =
    let l = c.loop-s in
    let none = none-left l.invariant.ahead c.in-None.ensures.steps in
    let before = l.invariant.taken r e in
    (before.0, λ t g h b. before.1 t g (lt_of_not-le (λ le. not-both b (none.none_before t le h))) b)
