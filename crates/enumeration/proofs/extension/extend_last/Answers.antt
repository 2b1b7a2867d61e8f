-- One relation after the other is the last member. From the laws of the last member and of lists that combinations are added to.
use Rattle.std.proofs.Common.{sym, ◌∙◌, [], ◌∷◌, ◌++◌, suc, ◌+◌, take, arith}
use Rattle.enumeration.specs.Stage.{last_extensions}
use Rattle.enumeration.proofs.Added.{going_start, going_next, going-full, going_end}
use Rattle.enumeration.proofs.Ahead.{next-relation, next-ahead, none-left}
use Rattle.enumeration.proofs.Last.{last-past, last-here, last-skip}
use Rattle.enumeration.proofs.extension.extend_last.Goals as goal

pub loop-r-init : goal.loop-r-init
loop-r-init c =
    rw c.into_iter-r-iterator.ensures.into_iter_gives
    (record {
      ahead = record {
        same_set = c.relations_in-r-items.ensures.set;
        same_count = c.relations_in-r-items.ensures.count;
        from = omega (arith, c.relations_in-r-items.ensures.from);
        to_end = omega (arith, c.relations_in-r-items.ensures.from);
      };
      going = rw c.relations_in-r-items.ensures.from (going_start (suc c.args.k) c.requires.under);
    })

pub loop-r-preserved : goal.loop-r-preserved
loop-r-preserved c =
    let a = c.args in
    let l = c.loop-r in
    let r = c.in-Some.r in
    let next = next-relation l.invariant.ahead c.in-Some.ensures.steps in
    let ahead = rw (last-here a.set a.members a.k a.count l.r-iterator.at r next.first next.below) at l.invariant.going in
    record {
      ahead = next-ahead l.invariant.ahead c.in-Some.ensures.steps;
      going =
          rw next.behind
          (going_next (suc a.k) ((take a.k a.members ++ (r ∷ [])) ∷ []) (last_extensions a.set a.members a.k (r + 1) a.count) ahead c.add-n.ensures.0
          (omega (arith, c.add-n.ensures.1, c.if-wide-eq-MAX_COMBINATIONS.false, c.wide.ensures.0, l.invariant.going.under)));
    }

pub returns-then-wide-eq-MAX_COMBINATIONS : goal.returns-then-wide-eq-MAX_COMBINATIONS
returns-then-wide-eq-MAX_COMBINATIONS c =
    let a = c.args in
    let l = c.loop-r in
    let next = next-relation l.invariant.ahead c.in-Some.ensures.steps in
    going-full (suc a.k) (rw (last-here a.set a.members a.k a.count l.r-iterator.at c.in-Some.r next.first next.below) at l.invariant.going) (sym c.wide.ensures.0 ∙ c.if-wide-eq-MAX_COMBINATIONS.true)

pub returns : goal.returns
returns c =
    let a = c.args in
    let l = c.loop-r in
    let none = none-left l.invariant.ahead c.in-None.ensures.steps in
    going_end (suc a.k) (rw (last-skip a.set a.members a.k a.count l.r-iterator.at a.count none ∙ last-past a.set a.members a.k a.count a.count (omega arith)) at l.invariant.going)
