-- One relation that is tried after the other. From the laws of two left to choose and of lists that combinations are added to.
use Rattle.std.proofs.Common.{◌≡◌, ◌++◌, ℕ, ◌+◌, ◌≤◌, ◌∙◌, set, take, arith, rules}
use Rattle.model.specs.LiveWords.{is_set}
use Rattle.model.proofs.Lists.{First}
use Rattle.enumeration.specs.Stage.{last_extensions, extensions}
use Rattle.enumeration.proofs.Added.{Going, going_start, going_next, going-over, going_end}
use Rattle.enumeration.proofs.Ahead.{next-relation, next-ahead, none-left}
use Rattle.enumeration.proofs.Joining.{Tried, tries-tried}
use Rattle.enumeration.proofs.Extending.{extensions-end, two-next, tried-all}
use Rattle.enumeration.proofs.extension.extend_two.Goals as goal
use Rattle.enumeration.proofs.extension.extend_two.Goals.{After-tries-tried, After-extend_by-n}

-- the relations before the next one that is tried are passed over
passed : (c : After-tries-tried) (i r : ℕ) → c.args.from ≤ i → First (is_set c.tries-tried.result) i c.args.count r → let a = c.args in extensions a.near.now a.sets.now a.members a.m a.k i a.count ≡ extensions a.near.now a.sets.now a.members a.m a.k r a.count
passed c i r h f =
    let a = c.args in
    let p = c.requires.0 in
    let T : Tried c.tries-tried.result a.near.now (take a.k a.sets.now) i a.count =
    λ s g. tries-tried c.tries-tried.result c.union-some.result c.common-all.result a.near.now (take a.k a.sets.now) a.from a.count p.choice.relations c.tries-tried.ensures p.both_ways c.union-some.ensures c.common-all.ensures s (omega arith)
    in
    tried-all a.near.now a.sets.now a.members a.m a.k a.count c.requires.1 p.choice.relations (search rules) (omega arith) c.tries-tried.result i r T f

-- those with relation r, and those without it
ahead : (c : After-extend_by-n) → let a = c.args in let l = c.loop-r in let r = c.in-Some.r in Going a.m (last_extensions c.candidates-last.result (set a.members a.k r) (a.k + 1) (r + 1) a.count ++ extensions a.near.now a.sets.now a.members a.m a.k (r + 1) a.count) (extensions a.near.now a.sets.now a.members a.m a.k a.from a.count) a.found a.list.now l.n l.list
ahead c =
    let a = c.args in
    let l = c.loop-r in
    let r = c.in-Some.r in
    let next = next-relation l.invariant.ahead c.in-Some.ensures.steps in
    rw (passed (goal.at.After-extend_by-n c).After-tries-tried l.r-iterator.at r l.invariant.ahead.from next.first
    ∙ two-next a.near.now a.sets.now a.members a.m a.k a.count c.requires.1 c.requires.0.choice.relations (search rules) (omega arith) r c.candidates-last.result next.below (rw c.wide.ensures.0 at c.candidates-last.ensures)) at l.invariant.going

pub loop-r-init : goal.loop-r-init
loop-r-init c =
    rw c.into_iter-r-iterator.ensures.into_iter_gives
    (record {
      ahead = record {
        same_set = c.relations_in-r-items.ensures.set;
        same_count = c.relations_in-r-items.ensures.count;
        from = omega (arith, c.relations_in-r-items.ensures.from);
        to_end = omega (arith, c.relations_in-r-items.ensures.from, c.requires.0.choice.low);
      };
      going = rw c.relations_in-r-items.ensures.from (going_start c.args.m c.requires.0.choice.under);
    })

pub loop-r-preserved : goal.loop-r-preserved
loop-r-preserved c =
    let l = c.loop-r in
    let next = next-relation l.invariant.ahead c.in-Some.ensures.steps in
    record {
      ahead = next-ahead l.invariant.ahead c.in-Some.ensures.steps;
      going = rw next.behind (going_next c.args.m _ _ (ahead (goal.at.loop-r-preserved c).After-extend_by-n) (rw c.requires.1 at c.extend_by-n.ensures) (omega arith));
    }

pub returns-then-wide-gt-MAX_COMBINATIONS : goal.returns-then-wide-gt-MAX_COMBINATIONS
returns-then-wide-gt-MAX_COMBINATIONS c = going-over c.args.m _ _ (ahead (goal.at.returns-then-wide-gt-MAX_COMBINATIONS c).After-extend_by-n) (rw c.requires.1 at c.extend_by-n.ensures) (omega arith)

pub returns : goal.returns
returns c =
    let a = c.args in
    let l = c.loop-r in
    let none = none-left l.invariant.ahead c.in-None.ensures.steps in
    going_end a.m
    (rw (passed (goal.at.returns c).After-tries-tried l.r-iterator.at a.count l.invariant.ahead.from none ∙ extensions-end a.near.now a.sets.now a.members a.m a.k a.count (omega arith) a.count (omega arith)) at l.invariant.going)
