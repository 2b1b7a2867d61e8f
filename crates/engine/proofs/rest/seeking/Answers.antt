-- From the laws of pending words and of the next live id.
use Rattle.std.proofs.Common.{◌≡◌, ℕ, ◌+◌, ◌-◌, ◌*◌, ◌≤◌, sym, ap, subst, arith}
use Rattle.live.proofs.Ahead.{next-id, next-ahead}
use Rattle.engine.specs.Rest.{HeldAt}
use Rattle.engine.proofs.Resting.{raises-none, raises-more}
use Rattle.engine.proofs.rest.seeking.Goals as goal
use Rattle.engine.proofs.rest.seeking.Goals.{After-wide}

pub live_ids-g-items-requires : goal.live_ids-g-items-requires
live_ids-g-items-requires c = (c.requires.before-end, c.requires.bits, c.requires.few)

pub loop-g-init : goal.loop-g-init
loop-g-init c =
    let ids = c.live_ids-g-items.ensures in
    rw c.into_iter-g-iterator.ensures.into_iter_gives
    (record {
      ahead = record { same_words = ids.words; same_end = ids.end; from = omega (arith, ids.start); to_end = omega (arith, ids.start, c.requires.before-end) };
      raises = raises-none c.args.words.now c.args.from;
    })

-- where the numbers of the tuple reached begin
at-is : (c : After-wide) → c.args.start + c.wide.result * c.args.each ≡ c.args.start + (c.in-Some.g - c.args.first) * c.args.each
at-is c = ap (λ (x : ℕ). c.args.start + x * c.args.each) c.wide.ensures.0

at-few : (c : After-wide) → c.args.start + c.wide.result * c.args.each ≤ 32768
at-few c =
    let g = next-id c.loop-g.invariant.ahead c.in-Some.ensures.steps in
    omega (arith, at-is c, c.requires.places c.in-Some.g (omega (arith, c.requires.after_first, g.from, c.loop-g.invariant.ahead.from)) g.below)

pub overflow_mul-at : goal.overflow_mul-at
overflow_mul-at c = omega (arith, at-few c)

pub overflow_add-at : goal.overflow_add-at
overflow_add-at c = omega (arith, at-few c)

pub holds-requires : goal.holds-requires
holds-requires c =
    let a = c.args in
    let g = next-id c.loop-g.invariant.ahead c.in-Some.ensures.steps in
    subst (HeldAt a.words.now a.starts.now a.members.now a.numbers.now a.base a.each) (sym (at-is (goal.at.holds-requires c).After-wide))
    (c.requires.holding c.in-Some.g (omega (arith, c.requires.after_first, g.from, c.loop-g.invariant.ahead.from)) g.below g.live)

pub set-requires : goal.set-requires
set-requires c =
    let g = next-id c.loop-g.invariant.ahead c.in-Some.ensures.steps in
    omega (arith, g.below, c.requires.few, c.loop-g.invariant.raises.array.long)

pub loop-g-preserved-then-not-holds : goal.loop-g-preserved-then-not-holds
loop-g-preserved-then-not-holds c =
    let l = c.loop-g.invariant in
    let g = next-id l.ahead c.in-Some.ensures.steps in
    rw c.set.ensures (record { ahead = next-ahead l.ahead c.in-Some.ensures.steps; raises = raises-more l.raises c.in-Some.g (omega (arith, g.from, l.ahead.from)) g.live })

pub returns : goal.returns
returns c = let r = c.loop-g.invariant.raises in record { long = r.array.long; only = r.only }
