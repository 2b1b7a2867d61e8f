-- From the laws of the pairs that a removal queues, and the contract of `put_others`.
use Rattle.std.proofs.Common.{◌≡◌, ℕ, ◌+◌, ◌-◌, Bool, List, eqb, take, drop, ltb, ap, ◌∙◌, arith, rules}
use Rattle.std.specs.List.{list_any}
use Rattle.std.proofs.lemmas.Grind.{common_steps}
use mathlib.Core.Bool.{true, false, ◌&&◌, ◌||◌}
use Rattle.model.specs.Lists.{elem}
use Rattle.model.specs.LiveWords.{is_live}
use Rattle.model.specs.Combination.{pair_member}
use Rattle.worklist.specs.Pairs.{WaitToo, others, queues}
use Rattle.worklist.proofs.Waiting.{Words, words_of, wait-if, wait-not, wait-then, visits, adds, visits-own, visits-other, multiple-next, queues-more, queues-all}
use Rattle.worklist.proofs.queue.requeue.Goals as goal
use Rattle.worklist.proofs.queue.requeue.Goals.{Joined-base-own, then-base-own+then-contains, else-base-own, else-base-own-via-then-base-own+else-contains, else-base-own-via-else-base-own}

-- whether one of the m members from base on is relation r, as `contains` says it
held : (members : List ℕ) (base m r : ℕ) (b : Bool) → b ≡ list_any (λ (x : ℕ). eqb x r) (take (base + m - base) (drop base members)) → elem r (take m (drop base members)) ≡ b
held members base m r b e =
    let k : base + m - base ≡ m = omega arith in
    let h = rw k at e in
    grind (arith, common_steps)

-- what holds of the queue after the turn of the combination at `base`: its pairs are added if it is visited
abbrev Turned : ℕ → List ℕ → ℕ → ℕ → List ℕ → List ℕ → Type 0
Turned m members p base ws vs = Words vs × WaitToo ws (adds m members p base) vs

turned : (c : Joined-base-own) → Turned c.args.m c.args.members.now c.args.p c.loop-base.base c.loop-base.queue.words c.if-base-own.queue.words
turned c =
    let m = c.args.m in
    let members = c.args.members.now in
    let p = c.args.p in
    let base = c.loop-base.base in
    let ws = c.loop-base.queue.words in
    let v = visits m members p base in
    let whole = c.requires.whole in
    let other = visits-other m members p whole base c.loop-base.invariant.multiple in
    elim c.if-base-own.branch [
      | then-base-own+then-contains w ↦
          let vs = w.put_others-queue.result.words in
          let e : v ≡ true = other w.if-base-own.true ∙ held members base m _ w.contains.result w.contains.ensures.value ∙ w.if-contains.true in
          rw w.queue-is (words_of vs (search rules) (λ i. search rules), wait-if (others base (base + m) members (pair_member members p)) v ws vs e w.put_others-queue.ensures)
      | else-base-own w ↦
          let none : v ≡ false → Turned m members p base ws ws = λ e. (c.loop-base.invariant.words, wait-not (others base (base + m) members (pair_member members p)) v ws e) in
          rw w.queue-is (elim w.else-base-own.branch [
            | else-base-own-via-then-base-own+else-contains u ↦ none (other u.if-base-own.true ∙ held members base m _ u.contains.result u.contains.ensures.value ∙ u.if-contains.false)
            | else-base-own-via-else-base-own u ↦ none (visits-own m members p whole base u.if-base-own.false)
          ])
    ]

-- .. and of the pairs of that combination and of those before it
wait-more : (c : Joined-base-own) → WaitToo c.args.queue.words (λ (h : ℕ). ltb h (c.loop-base.base + c.args.m) && queues c.args.m c.args.members.now c.args.p h) c.if-base-own.queue.words
wait-more c =
    let i = c.loop-base.invariant in
    let a = c.args in
    wait-then _ c.loop-base.queue.words _ _ (adds a.m a.members.now a.p c.loop-base.base) _ i.wait (turned c).1
    (λ h. queues-more a.m a.members.now a.p c.requires.whole c.loop-base.base h i.multiple)

pub loop-base-preserved : goal.loop-base-preserved
loop-base-preserved c = record {
  wait = wait-more (goal.at.loop-base-preserved c).Joined-base-own;
  words = (turned (goal.at.loop-base-preserved c).Joined-base-own).0;
  multiple = multiple-next c.args.m c.loop-base.base c.requires.whole.positive c.loop-base.invariant.multiple;
  within = omega arith;
}

pub returns-after-base-own : goal.returns-after-base-own
returns-after-base-own c =
    let a = c.args in
    λ q h. wait-more (goal.at.returns-after-base-own c).Joined-base-own q h ∙ ap (λ (x : Bool). is_live a.queue.words q || x) (queues-all a.m a.members.now a.p c.requires.whole (c.loop-base.base + a.m) q (omega arith))

pub returns : goal.returns
returns c =
    let a = c.args in
    λ q h. c.loop-base.invariant.wait q h ∙ ap (λ (x : Bool). is_live a.queue.words q || x) (queues-all a.m a.members.now a.p c.requires.whole c.loop-base.base q (omega arith))
