-- `refuted` goes through the live tuples of one member, and `refuted_with` shows that one of them leads to nothing, by the laws of refutation.
use Rattle.std.proofs.Common.{◌≡◌, false, List, ℕ, ◌+◌, ◌-◌, ◌/◌, ◌%◌, ◌^◌, ◌≤◌, ◌<◌, eqb, length, get_or, sym, ◌∙◌, ap, arith}
use Rattle.model.specs.Network.{size, first_id}
use Rattle.model.specs.LiveWords.{bit, is_set}
use Rattle.model.proofs.Bools.{not-both}
use Rattle.live.proofs.Ahead.{next-id, next-ahead, none-left}
use Rattle.layout.specs.Starts.{tuple_start}
use Rattle.layout.specs.Setting.{Lists, network_in}
use Rattle.layout.proofs.SoundStarts.{tuple-start, tuple-end, ids-few}
use Rattle.spreading.proofs.Kept.{member_below}
use Rattle.refuting.specs.Refuted.{Without, Left, Refutable, Taken}
use Rattle.refuting.proofs.Refutation.{without-out, others-left, with-clash, with-unmet, with-bare, with-refuted, past-none, past_on, past_one, past_all}
use Rattle.refuting.proofs.+refuted_refuted_with.Goals as goal

-- ---- The member that is taken

-- Its place is left, and its ids are these.
record Chosen (L : Lists) (c : List ℕ) (left best first end : ℕ) : Type 0 where
  at : Left c left best
  begin : first ≡ first_id (network_in L) (get_or c best 0)
  stop : end ≡ first_id (network_in L) (get_or c best 0) + size (network_in L) (get_or c best 0)
  few : end ≤ 4096

chosen : {L : Lists} {index c : List ℕ} {place own : ℕ} → Refutable L index c place own → (left best first end : ℕ) → Left c left best → first ≡ tuple_start L.starts (get_or c best 0) → end ≡ tuple_start L.starts (get_or c best 0 + 1) → Chosen L c left best first end
chosen {L} {c = c} asked left best first end at ef et =
    let framed = asked.0.0.0.laid.framed in
    let r = get_or c best 0 in
    let h : r < 64 = member_below asked.0.0.0.laid asked.0.0.1 best at.inside in
    record {
      at = at;
      begin = ef ∙ tuple-start framed r (omega arith);
      stop = et ∙ tuple-end framed r h;
      few = omega (arith, et, ids-few framed r h);
    }

-- the tuple with id g
taken : {L : Lists} {c : List ℕ} {left best first end : ℕ} → Chosen L c left best first end → (place rest g : ℕ) → Without left best rest → is_set left place ≡ false → first ≤ g → g < end → Taken (network_in L) c place rest best (g - first)
taken {L} {c} {left} {best} {first} K place rest g D d l h =
    record {
      inside = K.at.inside;
      other = λ e. not-both K.at.in-set (ap (is_set left) e ∙ d);
      index = omega (arith, K.begin, K.stop);
      gone = D.gone;
      not_own = without-out D place d;
    }

pub refuted-live_ids-g-items-requires : goal.refuted-live_ids-g-items-requires
refuted-live_ids-g-items-requires t c =
    let K = chosen c.requires.long.1 c.args.left c.in-Some.best _ _ c.in-Some.ensures c.tuple_start-first.ensures c.tuple_start-end.ensures in
    (omega (arith, K.begin, K.stop), omega (arith, K.few, c.told-words), K.few)

pub refuted-loop-g-init : goal.refuted-loop-g-init
refuted-loop-g-init t c =
    let a = c.args in
    let N = network_in (record { variables = a.variables.now; values = a.values.now; starts = a.starts.now }) in
    let best = c.in-Some.best in
    let K = chosen c.requires.long.1 a.left best _ _ c.in-Some.ensures c.tuple_start-first.ensures c.tuple_start-end.ensures in
    let ids = c.live_ids-g-items.ensures in
    rw c.into_iter-g-iterator.ensures.into_iter_gives
    (record {
      ahead = record { same_words = ids.words; same_end = ids.end; from = omega (arith, ids.start); to_end = omega (arith, ids.start, K.begin, K.stop) };
      fewer = omega arith;
      past = λ u C. let p = past-none N a.members.now a.place a.own a.words.now a.left best K.at u C in omega (arith, p, K.begin, ids.start);
    })

pub refuted-refuted_with-over-requires : goal.refuted-refuted_with-over-requires
refuted-refuted_with-over-requires t c =
    let K = chosen c.requires.long.1 c.args.left c.in-Some.best _ _ c.in-Some.ensures c.tuple_start-first.ensures c.tuple_start-end.ensures in
    let i = c.loop-g.invariant in
    let g = next-id i.ahead c.in-Some-g.ensures.steps in
    (omega (arith, c.decreases, i.fewer), (c.requires.long, taken K c.args.place c.without-rest.result c.in-Some-g.g c.without-rest.ensures c.requires.place_value (omega (arith, g.from, i.ahead.from)) g.below))

pub refuted-loop-g-preserved : goal.refuted-loop-g-preserved
refuted-loop-g-preserved t c =
    let a = c.args in
    let N = network_in (record { variables = a.variables.now; values = a.values.now; starts = a.starts.now }) in
    let i = c.loop-g.invariant in
    let best = c.in-Some.best in
    let id = c.in-Some-g.g in
    let K = chosen c.requires.long.1 a.left best _ _ c.in-Some.ensures c.tuple_start-first.ensures c.tuple_start-end.ensures in
    let g = next-id i.ahead c.in-Some-g.ensures.steps in
    record {
      ahead = next-ahead i.ahead c.in-Some-g.ensures.steps;
      fewer = omega (arith, c.refuted_with-over.ensures.0, i.fewer);
      past = rw g.behind
          (past_one N a.members.now a.place a.own a.words.now a.left best K.at c.without-rest.result (id - c.tuple_start-first.result) id c.without-rest.ensures
          (omega (arith, K.begin, g.from, i.ahead.from))
          (c.refuted_with-over.ensures.1 c.if-over-eq0.false)
          (past_on N a.members.now a.place a.own a.words.now a.left best K.at i.past g.none_before));
    }

pub refuted-returns : goal.refuted-returns
refuted-returns t c =
    let a = c.args in
    let N = network_in (record { variables = a.variables.now; values = a.values.now; starts = a.starts.now }) in
    let best = c.in-Some.best in
    let K = chosen c.requires.long.1 a.left best _ _ c.in-Some.ensures c.tuple_start-first.ensures c.tuple_start-end.ensures in
    let i = c.loop-g.invariant in
    let none = none-left i.ahead c.in-None.ensures.steps in
    (i.fewer, λ d. past_all N a.members.now a.place a.own a.words.now a.left best K.at c.tuple_start-end.result (omega (arith, K.stop)) (past_on N a.members.now a.place a.own a.words.now a.left best K.at i.past none))

-- ---- With one tuple

-- the last member left
last-left : (members : List ℕ) (left last : ℕ) → last < length members → left / 2 ^ last ≡ 1 → Left members left last
unfolding is_set bit
last-left members left last h e = record { inside = h; in-set = ap (λ (n : ℕ). eqb (n % 2) 1) e }

pub refuted_with-returns-then-not-tuples_agree : goal.refuted_with-returns-then-not-tuples_agree
refuted_with-returns-then-not-tuples_agree t c =
    let a = c.args in
    let N = network_in (record { variables = a.variables.now; values = a.values.now; starts = a.starts.now }) in
    let asked = c.requires.long.1 in
    (omega arith, λ d. with-clash N a.members.now a.place a.own a.words.now a.left a.i a.x asked.0.1 c.requires.taken (sym c.tuples_agree.ensures ∙ c.if-not-tuples_agree.true))

pub refuted_with-meets-requires-clause-long : goal.refuted_with-meets-requires-clause-long
refuted_with-meets-requires-clause-long t c =
    let asked = c.requires.long.1 in
    let at = last-left c.args.members.now c.args.left _ c.if-members-last.false c.if-left-last-eq1.true in
    (c.requires.long.0, (record { laid = asked.0.0.0.laid; indexed = asked.0.0.0.indexed; own = c.requires.taken.index }, member_below asked.0.0.0.laid asked.0.0.1 _ at.inside))

pub refuted_with-returns-then-left-last-eq1 : goal.refuted_with-returns-then-left-last-eq1
refuted_with-returns-then-left-last-eq1 t c =
    let a = c.args in
    let N = network_in (record { variables = a.variables.now; values = a.values.now; starts = a.starts.now }) in
    let asked = c.requires.long.1 in
    let at = last-left a.members.now a.left _ c.if-members-last.false c.if-left-last-eq1.true in
    (omega arith, λ d. with-unmet N a.members.now a.place a.own a.words.now a.left a.i a.x asked.0.1 c.requires.taken _ at (c.meets.ensures c.if-meets.false))

pub refuted_with-narrow_left-requires : goal.refuted_with-narrow_left-requires
refuted_with-narrow_left-requires t c =
    let asked = c.requires.long.1 in (
      c.requires.long.0,
      (
        record { laid = asked.0.0.0.laid; indexed = asked.0.0.0.indexed; own = c.requires.taken.index },
        (others-left asked.0.0.0.laid asked.0.0.1 c.requires.taken, omega (arith, asked.0.0.1.few)),
      ),
    )

pub refuted_with-returns-then-not-narrow_left : goal.refuted_with-returns-then-not-narrow_left
refuted_with-returns-then-not-narrow_left t c =
    let a = c.args in
    let N = network_in (record { variables = a.variables.now; values = a.values.now; starts = a.starts.now }) in
    let asked = c.requires.long.1 in
    let narrowed = c.narrow_left.ensures.1 in
    (omega arith, λ d. with-bare N a.members.now a.place a.own a.words.now a.left a.i a.x asked.0.1 c.requires.taken c.narrow_left.new.words narrowed.0 (narrowed.1 c.if-not-narrow_left.true))

pub refuted_with-refuted-requires : goal.refuted_with-refuted-requires
refuted_with-refuted-requires t c = (omega (arith, c.decreases), ((c.narrow_left.ensures.0, c.requires.long.1), c.requires.taken.not_own))

pub refuted_with-returns : goal.refuted_with-returns
refuted_with-returns t c =
    let a = c.args in
    let N = network_in (record { variables = a.variables.now; values = a.values.now; starts = a.starts.now }) in
    let asked = c.requires.long.1 in
    (omega (arith, c.refuted.ensures.0), λ d. with-refuted N a.members.now a.place a.own a.words.now a.left a.i a.x asked.0.1 c.requires.taken c.narrow_left.new.words c.narrow_left.ensures.1.0 (c.refuted.ensures.1 d))
