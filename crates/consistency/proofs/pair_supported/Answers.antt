-- Every live tuple passed has a support: from what `has_support` ensures, the laws of the test of one pair, and those of the next live id.
use Rattle.std.proofs.Common.{◌≡◌, ℕ, ◌+◌, ◌*◌, ◌/◌, ◌%◌, ◌≤◌, ◌<◌, List, length, get_or, take, drop, Some, refl, sym, subst, ◌∙◌, arith}
use native.Mathlib.Nat.{add-sub_cancel_left}
use borrow.Author.Tests.{eq-eqb, ne_eqb}
use Rattle.model.specs.Combination.{pair_member}
use Rattle.live.specs.Ids.{TakesLive}
use Rattle.live.proofs.Ahead.{Ahead, next-id, next-ahead, none-left}
use Rattle.layout.specs.Starts.{tuple_start}
use Rattle.layout.specs.Setting.{Setting, setting, network}
use Rattle.layout.specs.Pairs.{combination_of}
use Rattle.layout.proofs.SoundStarts.{tuples-few}
use Rattle.layout.proofs.Pairs.{base-within, member_below}
use Rattle.layout.proofs.Rows.{Row, row-of, row-asks}
use Rattle.narrowing.specs.Narrows.{Long}
use Rattle.spreading.specs.Spread.{Numbers}
use Rattle.spreading.specs.Fresh.{Meets}
use Rattle.spreading.proofs.Numbers.{pair-numbers}
use Rattle.spreading.proofs.Kept.{member_below as member-few}
use Rattle.spreading.proofs.Meeting.{meets-fewer}
use Rattle.support.specs.Search.{is_found}
use Rattle.support.proofs.Spent.{meets-ones}
use Rattle.lean.specs.Lean.{LeanFrom}
use Rattle.lean.proofs.Leaner.{pair-asks, lean-same, lean-both}
use Rattle.consistency.specs.Consistent.{has_support, PairAt}
use Rattle.consistency.proofs.Pairs.{Passed, LeanIn, WalkAt, words-enough, searched, searched-sound, searched-lean, walk-at, walk-goes, walk-fails, walk_ends}
use Rattle.consistency.proofs.pair_supported.Goals as goal

-- ---- The pair

module _ {G : Setting} {index : List ℕ} {p : ℕ} (Q : PairAt G index p) where
  within : p / G.m * G.m + G.m ≤ length G.members
  within = base-within Q.sound.laid.framed Q.sound.paired p Q.pair

  few : get_or G.members p 0 < 64
  few = member_below Q.sound.laid.framed Q.sound.paired p Q.pair

  row : {first end : ℕ} → first ≡ tuple_start G.lists.starts (pair_member G.members p) → end ≡ tuple_start G.lists.starts (pair_member G.members p + 1) → Row G p first end
  row {first} {end} f e = row-of Q.sound p first end Q.pair f e

pub steps_of_pair-steps-requires : goal.steps_of_pair-steps-requires
steps_of_pair-steps-requires c = let Q = c.requires.1 in pair-numbers Q.sound.laid.framed Q.sound.paired c.args.p Q.pair

pub tuple_start-first-requires : goal.tuple_start-first-requires
tuple_start-first-requires c = omega (arith, few c.requires.1)

pub overflow_add-r : goal.overflow_add-r
overflow_add-r c = omega (arith, few c.requires.1)

pub tuple_start-end-requires : goal.tuple_start-end-requires
tuple_start-end-requires c = omega (arith, few c.requires.1)

pub slice_bounds-has_support-end : goal.slice_bounds-has_support-end
slice_bounds-has_support-end c = within c.requires.1

pub slice_bounds-lean_once_hard-end : goal.slice_bounds-lean_once_hard-end
slice_bounds-lean_once_hard-end c = within c.requires.1

pub slice_bounds-steps_once_hard-end : goal.slice_bounds-steps_once_hard-end
slice_bounds-steps_once_hard-end c = within c.requires.1

-- ---- One turn

-- The walk over the pair's row has come to live id g.
record Turn (G : Setting) (words : List ℕ) (p first end g : ℕ) : Type 0 where
  long : Long words
  row : Row G p first end
  walk : WalkAt G words p first end g
  below : g < end

turn : {G : Setting} {words : List ℕ} {p first end : ℕ} → Long words → Row G p first end → {words' : List ℕ} {at end' : ℕ} → Ahead words first end words' at end' → Passed G words p first at → {g : ℕ} {words₁ : List ℕ} {at₁ end₁ : ℕ} → TakesLive words' at end' (Some g) words₁ at₁ end₁ → Turn G words p first end g
turn {words = words} long row ahead passed takes =
    let g = next-id ahead takes in
    record {
      long = long;
      row = row;
      walk = walk-at words long row passed ahead.from g.from (omega (arith, g.below)) (λ l. g.live) g.none_before;
      below = g.below;
    }

-- what is answered of the tuple at g
answered : {G : Setting} {words : List ℕ} {p first end g : ℕ} (t : Turn G words p first end g) (kind : ℕ) {lean : List ℕ} → LeanIn G p words lean → is_found kind ≡ has_support (searched words t.long t.row t.walk t.below lean) → is_found kind ≡ has_support (searched words t.long t.row t.walk t.below words)
answered {words = words} t kind L e = e ∙ searched-lean words t.long t.row t.walk t.below L

pub has_support-kind-requires : goal.has_support-kind-requires
has_support-kind-requires c =
    let i = c.loop-g.invariant in
    let t = turn c.requires.0 (row c.requires.1 c.tuple_start-first.ensures c.tuple_start-end.ensures) i.ahead i.passed c.in-Some.ensures.steps in
    record {
      long = (i.lean.long, record { sound = rw add-sub_cancel_left (searched-sound c.args.words.now t.long t.row t.walk t.below i.lean.long); indexed = c.requires.1.indexed });
      long_2 = (i.fresh.0, rw add-sub_cancel_left i.fresh.1);
      long_3 = (i.candidates, i.spare);
    }

pub returns-then-kind-ne-FOUND : goal.returns-then-kind-ne-FOUND
returns-then-kind-ne-FOUND c =
    let i = c.loop-g.invariant in
    let kind = c.has_support-kind.result in
    let t = turn c.requires.0 (row c.requires.1 c.tuple_start-first.ensures c.tuple_start-end.ensures) i.ahead i.passed c.in-Some.ensures.steps in
    walk-fails c.args.words.now t.long t.row t.walk t.below
    (sym (ne_eqb (kind % 2) 1 c.if-kind-ne-FOUND.true) ∙ answered t kind i.lean (rw add-sub_cancel_left at c.has_support-kind.ensures.result_value))

pub lean_once_hard-tried-requires : goal.lean_once_hard-tried-requires
lean_once_hard-tried-requires c =
    (c.loop-g.invariant.lean.long, rw add-sub_cancel_left (pair-asks c.requires.1.sound c.args.p c.requires.1.pair))

pub steps_once_hard-steps-requires : goal.steps_once_hard-steps-requires
steps_once_hard-steps-requires c =
    let a = c.args in
    let G : Setting = setting (λ xs. xs) a.variables.now a.values.now a.starts.now a.members.now a.m in
    let E = pair-asks c.requires.1.sound a.p c.requires.1.pair in
    let numbers : Numbers (combination_of G a.p) = (E.members.few, λ j h. member-few E.laid E.members j h) in
    (c.lean_once_hard-tried.ensures.0.long, rw add-sub_cancel_left (c.requires.1.sound.laid, (numbers, E.inside)))

-- ---- The walk

pub live_ids-g-items-requires : goal.live_ids-g-items-requires
live_ids-g-items-requires c =
    let words = c.args.words.now in
    let R = row c.requires.1 c.tuple_start-first.ensures c.tuple_start-end.ensures in
    row-asks R words c.tuple_start-first.result (words-enough words c.requires.0 R) (omega (arith, R.is-end))

pub loop-g-init : goal.loop-g-init
loop-g-init c =
    let a = c.args in
    let G : Setting = setting (λ xs. xs) a.variables.now a.values.now a.starts.now a.members.now a.m in
    let C = combination_of G a.p in
    let R = row c.requires.1 c.tuple_start-first.ensures c.tuple_start-end.ensures in
    let ids = c.live_ids-g-items.ensures in
    rw c.into_iter-g-iterator.ensures.into_iter_gives
    (record {
      ahead = record { same_words = ids.words; same_end = ids.end; from = omega (arith, ids.start); to_end = omega (arith, ids.start, R.is-end) };
      passed = λ i low high _. absurd (omega (arith, ids.start, low, high));
      fresh = (refl, meets-ones (network G) (tuples-few c.requires.1.sound.laid.framed) C (a.p % a.m) a.words.now);
      lean = (lean-same G.lists C (a.p % a.m) a.words.now c.requires.0).0;
      candidates = refl;
      spare = refl;
    })

pub loop-g-preserved : goal.loop-g-preserved
loop-g-preserved c =
    let a = c.args in
    let G : Setting = setting (λ xs. xs) a.variables.now a.values.now a.starts.now a.members.now a.m in
    let C = combination_of G a.p in
    let base = a.p / a.m * a.m in
    let place = a.p % a.m in
    let i = c.loop-g.invariant in
    let g = next-id i.ahead c.in-Some.ensures.steps in
    let t = turn c.requires.0 (row c.requires.1 c.tuple_start-first.ensures c.tuple_start-end.ensures) i.ahead i.passed c.in-Some.ensures.steps in
    let kind = c.has_support-kind.result in
    let found = sym (eq-eqb (kind % 2) 1 c.if-kind-ne-FOUND.false) ∙ answered t kind i.lean (rw add-sub_cancel_left at c.has_support-kind.ensures.result_value) in
    let lean = c.loop-g.lean in
    let after = c.lean_once_hard-tried.new.words in
    let leaner : LeanFrom G.lists C place lean after = rw add-sub_cancel_left at c.lean_once_hard-tried.ensures in
    let fresh = c.has_support-kind.new.fresh in
    let met : 1 < length C → Meets (network G) C place lean fresh =
    subst (λ (n : ℕ). let part = take n (drop base a.members.now) in 1 < length part → Meets (network G) part place lean fresh) (add-sub_cancel_left base a.m) c.has_support-kind.ensures.long_4.1 in
    record {
      ahead = next-ahead i.ahead c.in-Some.ensures.steps;
      passed = rw g.behind (walk-goes a.words.now t.long t.row t.walk t.below found);
      fresh = (c.has_support-kind.ensures.long_4.0, λ two. meets-fewer (network G) C place lean after fresh leaner.1 (met two));
      lean = lean-both G.lists C place i.lean leaner.0;
      candidates = c.has_support-kind.ensures.long_5.0;
      spare = c.has_support-kind.ensures.long_5.1;
    }

pub returns : goal.returns
returns c =
    let words = c.args.words.now in
    let i = c.loop-g.invariant in
    let R = row c.requires.1 c.tuple_start-first.ensures c.tuple_start-end.ensures in
    let end = c.tuple_start-end.result in
    walk_ends words c.requires.0 R
    (walk-at words c.requires.0 R {g = end} i.passed i.ahead.from (omega (arith, i.ahead.to_end)) (omega arith) (λ l. absurd (omega (arith, l))) (none-left i.ahead c.in-None.ensures.steps))
    (omega arith)
