-- `take_one` seeks one tuple of the last member for one tuple that seeks.
-- From the laws of the last member and of one tuple's step.
use Rattle.std.proofs.Common.{◌≡◌, true, sym, ap, ap₂, subst, List, ℕ, ◌+◌, ◌-◌, ◌*◌, ◌∙◌, ◌≤◌, ◌<◌, length, take, set, arith}
use borrow.Kind.Array.{e_int, good_length}
use mir.Syntax.{w16}
use Rattle.model.specs.LiveWords.{is_live, cleared}
use Rattle.model.proofs.Bools.{not-both}
use Rattle.narrowing.specs.Narrows.{Long}
use Rattle.worklist.specs.Supports.{replaced}
use Rattle.support.specs.Search.{FittingAt, FirstFitting}
use Rattle.together.specs.Together.{Joint, net_of, tuple_at, size_at, own_at, numbers_at, Room, LastAt, AgreesAll, Completes, TakesOne}
use Rattle.together.proofs.Places.{joint_of, ids_at}
use Rattle.together.proofs.Frames.{takes_none, takes_one, seeks-no-more}
use Rattle.together.proofs.Last.{fitting-at, none-fits, none-clash, support, completes-last, lowest-last}
use Rattle.together.proofs.take_one.Goals as goal

module _ {Q : Joint} {index : List ℕ} {k : ℕ} {chosen : List ℕ} {x : ℕ} (A : LastAt Q index k chosen x) where
  -- the id of the tuple
  id-few : own_at Q x < 4096
  id-few = omega (arith, (ids_at A.turn.sound Q.place A.turn.sound.place).few, A.own)

  module _ (start : ℕ) (words pending numbers : List ℕ) (long : Long pending) where
    -- nothing is taken
    nothing : (is_live pending (own_at Q x) ≡ true → (is : List ℕ) → Completes Q k chosen words x is → ⊥) → TakesOne Q start k chosen words x pending pending numbers numbers
    nothing n = record { takes = takes_none Q start k chosen words pending numbers long; none = n }

    -- the support is taken
    module _ (sized : length chosen ≡ 4) (room : Room Q start (length numbers)) (seeks : is_live pending (own_at Q x) ≡ true) (lives : is_live words (own_at Q x) ≡ true) (first g : ℕ) (e : first ≡ tuple_at Q k 0) (F : FirstFitting (net_of Q) Q.members Q.place x k (set chosen Q.place x) words first g) (below : g < tuple_at Q k (size_at Q k)) (agrees : AgreesAll Q k chosen Q.place x) where
      abbrev found : List ℕ
      found = support A sized words first g e F below agrees

      abbrev stored : List ℕ
      stored = replaced numbers found (numbers_at Q start x) (length Q.members)

      taking : (pending_after numbers_after : List ℕ) → pending_after ≡ cleared (own_at Q x) pending → numbers_after ≡ stored → TakesOne Q start k chosen words x pending pending_after numbers numbers_after
      taking pending_after numbers_after p q =
          let C = completes-last A sized words first g e F below agrees in
          let l = lowest-last A sized words first g e F below agrees in
          subst (λ (ws : List ℕ). TakesOne Q start k chosen words x pending ws numbers numbers_after) (sym p)
          (subst (λ (ns : List ℕ). TakesOne Q start k chosen words x pending (cleared (own_at Q x) pending) numbers ns) (sym q)
          (record {
            takes = takes_one Q start k chosen words x A.own pending numbers found long room id-few seeks lives C l;
            none = λ i. absurd (seeks-no-more Q start k chosen words x A.own pending numbers found long room id-few seeks lives C l i);
          }))

pub overflow_add-id : goal.overflow_add-id
overflow_add-id c = let own = ids_at c.requires.long.1.turn.sound c.args.place c.requires.long.1.turn.sound.place in omega (arith, own.begin, id-few c.requires.long.1)

pub is_live-requires : goal.is_live-requires
is_live-requires c = let own = ids_at c.requires.long.1.turn.sound c.args.place c.requires.long.1.turn.sound.place in omega (arith, own.begin, id-few c.requires.long.1, c.requires.long.0.1)

pub returns-then-not-is_live : goal.returns-then-not-is_live
returns-then-not-is_live c =
    let A = c.requires.long.1 in
    let a = c.args in
    let Q = joint_of a.variables.now a.values.now a.starts.now a.members.now a.place in
    let own = ids_at A.turn.sound a.place A.turn.sound.place in
    let id : c.tuple_start.result + a.x ≡ own_at Q a.x = omega (arith, own.begin) in
    nothing A a.start a.words.now a.pending.now a.numbers.now c.requires.long.0.1
    (λ e. absurd (not-both e (ap (is_live a.pending.now) (sym id) ∙ sym c.is_live.ensures ∙ c.if-not-is_live.true)))

pub tuple_start-first-requires : goal.tuple_start-first-requires
tuple_start-first-requires c = let A = c.requires.long.1.turn in omega (arith, (ids_at A.sound c.args.k A.inside).relation)

pub first_fitting-g-requires : goal.first_fitting-g-requires
first_fitting-g-requires c =
    let A = c.requires.long.1 in
    let a = c.args in
    let Q = joint_of a.variables.now a.values.now a.starts.now a.members.now a.place in
    let last = ids_at A.turn.sound a.k A.turn.inside in
    let sized : length a.chosen ≡ 4 = good_length (e_int w16) 4 a.chosen _ c.well_formed.1.1.1.1.1.1.1.1.0 in (
      c.requires.long.0.0,
      subst (λ (own : List ℕ). FittingAt Q.lists a.index.now a.members.now a.place a.x a.k own c.tuple_start-first.result a.place a.x) (sym c.put-own.ensures)
          (fitting-at A sized c.tuple_start-first.result (c.tuple_start-first.ensures ∙ last.begin)),
    )

pub overflow_add-r : goal.overflow_add-r
overflow_add-r c = let A = c.requires.long.1.turn in omega (arith, (ids_at A.sound c.args.k A.inside).relation)

pub tuple_start-requires-2 : goal.tuple_start-requires-2
tuple_start-requires-2 c = let A = c.requires.long.1.turn in omega (arith, (ids_at A.sound c.args.k A.inside).relation)

pub clear-requires : goal.clear-requires
clear-requires c = let own = ids_at c.requires.long.1.turn.sound c.args.place c.requires.long.1.turn.sound.place in omega (arith, own.begin, id-few c.requires.long.1, c.requires.long.0.1)

pub returns-then-agrees_before : goal.returns-then-agrees_before
returns-then-agrees_before c =
    let A = c.requires.long.1 in
    let a = c.args in
    let Q = joint_of a.variables.now a.values.now a.starts.now a.members.now a.place in
    let own = ids_at A.turn.sound a.place A.turn.sound.place in
    let last = ids_at A.turn.sound a.k A.turn.inside in
    let sized : length a.chosen ≡ 4 = good_length (e_int w16) 4 a.chosen _ c.well_formed.1.1.1.1.1.1.1.1.0 in
    let m = length a.members.now in
    let first = c.tuple_start-first.result in
    let g = c.first_fitting-g.result in
    let id : c.tuple_start.result + a.x ≡ own_at Q a.x = omega (arith, own.begin) in
    let e : first ≡ tuple_at Q a.k 0 = c.tuple_start-first.ensures ∙ last.begin in
    let F : FirstFitting (net_of Q) a.members.now a.place a.x a.k (set a.chosen a.place a.x) a.words.now first g =
    subst (λ (own : List ℕ). FirstFitting (net_of Q) a.members.now a.place a.x a.k own a.words.now first g) c.put-own.ensures c.first_fitting-g.ensures in
    let below : g < tuple_at Q a.k (size_at Q a.k) = omega (arith, c.tuple_start-2.ensures, last.stop, c.if-g-tuple_start.true) in
    let agrees = c.agrees_before.ensures.right c.if-agrees_before.true in
    let seeks = ap (is_live a.pending.now) (sym id) ∙ sym c.is_live.ensures ∙ c.if-not-is_live.false in
    let kept = ap₂ (λ (t : List ℕ) (i : ℕ). replaced a.numbers.now (take m t) i m)
    (c.put.ensures ∙ ap (λ (t : List ℕ). set t a.k (g - first)) c.put-own.ensures)
    (ap (λ (y : ℕ). a.start + y * m) c.wide.ensures.0) in
    taking A a.start a.words.now a.pending.now a.numbers.now c.requires.long.0.1 sized c.requires.room.0 seeks c.requires.room.1 first g e F below agrees c.clear.new.words c.store.new.numbers
    (c.clear.ensures ∙ ap (λ (h : ℕ). cleared h a.pending.now) id) (c.store.ensures ∙ kept)

pub returns-else-agrees_before : goal.returns-else-agrees_before
returns-else-agrees_before c =
    let A = c.requires.long.1 in
    let a = c.args in
    let sized : length a.chosen ≡ 4 = good_length (e_int w16) 4 a.chosen _ c.well_formed.1.1.1.1.1.1.1.1.0 in
    nothing A a.start a.words.now a.pending.now a.numbers.now c.requires.long.0.1
    (λ e. none-clash A sized a.words.now c.agrees_before.result c.agrees_before.ensures c.if-agrees_before.false)

pub returns-else-g-tuple_start : goal.returns-else-g-tuple_start
returns-else-g-tuple_start c =
    let A = c.requires.long.1 in
    let a = c.args in
    let Q = joint_of a.variables.now a.values.now a.starts.now a.members.now a.place in
    let last = ids_at A.turn.sound a.k A.turn.inside in
    let sized : length a.chosen ≡ 4 = good_length (e_int w16) 4 a.chosen _ c.well_formed.1.1.1.1.1.1.1.1.0 in
    let first = c.tuple_start-first.result in
    let g = c.first_fitting-g.result in
    let F : FirstFitting (net_of Q) a.members.now a.place a.x a.k (set a.chosen a.place a.x) a.words.now first g =
    subst (λ (own : List ℕ). FirstFitting (net_of Q) a.members.now a.place a.x a.k own a.words.now first g) c.put-own.ensures c.first_fitting-g.ensures in
    let past : tuple_at Q a.k (size_at Q a.k) ≤ g = omega (arith, c.tuple_start-2.ensures, last.stop, c.if-g-tuple_start.false) in
    nothing A a.start a.words.now a.pending.now a.numbers.now c.requires.long.0.1
    (λ e. none-fits A sized a.words.now first g (c.tuple_start-first.ensures ∙ last.begin) F past)
