-- `seek` goes from one tuple of a member to the next, and `seek_with` chooses it.
-- From what `take_last` and `choose` ensure, and the laws of the walk over a member's tuples and of words narrowed for one.
use Rattle.std.proofs.Common.{◌≡◌, List, ℕ, ◌-◌, ◌∙◌, ◌<◌, length, set, sym, subst, arith}
use borrow.Kind.Array.{e_int, good_length}
use mir.Syntax.{w16}
use Rattle.live.proofs.Ahead.{next-id, next-ahead, none-left}
use Rattle.support.specs.Search.{place_behind}
use Rattle.support.proofs.Own.{behind-within}
use Rattle.together.specs.Together.{Room, SeekAt, Seeks}
use Rattle.together.proofs.Places.{joint_of, span, span-asked, span-ahead, span-id, behind, chosen_more}
use Rattle.together.proofs.Choosing.{seeks-wider}
use Rattle.together.proofs.Turn.{reached-first, reached-next, reached-end}
use Rattle.together.proofs.+seek_seek_with.Goals as goal

-- ---- The tuples of a member

pub seek-live_ids-g-items-requires : goal.seek-live_ids-g-items-requires
seek-live_ids-g-items-requires t c =
    let T = c.requires.long.1 in
    span-asked (span T.sound c.args.k T.inside _ _ c.tuple_start-first.ensures c.tuple_start-end.ensures) c.args.words.now c.requires.long.0.0

pub seek-loop-g-init : goal.seek-loop-g-init
seek-loop-g-init t c =
    let a = c.args in
    let T = c.requires.long.1 in
    let own = span T.sound a.k T.inside _ _ c.tuple_start-first.ensures c.tuple_start-end.ensures in
    let ids = c.live_ids-g-items.ensures in
    rw c.into_iter-g-iterator.ensures.into_iter_gives
    (record {
      ahead = span-ahead own ids.words ids.start ids.end;
      reached = reached-first T a.start a.words.now a.pending.now a.numbers.now a.steps _ c.requires.long.0.1 (ids.start ∙ own.begin);
    })

pub seek-seek_with-left-requires : goal.seek-seek_with-left-requires
seek-seek_with-left-requires t c =
    let a = c.args in
    let T = c.requires.long.1 in
    let l = c.loop-g.invariant in
    let own = span T.sound a.k T.inside _ _ c.tuple_start-first.ensures c.tuple_start-end.ensures in
    let id = span-id own l.ahead (next-id l.ahead c.in-Some.ensures.steps) in
    let on : place_behind a.place a.k < length a.members.now = omega (arith, behind-within a.place a.k (length a.members.now) T.inside T.sound.place, c.place_behind.ensures, c.if-place_behind-members.false) in
    let room = l.reached.takes.frames.room in (
      omega (arith, c.decreases),
      (
        ((c.requires.long.0.0, l.reached.takes.frames.long), record { turn = T; index_in = id.1 }),
        (subst (Room (joint_of a.variables.now a.values.now a.starts.now a.members.now a.place) a.start) (sym room) c.requires.room, on),
      ),
    )

pub seek-loop-g-preserved : goal.seek-loop-g-preserved
seek-loop-g-preserved t c =
    let a = c.args in
    let T = c.requires.long.1 in
    let l = c.loop-g.invariant in
    let sized : length a.chosen ≡ 4 = good_length (e_int w16) 4 a.chosen _ c.well_formed.1.1.1.1.1.1.1.1.0 in
    let own = span T.sound a.k T.inside _ _ c.tuple_start-first.ensures c.tuple_start-end.ensures in
    let g = next-id l.ahead c.in-Some.ensures.steps in
    let y = c.in-Some.g - c.tuple_start-first.result in
    record {
      ahead = next-ahead l.ahead c.in-Some.ensures.steps;
      reached = reached-next T a.start a.words.now a.pending.now a.numbers.now sized l.reached c.if-left-eq0.false g y (span-id own l.ahead g).0 c.seek_with-left.ensures;
    }

pub seek-returns : goal.seek-returns
seek-returns t c =
    let a = c.args in
    let T = c.requires.long.1 in
    let l = c.loop-g.invariant in
    let own = span T.sound a.k T.inside _ _ c.tuple_start-first.ensures c.tuple_start-end.ensures in
    reached-end T a.start a.words.now a.pending.now a.numbers.now l.reached _ own.stop (none-left l.ahead c.in-None.ensures.steps)

-- ---- With one tuple

pub seek_with-seek-requires : goal.seek_with-seek-requires
seek_with-seek-requires t c =
    let a = c.args in
    let Q = joint_of a.variables.now a.values.now a.starts.now a.members.now a.place in
    let A = c.requires.long.1 in
    let T = A.turn in
    let sized : length a.chosen ≡ 4 = good_length (e_int w16) 4 a.chosen _ c.well_formed.1.1.1.1.1.1.1.1.0 in
    let B = behind Q a.k T.other in
    let turn : SeekAt Q a.index.now (place_behind a.place a.k) (set a.chosen a.k a.y) = record {
      sound = T.sound;
      inside = c.requires.room.1;
      other = B.other;
      begun = chosen_more Q a.k a.chosen a.y (omega (arith, sized, T.inside, T.sound.members.few)) T.other T.begun A.index_in (c.choose.ensures.agrees c.if-not-choose.false);
    } in (
      omega (arith, c.decreases, c.place_behind-on.ensures, B.past, c.requires.room.1),
      (
        (
          (c.choose.ensures.long, c.requires.long.0.1),
          subst (λ (on : ℕ). SeekAt Q a.index.now on c.put.result) (sym c.place_behind-on.ensures)
              (subst (SeekAt Q a.index.now (place_behind a.place a.k)) (sym c.put.ensures) turn),
        ),
        c.requires.room.0,
      ),
    )

pub seek_with-returns : goal.seek_with-returns
seek_with-returns t c =
    let a = c.args in
    let Q = joint_of a.variables.now a.values.now a.starts.now a.members.now a.place in
    let sized : length a.chosen ≡ 4 = good_length (e_int w16) 4 a.chosen _ c.well_formed.1.1.1.1.1.1.1.1.0 in
    let fewer = c.choose.new.words in
    let pending = c.seek.new.pending in
    let numbers = c.seek.new.numbers in
    let sought : Seeks Q a.start (place_behind a.place a.k) (set a.chosen a.k a.y) fewer a.pending.now pending a.numbers.now numbers c.seek.result =
    subst (λ (on : ℕ). Seeks Q a.start on (set a.chosen a.k a.y) fewer a.pending.now pending a.numbers.now numbers c.seek.result) c.place_behind-on.ensures
    (subst (λ (ts : List ℕ). Seeks Q a.start c.place_behind-on.result ts fewer a.pending.now pending a.numbers.now numbers c.seek.result) c.put.ensures c.seek.ensures) in
    seeks-wider c.requires.long.1 sized a.pending.now a.words.now fewer (c.choose.ensures.inside, c.choose.ensures.keeps) sought
