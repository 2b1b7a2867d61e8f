-- From what `attempt_first` and `next` ensure, and the laws of one member's turn and of the next live id.
use Rattle.std.proofs.Common.{◌+◌, ◌%◌, refl, arith, rules}
use borrow.Author.Tests.{eq-eqb, ne_eqb}
use Rattle.model.proofs.Bools.{not-both}
use Rattle.live.proofs.Ahead.{next-id}
use Rattle.support.proofs.Turn.{turn_at, walk-asks, come-from, come-next, come-attempt, walks-found, tried-none, passed-none, come-taken, passed-more, come-end}
use Rattle.support.proofs.walk.Goals as goal

pub live_ids-g-items-requires : goal.live_ids-g-items-requires
live_ids-g-items-requires c =
    let T = turn_at c.requires.long.1 (search rules) (search rules) c.tuple_start-first.ensures c.tuple_start-end.ensures in
    let C = c.requires.walk_at.0 in
    walk-asks T c.args.from C.from_start (omega (arith, C.to_end, T.is-end))

pub loop-g-init : goal.loop-g-init
loop-g-init c =
    let T = turn_at c.requires.long.1 (search rules) (search rules) c.tuple_start-first.ensures c.tuple_start-end.ensures in
    let ids = c.live_ids-g-items.ensures in
    rw c.into_iter-g-iterator.ensures.into_iter_gives
    (record { passed = passed-none T c.requires.walk_at.0 ids.words ids.start ids.end; fewer = omega arith; room = c.requires.long_2.0 })

pub overflow_sub-g : goal.overflow_sub-g
overflow_sub-g c =
    let T = turn_at c.requires.long.1 (search rules) (search rules) c.tuple_start-first.ensures c.tuple_start-end.ensures in
    let C = come-taken T c.requires.walk_at.0 c.loop-g.invariant.passed c.in-Some.ensures.steps in
    (come-from T c.in-Some.g C).0

pub attempt_first-found-requires : goal.attempt_first-found-requires
attempt_first-found-requires c =
    let T = turn_at c.requires.long.1 (search rules) (search rules) c.tuple_start-first.ensures c.tuple_start-end.ensures in
    let P = c.loop-g.invariant.passed in
    let takes = c.in-Some.ensures.steps in
    record {
      long = (c.requires.long.0, come-attempt T c.in-Some.g (come-taken T c.requires.walk_at.0 P takes) (next-id P.ahead takes).below c.requires.long.1 c.requires.walk_at.1);
      long_2 = (c.loop-g.invariant.room, c.requires.long_2.1);
    }

pub returns-then-kind-eq-FOUND : goal.returns-then-kind-eq-FOUND
returns-then-kind-eq-FOUND c =
    let T = turn_at c.requires.long.1 (search rules) (search rules) c.tuple_start-first.ensures c.tuple_start-end.ensures in
    let P = c.loop-g.invariant.passed in
    let takes = c.in-Some.ensures.steps in
    let f = c.attempt_first-found.result in
    record {
      walks = walks-found T c.in-Some.g (come-taken T c.requires.walk_at.0 P takes) (next-id P.ahead takes).below f c.attempt_first-found.ensures.attempts (eq-eqb (f.kind % 2) 1 c.if-kind-eq-FOUND.true);
      long_3 = c.attempt_first-found.ensures.long_3;
    }

pub overflow_add-failures : goal.overflow_add-failures
overflow_add-failures c =
    let T = turn_at c.requires.long.1 (search rules) (search rules) c.tuple_start-first.ensures c.tuple_start-end.ensures in
    let P = c.loop-g.invariant.passed in
    let g = next-id P.ahead c.in-Some.ensures.steps in
    let C = c.requires.walk_at.0 in
    omega (arith, c.loop-g.invariant.fewer, g.from, g.below, walk-asks T c.args.from C.from_start (omega (arith, C.to_end, T.is-end)))

pub next-requires-then-kind-ge-HARD : goal.next-requires-then-kind-ge-HARD
next-requires-then-kind-ge-HARD c =
    let T = turn_at c.requires.long.1 (search rules) (search rules) c.tuple_start-first.ensures c.tuple_start-end.ensures in
    let P = c.loop-g.invariant.passed in
    let takes = c.in-Some.ensures.steps in
    let g = next-id P.ahead takes in
    walk-asks T (c.in-Some.g + 1) (omega (arith, (come-taken T c.requires.walk_at.0 P takes).from_start)) (omega (arith, g.below))

pub returns-then-kind-ge-HARD : goal.returns-then-kind-ge-HARD
returns-then-kind-ge-HARD c =
    let T = turn_at c.requires.long.1 (search rules) (search rules) c.tuple_start-first.ensures c.tuple_start-end.ensures in
    let P = c.loop-g.invariant.passed in
    let takes = c.in-Some.ensures.steps in
    let f = c.attempt_first-found.result in
    let C = come-taken T c.requires.walk_at.0 P takes in
    let below = (next-id P.ahead takes).below in
    let none = tried-none T c.in-Some.g C below f c.attempt_first-found.ensures.attempts (ne_eqb (f.kind % 2) 1 c.if-kind-eq-FOUND.false) in
    record {
      walks = record { found = λ e. absurd (not-both e refl); on = λ _. rw c.next-then-kind-ge-HARD.ensures (come-next T c.in-Some.g C below none) };
      long_3 = c.attempt_first-found.ensures.long_3;
    }

pub loop-g-preserved : goal.loop-g-preserved
loop-g-preserved c =
    let T = turn_at c.requires.long.1 (search rules) (search rules) c.tuple_start-first.ensures c.tuple_start-end.ensures in
    let P = c.loop-g.invariant.passed in
    let takes = c.in-Some.ensures.steps in
    let g = next-id P.ahead takes in
    let f = c.attempt_first-found.result in
    let none = tried-none T c.in-Some.g (come-taken T c.requires.walk_at.0 P takes) g.below f c.attempt_first-found.ensures.attempts (ne_eqb (f.kind % 2) 1 c.if-kind-eq-FOUND.false) in
    record { passed = passed-more T c.requires.walk_at.0 P takes none; fewer = omega (arith, c.loop-g.invariant.fewer, g.from, g.behind); room = c.attempt_first-found.ensures.long_3 }

pub returns : goal.returns
returns c =
    let T = turn_at c.requires.long.1 (search rules) (search rules) c.tuple_start-first.ensures c.tuple_start-end.ensures in
    record {
      walks = record { found = λ e. absurd (not-both e refl); on = λ _. come-end T c.requires.walk_at.0 c.loop-g.invariant.passed c.in-None.ensures.steps };
      long_3 = c.loop-g.invariant.room;
    }
