-- `take_last` takes the tuples that seek one after the other.
-- From what `take_one` ensures, and the laws of the walk over the seeking tuples.
use Rattle.std.proofs.Common.{◌-◌, ◌∙◌, sym, ap, subst}
use Rattle.model.specs.LiveWords.{is_live}
use Rattle.live.proofs.Ahead.{next-id, next-ahead, none-left}
use Rattle.together.specs.Together.{Room}
use Rattle.together.proofs.Places.{joint_of, span, span-asked, span-ahead, span-id}
use Rattle.together.proofs.Turn.{passed-first, passed-next, passed-end}
use Rattle.together.proofs.take_last.Goals as goal

pub live_ids-g-items-requires : goal.live_ids-g-items-requires
live_ids-g-items-requires c =
    let S = c.requires.long.1.sound in
    span-asked (span S c.args.place S.place _ _ c.tuple_start-first.ensures c.tuple_start-end.ensures) c.args.words.now c.requires.long.0.0

pub loop-g-init : goal.loop-g-init
loop-g-init c =
    let a = c.args in
    let T = c.requires.long.1 in
    let own = span T.sound a.place T.sound.place _ _ c.tuple_start-first.ensures c.tuple_start-end.ensures in
    let ids = c.live_ids-g-items.ensures in
    rw c.into_iter-g-iterator.ensures.into_iter_gives
    (record {
      ahead = span-ahead own ids.words ids.start ids.end;
      passed = passed-first T a.start a.words.now a.pending.now a.numbers.now _ c.requires.long.0.1 (ids.start ∙ own.begin);
    })

pub take_one-requires-clause-long : goal.take_one-requires-clause-long
take_one-requires-clause-long c =
    let T = c.requires.long.1 in
    let l = c.loop-g.invariant in
    let own = span T.sound c.args.place T.sound.place _ _ c.tuple_start-first.ensures c.tuple_start-end.ensures in
    let id = span-id own l.ahead (next-id l.ahead c.in-Some.ensures.steps) in
    ((c.requires.long.0.0, l.passed.takes.frames.long), record { turn = T; last = c.requires.room.1; own = id.1 })

pub take_one-requires-clause-room : goal.take_one-requires-clause-room
take_one-requires-clause-room c =
    let a = c.args in
    let T = c.requires.long.1 in
    let l = c.loop-g.invariant in
    let own = span T.sound a.place T.sound.place _ _ c.tuple_start-first.ensures c.tuple_start-end.ensures in
    let g = next-id l.ahead c.in-Some.ensures.steps in (
      subst (Room (joint_of a.variables.now a.values.now a.starts.now a.members.now a.place) a.start) (sym l.passed.takes.frames.room) c.requires.room.0,
      ap (is_live a.words.now) (span-id own l.ahead g).0 ∙ g.live,
    )

pub loop-g-preserved : goal.loop-g-preserved
loop-g-preserved c =
    let a = c.args in
    let T = c.requires.long.1 in
    let l = c.loop-g.invariant in
    let own = span T.sound a.place T.sound.place _ _ c.tuple_start-first.ensures c.tuple_start-end.ensures in
    let g = next-id l.ahead c.in-Some.ensures.steps in
    record {
      ahead = next-ahead l.ahead c.in-Some.ensures.steps;
      passed = passed-next T a.start a.words.now a.pending.now a.numbers.now l.passed g (c.in-Some.g - c.tuple_start-first.result) (span-id own l.ahead g).0 c.take_one.ensures;
    }

pub returns : goal.returns
returns c =
    let a = c.args in
    let T = c.requires.long.1 in
    let l = c.loop-g.invariant in
    let own = span T.sound a.place T.sound.place _ _ c.tuple_start-first.ensures c.tuple_start-end.ensures in
    passed-end T a.start a.words.now a.pending.now a.numbers.now c.loop-g.left l.passed _ own.stop (none-left l.ahead c.in-None.ensures.steps)
