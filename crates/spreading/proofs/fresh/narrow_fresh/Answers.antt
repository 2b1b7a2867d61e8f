-- `narrow_fresh` gathers what agrees with fresh tuples, and keeps it.
-- From the laws of starts, of fresh tuples, and of one member narrowed.
use Rattle.std.proofs.Common.{◌≡◌, ◌∙◌, ◌<◌, get_or, arith}
use mathlib.Core.Logic.{⊎_elim}
use borrow.Author.Tests.{ltb-false}
use Rattle.model.specs.Network.{first_id}
use Rattle.model.proofs.Support.{candidates-at}
use Rattle.layout.specs.Setting.{network_in}
use Rattle.layout.proofs.SoundStarts.{tuple-start, tuple-end, ids-few}
use Rattle.narrowing.proofs.Narrowing.{dead-past}
use Rattle.spreading.proofs.Relations.{kept-inside, kept-outside, kept-both}
use Rattle.spreading.proofs.Kept.{member_below, keeps-member}
use Rattle.spreading.proofs.Meeting.{gathered-own}
use Rattle.spreading.proofs.fresh.narrow_fresh.Goals as goal

pub keep-requires : goal.keep-requires
keep-requires c =
    let P = c.requires.spreadable.0 in
    let below = member_below P.0.laid P.1 c.args.j c.requires.long.1.1.0 in
    omega (arith, c.requires.long.1.0, ids-few P.0.laid.framed _ below)

pub next-requires : goal.next-requires
next-requires c =
    let P = c.requires.spreadable.0 in
    let framed = P.0.laid.framed in
    let below = member_below P.0.laid P.1 c.args.j c.requires.long.1.1.0 in
    omega (arith, tuple-start framed (get_or c.args.members.now c.args.j 0) (omega (arith, below)), tuple-end framed _ below, ids-few framed _ below)

pub returns : goal.returns
returns c =
    let a = c.args in
    let N = network_in (record { variables = a.variables.now; values = a.values.now; starts = a.starts.now }) in
    let P = c.requires.spreadable.0 in
    let framed = P.0.laid.framed in
    let inside = c.requires.long.1.1.0 in
    let other = c.requires.long.1.1.1 in
    let r = get_or a.members.now a.j 0 in
    let below : r < 64 = member_below P.0.laid P.1 a.j inside in
    let from = c.tuple_start-from.result in
    let to = c.tuple_start-to.result in
    let from_is : from ≡ first_id N r = c.tuple_start-from.ensures ∙ tuple-start framed r (omega (arith, below)) in
    let to_is = c.tuple_start-to.ensures ∙ tuple-end framed r below in
    let after = c.keep.new.words in
    let sum = c.gather_others.new.sum in
    let kept = c.keep.ensures.1 in (
      c.keep.ensures.0,
      (
        keeps-member N a.members.now P.1 a.j inside a.words.now after
            (kept-outside N r from to a.words.now sum after from_is to_is kept)
            (kept-inside N r from to a.words.now sum after from_is to_is kept)
            (λ q m p l.
            let own = gathered-own N a.members.now a.place a.j inside a.fresh.now a.words.now sum c.gather_others.ensures c.requires.meets q m p l in
            kept-both from to a.words.now sum after kept (get_or q a.j 0) (l (get_or q a.j 0) (candidates-at N a.members.now m a.j inside).0) own)
            a.place 0 (⊎_elim (λ l. omega (arith, l)) other),
        λ e.
            let past = ltb-false c.next.result to e in
            record { j = a.j; later = record { from-k = omega arith; inside = inside; other = other }; dead = dead-past N r from to from_is to_is after (omega (arith, past, c.next.ensures)) },
      ),
    )
