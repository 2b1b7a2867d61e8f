-- From what its parts ensure, and the laws of what test answers.
use Rattle.std.proofs.Common.{◌/◌, true, false, length, arith, rules, sym, ap, ◌∙◌, length-take-le}
use Rattle.wire.specs.Entries.{entries64}
use Rattle.wire.proofs.Entries.{entries64-length}
use Rattle.consistency.proofs.Tested.{tested-refused, given-sound, tested-reply}
use Rattle.encoding.specs.Packed.{packed_pair}
use Rattle.byte_calls.proofs.Calls.{words-needed, loaded-each}
use Rattle.byte_calls.proofs.reading.test_decoded.Goals as goal

pub returns-then-opening-ne0 : goal.returns-then-opening-ne0
returns-then-opening-ne0 c =
    c.pack_verdict.ensures ∙ ap packed_pair (tested-refused _ _ _ _ _ (entries64 c.args.marks.now) _ (sym (entries64-length c.args.marks.now)) _ c.test_checked-opening.ensures c.if-opening-ne0.true)

pub slice_bounds-load-end : goal.slice_bounds-load-end
slice_bounds-load-end c = let a = c.args in sym (length-take-le _ a.marks.now (omega (arith, words-needed a.shape a.variables.now a.values.now a.m a.members.now (length a.marks.now / 8) c.test_checked-opening.result c.if-opening-ne0.false c.test_checked-opening.ensures _ _ c.tuple_count.ensures c.words_for.ensures)))

pub all_supported-requires : goal.all_supported-requires
all_supported-requires c =
    let sound = given-sound _ _ _ c.args.m _ (entries64 c.args.marks.now) _ (sym (entries64-length c.args.marks.now)) _ c.test_checked-opening.ensures c.if-opening-ne0.false in
    (search rules, rw c.wide.ensures.0 sound)

pub returns-then-all_supported : goal.returns-then-all_supported
returns-then-all_supported c =
    let a = c.args in
    let needed = words-needed a.shape a.variables.now a.values.now a.m a.members.now (length a.marks.now / 8) c.test_checked-opening.result c.if-opening-ne0.false c.test_checked-opening.ensures _ _ c.tuple_count.ensures c.words_for.ensures in
    c.pack_verdict-then-all_supported.ensures
    ∙ ap packed_pair
    (tested-reply _ _ _ _ _ (entries64 a.marks.now) _ (sym (entries64-length a.marks.now)) _ c.test_checked-opening.ensures c.if-opening-ne0.false c.tuple_count.result c.words_for.result c.tuple_count.ensures c.words_for.ensures
    c.load.new.d (loaded-each c.words_for.result _ a.marks.now _ c.load.ensures needed.1.0 (omega (arith, needed))) c.wide.result c.wide.ensures.0 true
    (sym c.if-all_supported.true ∙ c.all_supported.ensures))

pub returns : goal.returns
returns c =
    let a = c.args in
    let needed = words-needed a.shape a.variables.now a.values.now a.m a.members.now (length a.marks.now / 8) c.test_checked-opening.result c.if-opening-ne0.false c.test_checked-opening.ensures _ _ c.tuple_count.ensures c.words_for.ensures in
    c.pack_verdict-2.ensures
    ∙ ap packed_pair
    (tested-reply _ _ _ _ _ (entries64 a.marks.now) _ (sym (entries64-length a.marks.now)) _ c.test_checked-opening.ensures c.if-opening-ne0.false c.tuple_count.result c.words_for.result c.tuple_count.ensures c.words_for.ensures
    c.load.new.d (loaded-each c.words_for.result _ a.marks.now _ c.load.ensures needed.1.0 (omega (arith, needed))) c.wide.result c.wide.ensures.0 false
    (sym c.if-all_supported.false ∙ c.all_supported.ensures))
