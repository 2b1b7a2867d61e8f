-- From the laws of starts and of the next live id.
use Rattle.std.proofs.Common.{◌≤◌, arith}
use Rattle.model.proofs.LiveWords.{next_live-first}
use Rattle.layout.proofs.SoundStarts.{tuple-start, tuple-end, ids-rise, ids-few}
use Rattle.spreading.proofs.factor.classes_in.Goals as goal

pub overflow_sub-step : goal.overflow_sub-step
overflow_sub-step c = omega (arith, ids-rise c.requires.1.laid.framed c.args.s c.requires.1.relation)

pub next-g-requires : goal.next-g-requires
next-g-requires c =
    let framed = c.requires.1.laid.framed in
    let few = c.requires.1.relation in
    omega (arith, ids-rise framed c.args.s few, ids-few framed c.args.s few)

pub loop-g-init : goal.loop-g-init
loop-g-init c =
    let rise : c.tuple_start-first.result ≤ c.tuple_start-end.result = omega (arith, ids-rise c.requires.1.laid.framed c.args.s c.requires.1.relation) in
    let f = next_live-first c.args.words.now c.tuple_start-first.result c.tuple_start-end.result rise in
    record { behind = omega (arith, c.next-g.ensures, f.from-i); within = omega (arith, c.next-g.ensures, f.to_end) }

pub class_at-requires : goal.class_at-requires
class_at-requires c =
    let framed = c.requires.1.laid.framed in
    let few = c.requires.1.relation in
    (record { laid = c.requires.1.laid; own = omega (arith, tuple-start framed c.args.s (omega (arith, few)), tuple-end framed c.args.s few) }, λ _. c.requires.1.inside)

pub next-g-requires-in-loop-g : goal.next-g-requires-in-loop-g
next-g-requires-in-loop-g c = omega (arith, ids-few c.requires.1.laid.framed c.args.s c.requires.1.relation)

pub loop-g-smaller : goal.loop-g-smaller
loop-g-smaller c =
    let f = next_live-first c.args.words.now c.later.result c.tuple_start-end.result c.later.ensures.1 in
    omega (arith, c.next-g-in-loop-g.ensures, f.from-i)

pub loop-g-preserved : goal.loop-g-preserved
loop-g-preserved c =
    let f = next_live-first c.args.words.now c.later.result c.tuple_start-end.result c.later.ensures.1 in
    record { behind = omega (arith, c.next-g-in-loop-g.ensures, f.from-i); within = omega (arith, c.next-g-in-loop-g.ensures, f.to_end) }
