use Rattle.std.proofs.Common.{◌+◌, ◌-◌, sym, subst, ◌∙◌, arith}
use borrow.Author.Tests.{ltb-false}
use Rattle.model.proofs.Bools.{not-both}
use Rattle.model.proofs.LiveWords.{next_live-first}
use Rattle.layout.specs.Setting.{network_in}
use Rattle.layout.proofs.SoundStarts.{tuple-start, tuple-end, ids-rise, ids-few}
use Rattle.narrowing.proofs.Narrowing.{dead-past}
use Rattle.bridging.specs.Bridge.{Narrowing}
use Rattle.bridging.proofs.Passing.{narrowing_none, narrowing-more}
use Rattle.bridging.proofs.keep_passing.Goals as goal
use Rattle.bridging.proofs.keep_passing.Goals.{then-not-passes, else-not-passes}

pub next-g-requires : goal.next-g-requires
next-g-requires c =
    let p = c.requires.long in
    let few = ids-few p.1.0.framed c.args.r p.1.1 in
    (omega (arith, ids-rise p.1.0.framed c.args.r p.1.1), omega (arith, p.0, few), omega (arith, few))

pub loop-g-init : goal.loop-g-init
loop-g-init c =
    let p = c.requires.long in
    let f = p.1.0.framed in
    let n = next_live-first c.args.words.now c.tuple_start-first.result c.tuple_start-end.result (omega (arith, ids-rise f c.args.r p.1.1)) in record {
      begins = c.tuple_start-first.ensures ∙ tuple-start f c.args.r (omega arith);
      ends = c.tuple_start-end.ensures ∙ tuple-end f c.args.r p.1.1;
      few = omega (arith, ids-few f c.args.r p.1.1);
      from_first = omega (arith, n.from-i);
      to_end = omega (arith, n.to_end);
      narrowed = narrowing_none _ c.args.r _ c.args.words.now p.0;
    }

pub loop-g-smaller : goal.loop-g-smaller
loop-g-smaller c = omega (arith, (next_live-first c.if-not-passes.words (c.loop-g.g + 1) c.tuple_start-end.result (omega arith)).from-i)

pub loop-g-preserved : goal.loop-g-preserved
loop-g-preserved c =
    let a = c.args in
    let i = c.loop-g.invariant in
    let n = next_live-first c.if-not-passes.words (c.loop-g.g + 1) c.tuple_start-end.result (omega arith) in record {
      begins = i.begins;
      ends = i.ends;
      few = i.few;
      from_first = omega (arith, n.from-i);
      to_end = omega (arith, n.to_end);
      narrowed =
          elim c.if-not-passes.branch [
            | then-not-passes w ↦
                narrowing-more _ a.r _ i.narrowed (c.loop-g.g - c.tuple_start-first.result) (omega arith) (omega arith) (λ p. not-both (c.passes.ensures p) w.if-not-passes.true) c.loop-g.g (omega arith) _
                (w.words-is ∙ w.clear.ensures)
            | else-not-passes w ↦ subst (Narrowing _ a.r _ a.words.now) (sym w.words-is) i.narrowed
          ];
    }

pub returns : goal.returns
returns c =
    let i = c.loop-g.invariant in
    (i.narrowed, λ e. dead-past (network_in (record { variables = c.args.variables.now; values = c.args.values.now; starts = c.args.starts.now })) c.args.r c.tuple_start-first.result c.tuple_start-end.result i.begins i.ends c.loop-g.words (omega (arith, ltb-false c.next.result c.tuple_start-end.result e, c.next.ensures)))
