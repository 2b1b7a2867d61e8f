use Rattle.std.proofs.Common.{◌≡◌, ◌+◌, ◌-◌, ◌*◌, ◌≤◌, ◌<◌, ℕ, List, length, take, drop, refl, sym, ap, ap₂, subst, ◌∙◌, arith}
use Rattle.model.specs.Network.{size, scope_of, values_at}
use Rattle.model.proofs.LiveWords.{next_live-first}
use Rattle.layout.specs.Starts.{value_start}
use Rattle.layout.specs.Setting.{Lists, network_in}
use Rattle.layout.proofs.SoundStarts.{tuple-start, tuple-end, ids-rise, ids-few, width-in, scope-rises, columns-few}
use Rattle.layout.proofs.Places.{scope-length, scope-few, values_length}
use Rattle.narrowing.specs.TupleRows.{HasRows}
use Rattle.narrowing.proofs.TupleRows.{shares-rows, part-tuple, part-fits}
use Rattle.sweeping.specs.Sweep.{Testable}
use Rattle.sweeping.proofs.Unmet.{Tested, revises-none, falls-tested}
use Rattle.sweeping.proofs.clear_tuples.Goals as goal
use Rattle.sweeping.proofs.clear_tuples.Goals.{After-wide}

-- the tuple that the walk has come to
module _ (c : After-wide) where
  abbrev L : Lists
  L = record { variables = c.args.variables.now; values = c.args.values.now; starts = c.args.starts.now }

  abbrev x : ℕ
  x = c.loop-g.g - c.tuple_start-first.result

  index : x < size (network_in L) c.args.r
  index = omega arith

  abbrev columns : ℕ
  columns = c.variable_start.result - c.variable_start-2.result

  abbrev at : ℕ
  at = c.value_start-base.result + c.wide.result * columns

  at-is : at ≡ value_start L.starts c.args.r + x * columns
  at-is = ap₂ (λ (a b : ℕ). a + b * columns) c.value_start-base.ensures.0 c.wide.ensures.0

  fits : at + columns ≤ length c.args.values.now
  fits = part-fits c.requires.prepared.laid c.args.r x columns at (at + columns) index c.loop-g.invariant.columns at-is refl

  abbrev part : List ℕ
  part = take (at + columns - at) (drop at c.args.values.now)

  part-is : part ≡ values_at (network_in L) c.args.r x
  part-is = part-tuple c.requires.prepared.laid c.args.r x columns at (at + columns) index c.loop-g.invariant.columns at-is refl

  testable : Testable c.args.index.now c.args.columns.now part c.args.to
  testable =
      let p = c.requires.prepared in
      let few = scope-few p.laid c.args.r p.own in
      let long : length (scope_of (network_in L) c.args.r) ≡ length part =
      scope-length p.laid c.args.r p.own ∙ sym (values_length p.laid c.args.r x index) ∙ sym (ap length part-is) in
      record {
        plan = p.indexed.plan;
        few = omega (arith, long, few);
        has = subst (HasRows c.args.index.now c.args.columns.now) long (shares-rows p.indexed.plan p.other (scope-few p.laid c.args.s p.other) p.shares);
        spans = p.spans;
      }

pub overflow_sub-width : goal.overflow_sub-width
overflow_sub-width c = omega (arith, scope-rises c.requires.prepared.laid.framed c.args.r c.requires.prepared.own)

pub overflow_sub-end : goal.overflow_sub-end
overflow_sub-end c = omega (arith, ids-rise c.requires.prepared.laid.framed c.args.r c.requires.prepared.own)

pub next-g-requires : goal.next-g-requires
next-g-requires c =
    let p = c.requires.prepared in
    let few = ids-few p.laid.framed c.args.r p.own in
    (omega (arith, ids-rise p.laid.framed c.args.r p.own), omega (arith, few, c.requires.word_array.0.long), omega (arith, few))

pub loop-g-init : goal.loop-g-init
loop-g-init c =
    let a = c.args in
    let p = c.requires.prepared in
    let f = p.laid.framed in
    let columns = ap₂ (λ (n m : ℕ). n - m) c.variable_start.ensures.0 c.variable_start-2.ensures.0 ∙ width-in f a.r p.own in
    let n = next_live-first a.words.now c.tuple_start-first.result c.tuple_start-end.result (omega (arith, ids-rise f a.r p.own)) in record {
      begins = c.tuple_start-first.ensures ∙ tuple-start f a.r (omega (arith, p.own));
      ends = c.tuple_start-end.ensures ∙ tuple-end f a.r p.own;
      few = omega (arith, ids-few f a.r p.own);
      columns = columns;
      narrow = omega (arith, columns, columns-few f a.r p.own);
      from_first = omega (arith, n.from-i);
      to_end = omega (arith, n.to_end);
      few_tested = omega arith;
      few_fell = omega arith;
      long = refl;
      revised = revises-none _ a.r a.s c.requires.word_array.0;
      covered = c.requires.word_array.1;
    }

pub slice_bounds-tuple-end : goal.slice_bounds-tuple-end
slice_bounds-tuple-end c = omega (arith, fits (goal.at.slice_bounds-tuple-end c).After-wide)

pub clear_unmet-n-requires-clause-rows_len : goal.clear_unmet-n-requires-clause-rows_len
clear_unmet-n-requires-clause-rows_len c = (c.loop-g.invariant.long, testable (goal.at.clear_unmet-n-requires-clause-rows_len c).After-wide)

pub loop-g-smaller : goal.loop-g-smaller
loop-g-smaller c = omega (arith, (next_live-first c.clear_unmet-n.new.words (c.loop-g.g + 1) c.tuple_start-end.result (omega arith)).from-i)

pub loop-g-preserved : goal.loop-g-preserved
loop-g-preserved c =
    let w = (goal.at.loop-g-preserved c).After-wide in
    let a = c.args in
    let i = c.loop-g.invariant in
    let after = c.clear_unmet-n.new.words in
    let n = next_live-first after (c.loop-g.g + 1) c.tuple_start-end.result (omega arith) in
    let t : Tested (L w) a.r a.s a.alive.now a.words.now after c.clear_unmet-n.result =
    falls-tested (L w) c.requires.prepared (x w) c.loop-g.g c.clear_unmet-n.result a.alive.now (part w) a.words.now c.loop-g.words after (index w) (omega arith) (part-is w) i.revised i.covered c.clear_unmet-n.ensures.1 in record {
      begins = i.begins;
      ends = i.ends;
      few = i.few;
      columns = i.columns;
      narrow = i.narrow;
      from_first = omega (arith, n.from-i);
      to_end = omega (arith, n.to_end);
      few_tested = omega (arith, n.from-i);
      few_fell = omega (arith, t.one);
      long = c.clear_unmet-n.ensures.0;
      revised = t.revises;
      covered = t.covers;
    }
