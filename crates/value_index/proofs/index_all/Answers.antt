use Rattle.std.proofs.Common.{◌≡◌, ◌-◌, ◌<◌, ℕ, ap₂, ◌∙◌, arith}
use Rattle.model.specs.Network.{width}
use Rattle.layout.specs.Setting.{network_in}
use Rattle.layout.proofs.SoundStarts.{relations-few, relation-count, tuple-start, tuple-end, width-in, scope-rises, ids-rise, ids-within, columns-few}
use Rattle.layout.proofs.Places.{values-within}
use Rattle.value_index.proofs.Entries.{laid_on, laid-fewer, relations-more, indexed-all}
use Rattle.value_index.proofs.index_all.Goals as goal
use Rattle.value_index.proofs.index_all.Goals.{In-loop-r, After-variable_start-in-loop-r}

-- the relation reached is one of at most 64
below : (c : In-loop-r) → c.loop-r.r < 64
below c = omega (arith, c.loop-r.invariant.few)

columns : (c : After-variable_start-in-loop-r) → c.variable_start.result - c.variable_start-in-loop-r.result ≡ width (network_in (record { variables = c.args.variables.now; values = c.args.values.now; starts = c.args.starts.now })) c.loop-r.r
columns c =
    ap₂ (λ (a b : ℕ). a - b) c.variable_start.ensures.0 c.variable_start-in-loop-r.ensures.0
    ∙ width-in c.requires.1.framed c.loop-r.r (omega (arith, c.loop-r.invariant.few))

pub loop-r-init : goal.loop-r-init
loop-r-init c =
    let f = c.requires.1.framed in
    record { few = omega (arith, relation-count f, relations-few f); laid = c.lay_out.ensures; indexed = λ r h. absurd (omega arith) }

pub overflow_sub-width : goal.overflow_sub-width
overflow_sub-width c = omega (arith, scope-rises c.requires.1.framed c.loop-r.r (below (goal.at.overflow_sub-width c).In-loop-r))

pub index_tuples-requires-clause-laid : goal.index_tuples-requires-clause-laid
index_tuples-requires-clause-laid c =
    let f = c.requires.1.framed in
    let l = c.loop-r in
    let h = below (goal.at.index_tuples-requires-clause-laid c).In-loop-r in
    let w = columns (goal.at.index_tuples-requires-clause-laid c).After-variable_start-in-loop-r in
    (laid-fewer l.index _ _ (omega (arith, ids-within f l.r h)) l.invariant.laid, (h, omega (arith, w, columns-few f l.r h)))

pub index_tuples-requires-clause-start_le_end : goal.index_tuples-requires-clause-start_le_end
index_tuples-requires-clause-start_le_end c =
    let h = below (goal.at.index_tuples-requires-clause-start_le_end c).In-loop-r in
    let w = columns (goal.at.index_tuples-requires-clause-start_le_end c).After-variable_start-in-loop-r in (
      omega (arith, ids-rise c.requires.1.framed c.loop-r.r h),
      rw (c.value_start.ensures.0, w, c.tuple_start.ensures, c.tuple_start-in-loop-r.ensures) (values-within c.requires.1 c.loop-r.r h),
    )

pub loop-r-preserved : goal.loop-r-preserved
loop-r-preserved c =
    let f = c.requires.1.framed in
    let l = c.loop-r in
    let new = c.index_tuples.new.index in
    let h = below (goal.at.loop-r-preserved c).In-loop-r in record {
      few = l.invariant.few;
      laid = laid_on l.index new _ c.index_tuples.ensures.1.0 c.index_tuples.ensures.0 l.invariant.laid;
      indexed = relations-more c.requires.1 l.r _ _ _ _ l.index new
          c.value_start.ensures.0
          (columns (goal.at.loop-r-preserved c).After-variable_start-in-loop-r)
          (c.tuple_start.ensures ∙ tuple-start f l.r (omega (arith, h)))
          (c.tuple_start-in-loop-r.ensures ∙ tuple-end f l.r h)
          c.index_tuples.ensures.1.0
          c.index_tuples.ensures.1.1
          l.invariant.indexed;
    }

pub returns : goal.returns
returns c =
    let l = c.loop-r in
    (l.invariant.laid.full, indexed-all c.requires.1 l.r l.index (omega (arith, relation-count c.requires.1.framed)) l.invariant.laid l.invariant.indexed)
