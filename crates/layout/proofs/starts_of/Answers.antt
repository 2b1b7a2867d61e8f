-- Bounded records keep every sum within 16 bits.
use Rattle.std.proofs.Common.{◌≡◌, ℕ, ◌+◌, ◌≤◌, set, sym, ap, ◌∙◌, arith}
use Rattle.model.specs.declared.Relation.{Relation}
use Rattle.model.specs.Network.{variables_in, tuples_in, values_in, before}
use Rattle.layout.specs.Shape.{relations_of}
use Rattle.layout.specs.declared.Shape.{Shape}
use Rattle.layout.proofs.Relations.{relation-count, before-next, before-end}
use Rattle.layout.proofs.Starts.{filled_more, filled-starts, variables-fit, tuples-fit, values-fit}
use Rattle.layout.proofs.starts_of.Goals as goal
use Rattle.layout.proofs.starts_of.Goals.{then-r-shape, else-r-shape}

pub bounds-shape-r : goal.bounds-shape-r
bounds-shape-r c = omega (arith, relation-count c.args.shape)

pub bounds-shape-r-then-r-shape : goal.bounds-shape-r-then-r-shape
bounds-shape-r-then-r-shape c = omega (arith, relation-count c.args.shape)

pub overflow_add-variable : goal.overflow_add-variable
overflow_add-variable c = omega (arith, before-next c.args.shape variables_in c.loop-r.r c.if-r-shape.true, variables-fit (relations_of c.args.shape) c.requires (c.loop-r.r + 1))

pub overflow_add-tuple : goal.overflow_add-tuple
overflow_add-tuple c = omega (arith, before-next c.args.shape tuples_in c.loop-r.r c.if-r-shape.true, tuples-fit (relations_of c.args.shape) c.requires (c.loop-r.r + 1))

pub overflow_mul-value : goal.overflow_mul-value
overflow_mul-value c = omega (arith, before-next c.args.shape values_in c.loop-r.r c.if-r-shape.true, values-fit (relations_of c.args.shape) c.requires (c.loop-r.r + 1))

pub overflow_add-value : goal.overflow_add-value
overflow_add-value c = omega (arith, before-next c.args.shape values_in c.loop-r.r c.if-r-shape.true, values-fit (relations_of c.args.shape) c.requires (c.loop-r.r + 1))

-- a sum with the next record, or the same behind the last
stays : (S : Shape) (f : Relation → ℕ) (r : ℕ) → S.count ≤ r → before f (relations_of S) r ≡ before f (relations_of S) (r + 1)
stays S f r h = before-end S f r h ∙ sym (before-end S f (r + 1) (omega arith))

pub loop-r-preserved : goal.loop-r-preserved
loop-r-preserved c = record {
  variables = elim c.if-r-shape.branch [ then-r-shape w ↦ omega (arith, before-next c.args.shape variables_in c.loop-r.r) | else-r-shape w ↦ omega (arith, stays c.args.shape variables_in c.loop-r.r) ];
  tuples = elim c.if-r-shape.branch [ then-r-shape w ↦ omega (arith, before-next c.args.shape tuples_in c.loop-r.r) | else-r-shape w ↦ omega (arith, stays c.args.shape tuples_in c.loop-r.r) ];
  values = elim c.if-r-shape.branch [ then-r-shape w ↦ omega (arith, before-next c.args.shape values_in c.loop-r.r) | else-r-shape w ↦ omega (arith, stays c.args.shape values_in c.loop-r.r) ];
  filled = filled_more _ c.loop-r.r c.loop-r.starts _ _ _ (omega arith) c.loop-r.invariant.variables c.loop-r.invariant.tuples c.loop-r.invariant.values c.loop-r.invariant.filled;
}

pub overflow_cast-starts : goal.overflow_cast-starts
overflow_cast-starts c = omega (arith, relation-count c.args.shape)

pub returns : goal.returns
returns c = ap (λ (n : ℕ). set c.loop-r.starts 195 n) (sym (relation-count c.args.shape)) ∙ filled-starts (relations_of c.args.shape) c.loop-r.r c.loop-r.starts (omega arith) c.loop-r.invariant.filled
