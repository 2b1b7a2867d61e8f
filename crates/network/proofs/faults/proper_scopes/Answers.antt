use Rattle.std.proofs.Common.{◌≡◌, ℕ, List, Bool, [], ◌+◌, ◌-◌, ◌<◌, length, take, drop, slice_index_or, sym, ap, ap₂, ◌∙◌, arith}
use native.Mathlib.Nat.{add-sub_cancel_left}
use Rattle.std.proofs.lemmas.List.{get_or-take}
use Rattle.model.specs.declared.Relation.{Relation}
use Rattle.model.specs.Lists.{from}
use Rattle.model.specs.Network.{variables_in, before, scope_of}
use Rattle.model.specs.Fault.{proper_scope}
use Rattle.model.proofs.Network.{before-le}
use Rattle.layout.specs.declared.Shape.{Shape}
use Rattle.layout.specs.Shape.{relations_of, network_of}
use Rattle.network.proofs.Walk.{all-passes, all-fails, all-ends}
use Rattle.layout.proofs.Relations.{relation-at, before-next, number_at, number-count}
use Rattle.network.proofs.faults.proper_scopes.Goals as goal

abbrev numbers : Shape → List ℕ
numbers S = from 0 (length (relations_of S))

abbrev proper : Shape → List ℕ → ℕ → Bool
proper S variables r = proper_scope (scope_of (network_of S variables []) r)

-- the test of the next relation's scope
tested : (S : Shape) (variables : List ℕ) (start r width : ℕ) → r < S.count → start ≡ before variables_in (relations_of S) r → width ≡ slice_index_or (take S.count S.widths) r 0
    → proper_scope (take (start + width - start) (drop start variables)) ≡ proper S variables (slice_index_or (numbers S) r 0)
unfolding scope_of
tested S variables start r width h e w =
    simp add-sub_cancel_left
    (ap₂ (λ (n m : ℕ). proper_scope (take n (drop m variables))) (w ∙ get_or-take S.count S.widths r 0 h ∙ sym (ap (λ (R : Relation). R.width) (relation-at S r h))) e
    ∙ sym (ap (proper S variables) (number_at S r h)))

pub overflow_add-end : goal.overflow_add-end
overflow_add-end c = omega (arith, before-next c.args.shape variables_in c.loop-width.width-index, before-le variables_in (relations_of c.args.shape) (c.loop-width.width-index + 1), get_or-take c.args.shape.count c.args.shape.widths c.loop-width.width-index 0)

pub offset_bounds-variables-start : goal.offset_bounds-variables-start
offset_bounds-variables-start c = omega (arith, before-next c.args.shape variables_in c.loop-width.width-index, before-le variables_in (relations_of c.args.shape) (c.loop-width.width-index + 1), get_or-take c.args.shape.count c.args.shape.widths c.loop-width.width-index 0)

pub slice_bounds-proper_scope-end : goal.slice_bounds-proper_scope-end
slice_bounds-proper_scope-end c = omega (arith, before-next c.args.shape variables_in c.loop-width.width-index, before-le variables_in (relations_of c.args.shape) (c.loop-width.width-index + 1), get_or-take c.args.shape.count c.args.shape.widths c.loop-width.width-index 0)

pub returns-then-not-proper_scope : goal.returns-then-not-proper_scope
returns-then-not-proper_scope c =
    let S = c.args.shape in
    let r = c.loop-width.width-index in
    let below : r < S.count = omega arith in
    let test = tested S c.args.variables.now c.loop-width.start r c.wide.result below c.loop-width.invariant.begins c.wide.ensures.0 in
    let among : r < length (numbers S) = rw (number-count S) below in
    sym (all-fails (proper S c.args.variables.now) (numbers S) r 0 among (sym test ∙ sym c.proper_scope.ensures ∙ c.if-not-proper_scope.true)) ∙ c.loop-width.invariant.left

pub loop-width-preserved : goal.loop-width-preserved
loop-width-preserved c =
    let S = c.args.shape in
    let r = c.loop-width.width-index in
    let below : r < S.count = omega arith in
    let test = tested S c.args.variables.now c.loop-width.start r c.wide.result below c.loop-width.invariant.begins c.wide.ensures.0 in
    let among : r < length (numbers S) = rw (number-count S) below in record {
      begins = omega (arith, before-next S variables_in r, get_or-take S.count S.widths r 0);
      left = sym (all-passes (proper S c.args.variables.now) (numbers S) r 0 among (sym test ∙ sym c.proper_scope.ensures ∙ c.if-not-proper_scope.false)) ∙ c.loop-width.invariant.left;
    }

pub returns : goal.returns
returns c =
    let S = c.args.shape in
    sym (all-ends (proper S c.args.variables.now) (numbers S) c.loop-width.width-index (rw (number-count S) (omega arith))) ∙ c.loop-width.invariant.left
