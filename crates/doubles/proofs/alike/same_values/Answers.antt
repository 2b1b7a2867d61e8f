-- `same_values` hands `equal_in` the parts of the lists where the two tuples lie.
-- From the laws of places.
use Rattle.std.proofs.Common.{◌≡◌, sym, ◌∙◌, ap, ℕ, ◌-◌, List, take, drop, arith}
use Rattle.model.specs.Agreement.{cells, under}
use Rattle.model.specs.LiveWords.{is_set}
use Rattle.model.proofs.Agreement.{cells_of-at}
use Rattle.layout.specs.declared.Place.{Place}
use Rattle.layout.specs.Places.{place_at}
use Rattle.layout.specs.Setting.{Lists, network_in}
use Rattle.layout.proofs.Places.{below-limit, place-within, place-cells, place-scope}
use Rattle.doubles.specs.Alike.{TupleAt}
use Rattle.doubles.proofs.alike.same_values.Goals as goal

-- both places have the relation's scope
scopes : (L : Lists) (r x y : ℕ) → (t : TupleAt L r x) → (p q : Place) → p ≡ place_at L.starts r x → q ≡ place_at L.starts r y → take (p.scope_end - p.scope) (drop p.scope L.variables) ≡ take (q.scope_end - q.scope) (drop q.scope L.variables)
scopes L r x y t p q d e =
    let few = below-limit t.laid r x t.own in
    place-scope t.laid r few p x d ∙ sym (place-scope t.laid r few q y e)

pub slice_bounds-equal_in-count : goal.slice_bounds-equal_in-count
slice_bounds-equal_in-count c = omega (arith, place-within c.requires.0.laid c.args.r c.args.x c.requires.0.own _ c.place_of-p.ensures)

pub slice_bounds-equal_in-start : goal.slice_bounds-equal_in-start
slice_bounds-equal_in-start c = omega (arith, place-within c.requires.0.laid c.args.r c.args.x c.requires.0.own _ c.place_of-p.ensures)

pub slice_bounds-equal_in-end : goal.slice_bounds-equal_in-end
slice_bounds-equal_in-end c = omega (arith, place-within c.requires.0.laid c.args.r c.args.x c.requires.0.own _ c.place_of-p.ensures)

pub slice_bounds-equal_in-end-2 : goal.slice_bounds-equal_in-end-2
slice_bounds-equal_in-end-2 c = omega (arith, place-within c.requires.0.laid c.args.r c.args.x c.requires.0.own _ c.place_of-p.ensures)

pub slice_bounds-equal_in-end-3 : goal.slice_bounds-equal_in-end-3
slice_bounds-equal_in-end-3 c = omega (arith, place-within c.requires.1.laid c.args.r c.args.y c.requires.1.own _ c.place_of-q.ensures)

pub returns : goal.returns
returns c e =
    let a = c.args in
    let q = c.place_of-q.result in
    let L : Lists = record { variables = a.variables.now; values = a.values.now; starts = a.starts.now } in
    let t = c.requires.0 in
    let u = c.requires.1 in
    ap (under (is_set a.common)) (cells_of-at (network_in L) a.r a.x t.own ∙ sym (place-cells t.laid a.r a.x t.own _ c.place_of-p.ensures))
    ∙ c.equal_in.ensures e
    ∙ ap (under (is_set a.common))
    (ap (λ (vs : List ℕ). cells vs (take (q.tuple_end - q.tuple) (drop q.tuple L.values))) (scopes L a.r a.x a.y t _ q c.place_of-p.ensures c.place_of-q.ensures)
    ∙ place-cells u.laid a.r a.y u.own q c.place_of-q.ensures
    ∙ sym (cells_of-at (network_in L) a.r a.y u.own))
