-- `rows_for` hands `rows_between` the parts of the lists where tuple x of relation r and the scope of relation s lie, by the laws of places.
use Rattle.std.proofs.Common.{List, ℕ, ◌+◌, ◌≡◌, sym, subst, ◌∙◌, ap, arith}
use Rattle.layout.specs.declared.Place.{Place}
use Rattle.layout.specs.Places.{width_in}
use Rattle.layout.proofs.SoundStarts.{width-in}
use Rattle.layout.proofs.Places.{below-limit, place-within, place-lengths, place-rises, place_inside, place-scope, place-few}
use Rattle.narrowing.specs.TupleRows.{FirstRows, SharedRow}
use Rattle.narrowing.proofs.TupleRows.{part-tuple}
use Rattle.narrowing.proofs.rows.rows_for.Goals as goal

pub slice_bounds-rows_between-count : goal.slice_bounds-rows_between-count
slice_bounds-rows_between-count c =
    let p = c.requires.1.0 in
    omega (arith, place-within p.laid c.args.r c.args.x p.own c.place_of-p.result c.place_of-p.ensures)

pub slice_bounds-rows_between-start : goal.slice_bounds-rows_between-start
slice_bounds-rows_between-start c =
    let p = c.requires.1.0 in
    omega (arith, place-within p.laid c.args.r c.args.x p.own c.place_of-p.result c.place_of-p.ensures)

pub slice_bounds-rows_between-end : goal.slice_bounds-rows_between-end
slice_bounds-rows_between-end c =
    let p = c.requires.1.0 in
    omega (arith, place-within p.laid c.args.r c.args.x p.own c.place_of-p.result c.place_of-p.ensures)

pub slice_bounds-rows_between-end-2 : goal.slice_bounds-rows_between-end-2
slice_bounds-rows_between-end-2 c =
    let p = c.requires.1.0 in
    omega (arith, place-within p.laid c.args.r c.args.x p.own c.place_of-p.result c.place_of-p.ensures)

pub slice_bounds-rows_between-count-3 : goal.slice_bounds-rows_between-count-3
slice_bounds-rows_between-count-3 c = omega (arith, place-rises c.requires.1.0.laid c.args.s c.requires.1.1 c.place_of-q.result 0 c.place_of-q.ensures)

pub slice_bounds-rows_between-start-3 : goal.slice_bounds-rows_between-start-3
slice_bounds-rows_between-start-3 c = omega (arith, place-rises c.requires.1.0.laid c.args.s c.requires.1.1 c.place_of-q.result 0 c.place_of-q.ensures)

pub slice_bounds-rows_between-end-3 : goal.slice_bounds-rows_between-end-3
slice_bounds-rows_between-end-3 c = omega (arith, place_inside c.requires.1.0.laid c.args.s c.requires.1.1 c.place_of-q.result 0 c.place_of-q.ensures)

pub rows_between-requires-clause-rows_len : goal.rows_between-requires-clause-rows_len
rows_between-requires-clause-rows_len c =
    let a = c.args in
    let p = c.requires.1 in
    (c.requires.0, (place-lengths p.0.laid a.r a.x p.0.own c.place_of-p.result c.place_of-p.ensures, place-few p.0.laid a.s p.1 c.place_of-q.result 0 c.place_of-q.ensures))

-- rows by other names of the two scopes and the values
shared-as : {scope_a scope_a' a a' scope_b scope_b' index rows : List ℕ} {s n : ℕ} → scope_a ≡ scope_a' → a ≡ a' → scope_b ≡ scope_b' → FirstRows (SharedRow scope_a a scope_b index s) n rows → FirstRows (SharedRow scope_a' a' scope_b' index s) n rows
shared-as {scope_a} {a = a} {a'} {scope_b' = scope_b'} {index} {rows} {s} {n} p q u f =
    subst (λ (xs : List ℕ). FirstRows (SharedRow xs a' scope_b' index s) n rows) p
    (subst (λ (xs : List ℕ). FirstRows (SharedRow scope_a xs scope_b' index s) n rows) q
    (subst (λ (xs : List ℕ). FirstRows (SharedRow scope_a a xs index s) n rows) u f))

pub returns : goal.returns
returns c =
    let a = c.args in
    let m = c.requires.1 in
    let p = c.place_of-p.result in
    let e = c.place_of-p.ensures in
    let h = below-limit m.0.laid a.r a.x m.0.own in
    let columns = width_in a.starts.now a.r in
    shared-as
    (place-scope m.0.laid a.r h p a.x e)
    (part-tuple m.0.laid a.r a.x columns p.tuple p.tuple_end m.0.own (width-in m.0.laid.framed a.r h) (ap (λ (q : Place). q.tuple) e)
    (ap (λ (q : Place). q.tuple_end) e ∙ ap (λ (n : ℕ). n + columns) (sym (ap (λ (q : Place). q.tuple) e))))
    (place-scope m.0.laid a.s m.1 c.place_of-q.result 0 c.place_of-q.ensures)
    c.rows_between.ensures
