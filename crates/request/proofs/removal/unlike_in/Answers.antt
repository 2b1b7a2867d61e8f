use Rattle.std.proofs.Common.{◌≡◌, ℕ, Bool, List, ◌+◌, ◌-◌, ◌*◌, ◌<◌, ◌≤◌, length, slice_index_or, not, sym, ap, ap₂, subst, ◌∙◌, arith}
use Rattle.std.specs.Prelude.{◌&&◌}
use Rattle.model.specs.Limits.{max_relations}
use Rattle.model.specs.Network.{width, scope_of}
use Rattle.model.specs.Agreement.{fit}
use Rattle.model.specs.Request.{choose, removes}
use Rattle.layout.specs.Starts.{tuple_start, value_start}
use Rattle.layout.specs.Columns.{column_of}
use Rattle.layout.specs.Setting.{Lists, lists, network_in, SoundLists}
use Rattle.layout.proofs.SoundStarts.{width-in, scope-rises, ids-rise, ids-few}
use Rattle.layout.proofs.Places.{scope-within, scope-is}
use Rattle.request.specs.Removal.{between, Added}
use Rattle.request.proofs.Unlike.{added-set, added-kept, place-next, place-within, unlike-column, unlike-absent}
use Rattle.request.proofs.removal.unlike_in.Goals as goal
use Rattle.request.proofs.removal.unlike_in.Goals.{then-not-fit, else-not-fit}

-- What is read at tuple g: its value under the variable, which tells whether the tuple is removed.
record Turn (L : Lists) (x g at : ℕ) : Type 0 where
  readable : at < length L.values
  decided : (v : ℕ) (b : Bool) → fit (slice_index_or L.values at 0) v ≡ b → removes (network_in L) (choose x v) g ≡ not b

turn : {L : Lists} (laid : SoundLists L) (r : ℕ) (h : r < max_relations) (x g at w k : ℕ) → w ≡ width (network_in L) r → k ≡ column_of x (scope_of (network_in L) r) → k < w
    → tuple_start L.starts r ≤ g → g < tuple_start L.starts (r + 1) → at ≡ value_start L.starts r + (g - tuple_start L.starts r) * w + k → Turn L x g at
turn {L} laid r h x g at w k ew ek column low high place =
    let here : column_of x (scope_of (network_in L) r) < width (network_in L) r = omega (arith, ew, ek, column) in
    let is = place ∙ ap₂ (λ (v l : ℕ). value_start L.starts r + (g - tuple_start L.starts r) * v + l) ew ek in
    record {
      readable = omega (arith, is, place-within laid r h x g low high here);
      decided = λ v b e. unlike-column laid r h x g low high v here ∙ ap (λ (i : ℕ). not (fit (slice_index_or L.values i 0) v)) (sym is) ∙ ap not e;
    }

pub overflow_sub-width : goal.overflow_sub-width
overflow_sub-width c = omega (arith, scope-rises c.requires.0.framed c.args.r c.requires.1)

pub slice_bounds-column_of-count : goal.slice_bounds-column_of-count
slice_bounds-column_of-count c = omega (arith, scope-rises c.requires.0.framed c.args.r c.requires.1)

pub slice_bounds-column_of-start : goal.slice_bounds-column_of-start
slice_bounds-column_of-start c = omega (arith, scope-rises c.requires.0.framed c.args.r c.requires.1)

pub slice_bounds-column_of-end : goal.slice_bounds-column_of-end
slice_bounds-column_of-end c = omega (arith, scope-within c.requires.0 c.args.r c.requires.1)

pub returns-then-width-column : goal.returns-then-width-column
returns-then-width-column c =
    let L = lists (λ x. x.now) c.args.variables c.args.values c.args.starts in
    let w : c.variable_start-scope_end.result - c.variable_start-scope.result ≡ width (network_in L) c.args.r =
    rw (c.variable_start-scope_end.ensures.0, c.variable_start-scope.ensures.0) (width-in c.requires.0.framed c.args.r c.requires.1) in
    let k : c.column_of-column.result ≡ column_of c.args.x (scope_of (network_in L) c.args.r) =
    c.column_of-column.ensures ∙ ap (column_of c.args.x) (rw (c.variable_start-scope_end.ensures.0, c.variable_start-scope.ensures.0) (scope-is c.requires.0 c.args.r c.requires.1)) in
    unlike-absent c.requires.0 c.args.r c.requires.1 c.args.x c.args.v c.args.removed.now c.requires.2 (omega (arith, w, k))

pub bounds-values-at : goal.bounds-values-at
bounds-values-at c =
    let L = lists (λ x. x.now) c.args.variables c.args.values c.args.starts in
    let w : c.variable_start-scope_end.result - c.variable_start-scope.result ≡ width (network_in L) c.args.r =
    rw (c.variable_start-scope_end.ensures.0, c.variable_start-scope.ensures.0) (width-in c.requires.0.framed c.args.r c.requires.1) in
    let k : c.column_of-column.result ≡ column_of c.args.x (scope_of (network_in L) c.args.r) =
    c.column_of-column.ensures ∙ ap (column_of c.args.x) (rw (c.variable_start-scope_end.ensures.0, c.variable_start-scope.ensures.0) (scope-is c.requires.0 c.args.r c.requires.1)) in
    (turn c.requires.0 c.args.r c.requires.1 c.args.x c.loop-g.g c.loop-g.at (c.variable_start-scope_end.result - c.variable_start-scope.result) c.column_of-column.result w k (omega arith) (omega arith) (omega arith) c.loop-g.invariant.place).readable

pub set-requires : goal.set-requires
set-requires c = omega (arith, c.loop-g.invariant.set.full.long, ids-few c.requires.0.framed c.args.r c.requires.1)

pub loop-g-preserved : goal.loop-g-preserved
loop-g-preserved c =
    let L = lists (λ x. x.now) c.args.variables c.args.values c.args.starts in
    let w : c.variable_start-scope_end.result - c.variable_start-scope.result ≡ width (network_in L) c.args.r =
    rw (c.variable_start-scope_end.ensures.0, c.variable_start-scope.ensures.0) (width-in c.requires.0.framed c.args.r c.requires.1) in
    let k : c.column_of-column.result ≡ column_of c.args.x (scope_of (network_in L) c.args.r) =
    c.column_of-column.ensures ∙ ap (column_of c.args.x) (rw (c.variable_start-scope_end.ensures.0, c.variable_start-scope.ensures.0) (scope-is c.requires.0 c.args.r c.requires.1)) in
    let first = tuple_start c.args.starts.now c.args.r in
    let low : first ≤ c.loop-g.g = omega arith in
    let t = turn c.requires.0 c.args.r c.requires.1 c.args.x c.loop-g.g c.loop-g.at (c.variable_start-scope_end.result - c.variable_start-scope.result) c.column_of-column.result w k (omega arith) low (omega arith) c.loop-g.invariant.place in
    let p = removes (network_in L) (choose c.args.x c.args.v) in record {
      place = ap (λ (i : ℕ). i + (c.variable_start-scope_end.result - c.variable_start-scope.result)) c.loop-g.invariant.place ∙ place-next (value_start c.args.starts.now c.args.r) first c.loop-g.g (c.variable_start-scope_end.result - c.variable_start-scope.result) c.column_of-column.result low;
      set = elim c.if-not-fit.branch [
        | then-not-fit w ↦ added-set p c.args.removed.now first c.loop-g.removed c.loop-g.g low c.loop-g.invariant.set (t.decided c.args.v _ (sym c.fit.ensures ∙ w.if-not-fit.true)) c.if-not-fit.removed (w.removed-is ∙ w.set.ensures)
        | else-not-fit w ↦ subst (λ (ws : List ℕ). Added c.args.removed.now ws (λ (h : ℕ). between first (c.loop-g.g + 1) h && p h)) (sym w.removed-is) (added-kept p c.args.removed.now first c.loop-g.removed c.loop-g.g low c.loop-g.invariant.set (t.decided c.args.v _ (sym c.fit.ensures ∙ w.if-not-fit.false)))
      ];
    }

pub returns : goal.returns
returns c =
    let L = lists (λ x. x.now) c.args.variables c.args.values c.args.starts in
    let done : c.loop-g.g ≡ tuple_start c.args.starts.now (c.args.r + 1) = omega (arith, ids-rise c.requires.0.framed c.args.r c.requires.1) in
    subst (λ (k : ℕ). Added c.args.removed.now c.loop-g.removed (λ (h : ℕ). between (tuple_start c.args.starts.now c.args.r) k h && removes (network_in L) (choose c.args.x c.args.v) h)) done c.loop-g.invariant.set
