-- `shared_of` looks at the relations' scopes, by the laws of scopes.
use Rattle.std.proofs.Common.{ℕ, List, ◌-◌, ◌+◌, ◌<◌, take, drop, length, ◌≡◌, ap, ap₂, ◌∙◌, subst, arith}
use Rattle.model.specs.Network.{scope_of}
use Rattle.layout.specs.Setting.{Lists, network_in, SoundLists}
use Rattle.layout.specs.Starts.{variable_start}
use Rattle.layout.proofs.SoundStarts.{scope-rises}
use Rattle.layout.proofs.Places.{scope-within, scope-is, scope-few}
use Rattle.narrowing.specs.Sieve.{CommonColumns}
use Rattle.narrowing.proofs.sieve.shared_of.Goals as goal

-- the part of the variables from a to b is the scope of relation r
part-scope : (L : Lists) → SoundLists L → (r a b : ℕ) → r < 64 → a ≡ variable_start L.starts r → b ≡ variable_start L.starts (r + 1) → take (b - a) (drop a L.variables) ≡ scope_of (network_in L) r
part-scope L laid r a b h ea eb = ap₂ (λ (n m : ℕ). take (n - m) (drop m L.variables)) eb ea ∙ scope-is laid r h

pub slice_bounds-shared_columns-count : goal.slice_bounds-shared_columns-count
slice_bounds-shared_columns-count c = omega (arith, scope-rises c.requires.0.framed c.args.r c.requires.1.0)

pub slice_bounds-shared_columns-start : goal.slice_bounds-shared_columns-start
slice_bounds-shared_columns-start c = omega (arith, scope-rises c.requires.0.framed c.args.r c.requires.1.0)

pub slice_bounds-shared_columns-end : goal.slice_bounds-shared_columns-end
slice_bounds-shared_columns-end c = omega (arith, scope-within c.requires.0 c.args.r c.requires.1.0)

pub slice_bounds-shared_columns-count-2 : goal.slice_bounds-shared_columns-count-2
slice_bounds-shared_columns-count-2 c = omega (arith, scope-rises c.requires.0.framed c.args.s c.requires.1.1)

pub slice_bounds-shared_columns-start-2 : goal.slice_bounds-shared_columns-start-2
slice_bounds-shared_columns-start-2 c = omega (arith, scope-rises c.requires.0.framed c.args.s c.requires.1.1)

pub slice_bounds-shared_columns-end-2 : goal.slice_bounds-shared_columns-end-2
slice_bounds-shared_columns-end-2 c = omega (arith, scope-within c.requires.0 c.args.s c.requires.1.1)

-- both scopes are short
pub shared_columns-requires : goal.shared_columns-requires
shared_columns-requires c =
    let a = c.args in
    let p = c.requires in
    let L : Lists = record { variables = a.variables.now; values = a.values.now; starts = a.starts.now } in (
      omega (arith, ap length (part-scope L p.0 a.r _ _ p.1.0 c.variable_start-a.ensures.0 c.variable_start-a_end.ensures.0), scope-few p.0 a.r p.1.0),
      omega (arith, ap length (part-scope L p.0 a.s _ _ p.1.1 c.variable_start-b.ensures.0 c.variable_start-b_end.ensures.0), scope-few p.0 a.s p.1.1),
    )

-- the columns that are found, of the relations' scopes
pub returns : goal.returns
returns c =
    let a = c.args in
    let p = c.requires in
    let L : Lists = record { variables = a.variables.now; values = a.values.now; starts = a.starts.now } in
    let found = c.shared_columns.result in
    let part : List ℕ = take (c.variable_start-a_end.result - c.variable_start-a.result) (drop c.variable_start-a.result a.variables.now) in
    subst (λ (xs : List ℕ). CommonColumns xs (scope_of (network_in L) a.s) found) (part-scope L p.0 a.r _ _ p.1.0 c.variable_start-a.ensures.0 c.variable_start-a_end.ensures.0)
    (subst (λ (ys : List ℕ). CommonColumns part ys found) (part-scope L p.0 a.s _ _ p.1.1 c.variable_start-b.ensures.0 c.variable_start-b_end.ensures.0) c.shared_columns.ensures.common)
