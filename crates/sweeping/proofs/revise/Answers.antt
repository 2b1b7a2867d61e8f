-- The columns that the two relations share, and the live ids of relation s, are what `clear_tuples` asks for.
use Rattle.std.proofs.Common.{◌≡◌, ◌+◌, ◌-◌, ◌≤◌, ◌<◌, ℕ, List, length, take, drop, sym, ap₂, subst, ◌∙◌, arith}
use Rattle.model.specs.Network.{Network, size, first_id, scope_of}
use Rattle.layout.specs.Starts.{variable_start}
use Rattle.layout.specs.Setting.{Lists, network_in, SoundLists}
use Rattle.layout.proofs.SoundStarts.{tuple-start, tuple-end, ids-few, ids-within, scope-rises}
use Rattle.layout.proofs.Places.{scope-within, scope-is, scope-few}
use Rattle.narrowing.specs.TupleRows.{Shares}
use Rattle.sweeping.proofs.Unmet.{between-covers, revises-none}
use Rattle.sweeping.proofs.revise.Goals as goal
use Rattle.sweeping.proofs.revise.Goals.{After-variable_start-b_end, After-tuple_start-end}

-- a part of the variables from a relation's start to the next one's
module _ {L : Lists} (laid : SoundLists L) (r : ℕ) (h : r < 64) {a b : ℕ} (ea : a ≡ variable_start L.starts r) (eb : b ≡ variable_start L.starts (r + 1)) where
  part-is : take (b - a) (drop a L.variables) ≡ scope_of (network_in L) r
  part-is = ap₂ (λ (n m : ℕ). take (n - m) (drop m L.variables)) eb ea ∙ scope-is laid r h

  part-few : length (take (b - a) (drop a L.variables)) ≤ 8
  part-few = subst (λ (p : List ℕ). length p ≤ 8) (sym part-is) (scope-few laid r h)

shares_as : {p scope_a q scope_b index columns : List ℕ} {s : ℕ} → p ≡ scope_a → q ≡ scope_b → Shares p q index s columns → Shares scope_a scope_b index s columns
shares_as {p} {scope_b = scope_b} {index} {columns} {s} e f shared =
    subst (λ (xs : List ℕ). Shares xs scope_b index s columns) e (subst (λ (ys : List ℕ). Shares p ys index s columns) f shared)

-- the ids of relation s
abbrev N : After-tuple_start-end → Network
N c = network_in (record { variables = c.args.variables.now; values = c.args.values.now; starts = c.args.starts.now })

first-is : (c : After-tuple_start-end) → c.tuple_start-start.result ≡ first_id (N c) c.args.s
first-is c = c.tuple_start-start.ensures ∙ tuple-start c.requires.1.0.laid.framed c.args.s (omega arith)

end_is : (c : After-tuple_start-end) → c.tuple_start-end.result ≡ first_id (N c) c.args.s + size (N c) c.args.s
end_is c = c.tuple_start-end.ensures ∙ tuple-end c.requires.1.0.laid.framed c.args.s c.requires.1.1.1

-- both scopes lie within the variables
scopes : (c : After-variable_start-b_end) → ((c.variable_start-a.result ≤ c.variable_start-a_end.result) × (c.variable_start-a_end.result ≤ length c.args.variables.now)) × ((c.variable_start-b.result ≤ c.variable_start-b_end.result) × (c.variable_start-b_end.result ≤ length c.args.variables.now))
scopes c =
    let p = c.requires.1 in (
      (omega (arith, scope-rises p.0.laid.framed c.args.r p.1.0), omega (arith, scope-within p.0.laid c.args.r p.1.0)),
      (omega (arith, scope-rises p.0.laid.framed c.args.s p.1.1), omega (arith, scope-within p.0.laid c.args.s p.1.1)),
    )

pub returns-then-scope_bits-eq0 : goal.returns-then-scope_bits-eq0
returns-then-scope_bits-eq0 c = ((omega arith, omega arith), revises-none _ c.args.r c.args.s c.requires.0)

pub slice_bounds-shared_columns-count : goal.slice_bounds-shared_columns-count
slice_bounds-shared_columns-count c = omega (arith, scopes (goal.at.slice_bounds-shared_columns-count c).After-variable_start-b_end)

pub slice_bounds-shared_columns-start : goal.slice_bounds-shared_columns-start
slice_bounds-shared_columns-start c = omega (arith, scopes (goal.at.slice_bounds-shared_columns-start c).After-variable_start-b_end)

pub slice_bounds-shared_columns-end : goal.slice_bounds-shared_columns-end
slice_bounds-shared_columns-end c = omega (arith, scopes (goal.at.slice_bounds-shared_columns-end c).After-variable_start-b_end)

pub slice_bounds-shared_columns-count-2 : goal.slice_bounds-shared_columns-count-2
slice_bounds-shared_columns-count-2 c = omega (arith, scopes (goal.at.slice_bounds-shared_columns-count-2 c).After-variable_start-b_end)

pub slice_bounds-shared_columns-start-2 : goal.slice_bounds-shared_columns-start-2
slice_bounds-shared_columns-start-2 c = omega (arith, scopes (goal.at.slice_bounds-shared_columns-start-2 c).After-variable_start-b_end)

pub slice_bounds-shared_columns-end-2 : goal.slice_bounds-shared_columns-end-2
slice_bounds-shared_columns-end-2 c = omega (arith, scopes (goal.at.slice_bounds-shared_columns-end-2 c).After-variable_start-b_end)

pub shared_columns-columns-requires : goal.shared_columns-columns-requires
shared_columns-columns-requires c =
    let p = c.requires.1 in
    let one = part-few p.0.laid c.args.r p.1.0 c.variable_start-a.ensures.0 c.variable_start-a_end.ensures.0 in
    let other = part-few p.0.laid c.args.s p.1.1 c.variable_start-b.ensures.0 c.variable_start-b_end.ensures.0 in
    (p.1.1, (omega (arith, one, other), omega (arith, one, other)))

pub live_between-alive-requires : goal.live_between-alive-requires
live_between-alive-requires c = (c.requires.0.long, omega (arith, ids-few c.requires.1.0.laid.framed c.args.s c.requires.1.1.1))

pub clear_tuples-requires-clause-prepared : goal.clear_tuples-requires-clause-prepared
clear_tuples-requires-clause-prepared c =
    let p = c.requires.1 in
    let f = p.0.laid.framed in
    let ids = (goal.at.clear_tuples-requires-clause-prepared c).After-tuple_start-end in record {
      laid = p.0.laid;
      indexed = p.0.indexed;
      own = p.1.0;
      other = p.1.1;
      shares = shares_as
          (part-is p.0.laid c.args.r p.1.0 c.variable_start-a.ensures.0 c.variable_start-a_end.ensures.0)
          (part-is p.0.laid c.args.s p.1.1 c.variable_start-b.ensures.0 c.variable_start-b_end.ensures.0)
          c.shared_columns-columns.ensures;
      begins = omega (arith, first-is ids);
      ends = omega (arith, end_is ids);
      spans = (omega (arith, ids-few f c.args.s p.1.1), omega (arith, ids-within f c.args.s p.1.1, p.0.indexed.bits));
    }

pub clear_tuples-requires-clause-word_array : goal.clear_tuples-requires-clause-word_array
clear_tuples-requires-clause-word_array c =
    let ids = (goal.at.clear_tuples-requires-clause-word_array c).After-tuple_start-end in
    (c.requires.0, between-covers (N ids) c.args.s c.args.words.now c.live_between-alive.result (first-is ids) (end_is ids) c.live_between-alive.ensures)
