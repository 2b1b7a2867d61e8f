-- The table of network faults in checking order: each test passed is absent, and the first met is the answer.
use mathlib.Core.Path.{◌≡◌, refl, sym, ap, ap₂, ◌∙◌}
use mathlib.Core.Bool.{Bool, true, false, not, ◌&&◌}
use mathlib.Core.List.{List, [], ◌∷◌, map}
use Prim.Native.Nat.{ℕ, ◌≤◌}
use native.Mathlib.Omega.{arith}
use borrow.Author.Tests.{leb-true, lt-ltb, le-ltb, eq-eqb, ne_eqb}
use lib.Dec.{leb, ltb, eqb}
use lib.ListN.{length, replicate, length-replicate}
use Rattle.model.specs.Limits.{max_relations, max_tuples}
use Rattle.model.specs.Lists.{all, from, sum}
use Rattle.model.specs.Network.{Network, total, variables_in, values_in, scope_of}
use Rattle.model.specs.Fault.{proper_width, within, proper_lengths, proper_scope, network_faults, first_fault, refusal}
use Rattle.model.proofs.Bools.{and_right}
use Rattle.layout.specs.Shape.{relations_of, network_of}
use Rattle.layout.specs.declared.Shape.{Shape}
use Rattle.network.specs.Scopes.{proper_scopes}
use Rattle.layout.proofs.Relations.{relation-count}
use Rattle.network.proofs.faults.fault_on.Goals as goal

-- the number of the first fault, by the tests
abbrev verdict : Bool → Bool → Bool → Bool → Bool → ℕ
verdict a b c d e = refusal (first_fault ((2, not a) ∷ (3, not b) ∷ (4, c) ∷ (5, not d) ∷ (6, not e) ∷ []))

scopes : Network → Bool
scopes N = all (λ (r : ℕ). proper_scope (scope_of N r)) (from 0 (length N.relations))

table : (N : Network) (a b c d e : Bool) → within 1 max_relations (length N.relations) ≡ a → all proper_width N.relations ≡ b → ltb max_tuples (total N) ≡ c → proper_lengths N ≡ d → scopes N ≡ e → verdict a b c d e ≡ refusal (first_fault (network_faults N))
unfolding scopes
table N a b c d e p q r s t =
    sym (
    ap (λ (x : Bool). verdict x (all proper_width N.relations) (ltb max_tuples (total N)) (proper_lengths N) (scopes N)) p
    ∙ ap (λ (x : Bool). verdict a x (ltb max_tuples (total N)) (proper_lengths N) (scopes N)) q
    ∙ ap (λ (x : Bool). verdict a b x (proper_lengths N) (scopes N)) r
    ∙ ap (λ (x : Bool). verdict a b c x (scopes N)) s
    ∙ ap (λ (x : Bool). verdict a b c d x) t
    )

-- the test of the number of relations
counted : (S : Shape) (r b : Bool) → r ≡ within 1 max_relations S.count → r ≡ b → within 1 max_relations (length (relations_of S)) ≡ b
counted S r b e f = ap (within 1 max_relations) (relation-count S) ∙ sym e ∙ f

few : (S : Shape) (r : Bool) → r ≡ within 1 max_relations S.count → r ≡ true → S.count ≤ max_relations
few S r e f = leb-true S.count max_relations (and_right (leb 1 S.count) (leb S.count max_relations) (sym e ∙ f))

-- a scope does not lie in the values
scoped : (S : Shape) (variables values : List ℕ) → proper_scopes (network_of S variables []) ≡ scopes (network_of S variables values)
unfolding scope_of scopes
scoped S variables values = refl

pub returns-then-not-within : goal.returns-then-not-within
returns-then-not-within c = table (network_of c.args.shape c.args.variables.now (replicate c.args.values 0)) false _ _ _ _ (counted c.args.shape c.within.result false c.within.ensures c.if-not-within.true) refl refl refl refl

pub proper_widths-widths_proper-requires : goal.proper_widths-widths_proper-requires
proper_widths-widths_proper-requires c = few c.args.shape c.within.result c.within.ensures c.if-not-within.false

pub totals_of-called-requires : goal.totals_of-called-requires
totals_of-called-requires c = few c.args.shape c.within.result c.within.ensures c.if-not-within.false

pub returns-then-not-widths_proper : goal.returns-then-not-widths_proper
returns-then-not-widths_proper c =
    table (network_of c.args.shape c.args.variables.now (replicate c.args.values 0)) true false _ _ _
    (counted c.args.shape c.within.result true c.within.ensures c.if-not-within.false) (sym c.proper_widths-widths_proper.ensures ∙ c.if-not-widths_proper.true) refl refl refl

pub returns-then-tuples-gt-MAX_TUPLES : goal.returns-then-tuples-gt-MAX_TUPLES
returns-then-tuples-gt-MAX_TUPLES c =
    let N = network_of c.args.shape c.args.variables.now (replicate c.args.values 0) in
    table N true true true _ _
    (counted c.args.shape c.within.result true c.within.ensures c.if-not-within.false) (sym c.proper_widths-widths_proper.ensures ∙ c.if-not-widths_proper.false) (lt-ltb max_tuples (total N) (omega arith)) refl refl

pub returns-then-variables-called : goal.returns-then-variables-called
returns-then-variables-called c =
    let N = network_of c.args.shape c.args.variables.now (replicate c.args.values 0) in
    let differ = ne_eqb (length N.variables) (sum (map variables_in N.relations)) (λ h. c.if-variables-called.true (omega arith)) in
    table N true true false false _
    (counted c.args.shape c.within.result true c.within.ensures c.if-not-within.false) (sym c.proper_widths-widths_proper.ensures ∙ c.if-not-widths_proper.false) (le-ltb max_tuples (total N) (omega arith))
    (ap (λ (b : Bool). b && eqb (length N.values) (sum (map values_in N.relations))) differ) refl

pub returns-then-values-called : goal.returns-then-values-called
returns-then-values-called c =
    let N = network_of c.args.shape c.args.variables.now (replicate c.args.values 0) in
    let same = eq-eqb (length N.variables) (sum (map variables_in N.relations)) (omega arith) in
    let differ = ne_eqb (length N.values) (sum (map values_in N.relations)) (λ h. c.if-values-called.true (omega (arith, length-replicate {A = ℕ} c.args.values 0))) in
    table N true true false false _
    (counted c.args.shape c.within.result true c.within.ensures c.if-not-within.false) (sym c.proper_widths-widths_proper.ensures ∙ c.if-not-widths_proper.false) (le-ltb max_tuples (total N) (omega arith))
    (ap₂ (λ (a b : Bool). a && b) same differ) refl

pub proper_scopes-requires : goal.proper_scopes-requires
proper_scopes-requires c = record { count_le_max_relations = few c.args.shape c.within.result c.within.ensures c.if-not-within.false; variables_len = omega arith }

-- the answer of the last test, where all others pass
pub returns-then-not-proper_scopes : goal.returns-then-not-proper_scopes
returns-then-not-proper_scopes c =
    let N = network_of c.args.shape c.args.variables.now (replicate c.args.values 0) in
    let same = eq-eqb (length N.variables) (sum (map variables_in N.relations)) (omega arith) in
    let too = eq-eqb (length N.values) (sum (map values_in N.relations)) (omega (arith, length-replicate {A = ℕ} c.args.values 0)) in
    table N true true false true false
    (counted c.args.shape c.within.result true c.within.ensures c.if-not-within.false) (sym c.proper_widths-widths_proper.ensures ∙ c.if-not-widths_proper.false) (le-ltb max_tuples (total N) (omega arith))
    (ap₂ (λ (a b : Bool). a && b) same too) (sym (scoped c.args.shape c.args.variables.now (replicate c.args.values 0)) ∙ sym c.proper_scopes.ensures ∙ c.if-not-proper_scopes.true)

pub returns : goal.returns
returns c =
    let N = network_of c.args.shape c.args.variables.now (replicate c.args.values 0) in
    let same = eq-eqb (length N.variables) (sum (map variables_in N.relations)) (omega arith) in
    let too = eq-eqb (length N.values) (sum (map values_in N.relations)) (omega (arith, length-replicate {A = ℕ} c.args.values 0)) in
    table N true true false true true
    (counted c.args.shape c.within.result true c.within.ensures c.if-not-within.false) (sym c.proper_widths-widths_proper.ensures ∙ c.if-not-widths_proper.false) (le-ltb max_tuples (total N) (omega arith))
    (ap₂ (λ (a b : Bool). a && b) same too) (sym (scoped c.args.shape c.args.variables.now (replicate c.args.values 0)) ∙ sym c.proper_scopes.ensures ∙ c.if-not-proper_scopes.false)
