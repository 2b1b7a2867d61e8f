-- Laws of records taken apart: up to 64 are the relations of their shape, and every call replies to their shape as to them.
-- From the definition of `shape_of`; more than 64 relations are refused before any record is read.
use mathlib.Core.Path.{◌≡◌, refl, sym, ◌∙◌, ap, subst}
use mathlib.Core.List.{List, [], ◌∷◌, map}
use Prim.Native.Nat.{ℕ, zero, suc, ◌≤◌, ◌<◌}
use native.Mathlib.Nat.{le_of_suc-le-suc}
use native.Mathlib.Decide.{dec_le}
use native.Mathlib.Omega.{arith}
use lib.ListN.{length, get_or}
use lib.Seq.{ext_get_or}
use Rattle.model.specs.declared.Relation.{Relation}
use Rattle.model.specs.Limits.{max_relations}
use Rattle.model.specs.Network.{Network, no_relation, variables_in, tuples_in}
use Rattle.model.specs.Request.{Change, Instance, Request}
use Rattle.model.specs.Fault.{network_faults}
use Rattle.model.specs.Reply.{reply, test_reply, compare_reply}
use Rattle.model.specs.Enumeration.{enumeration_reply}
use Rattle.model.proofs.Edges.{Alike, same, instance-alike, reply-alike, test_reply-alike, compare_reply-alike, enumeration_reply-alike, many-alike}
use Rattle.layout.specs.Shape.{padded, shape_of, record_at, relations_of, network_of}
use Rattle.layout.proofs.Relations.{relation-count, relation-at}

padded-get_d : (n r : ℕ) (xs : List ℕ) → r < n → get_or (padded n xs) r 0 ≡ get_or xs r 0
unfolding padded
padded-get_d zero r xs h = absurd (omega arith)
padded-get_d (suc n) zero [] h = refl
padded-get_d (suc n) zero (x ∷ xs) h = refl
padded-get_d (suc n) (suc r) [] h = padded-get_d n r [] (le_of_suc-le-suc h)
padded-get_d (suc n) (suc r) (x ∷ xs) h = padded-get_d n r xs (le_of_suc-le-suc h)

-- a record's number read from the list of all
pub get_d-records : (f : Relation → ℕ) → f no_relation ≡ 0 → (Rs : List Relation) (r : ℕ) → get_or (map f Rs) r 0 ≡ f (get_or Rs r no_relation)
get_d-records f e [] r = sym e
get_d-records f e (R ∷ Rs) zero = refl
get_d-records f e (R ∷ Rs) (suc r) = get_d-records f e Rs r

module _ (Rs : List Relation) where
  record_at-shape_of : (r : ℕ) → r < max_relations → record_at (shape_of Rs) r ≡ get_or Rs r no_relation
  unfolding shape_of
  record_at-shape_of r h = λ j. record { width = number variables_in refl j; tuples = number tuples_in refl j }
    where
      number : (f : Relation → ℕ) → f no_relation ≡ 0 → get_or (padded max_relations (map f Rs)) r 0 ≡ f (get_or Rs r no_relation)
      number f e = padded-get_d max_relations r (map f Rs) h ∙ get_d-records f e Rs r

  count-shape_of : length (relations_of (shape_of Rs)) ≡ length Rs
  unfolding shape_of
  count-shape_of = relation-count (shape_of Rs)

  pub relations_of-shape_of : length Rs ≤ max_relations → relations_of (shape_of Rs) ≡ Rs
  unfolding shape_of
  relations_of-shape_of h =
      ext_get_or no_relation (relations_of (shape_of Rs)) Rs count-shape_of (λ r l.
      let below : r < length Rs = subst (λ (n : ℕ). r < n) count-shape_of l in
      relation-at (shape_of Rs) r below ∙ record_at-shape_of r (omega (arith, h, below)))

  abbrev over : List ℕ → List ℕ → Network
  over variables values = record { relations = Rs; variables = variables; values = values }

  -- more than 64 records are refused before any of them is read
  shape_of-cases : (variables values : List ℕ) → Dec (length Rs ≤ max_relations) → Alike network_faults (network_of (shape_of Rs) variables values) (over variables values)
  shape_of-cases variables values (yes h) =
      same (ap (λ (Qs : List Relation). record { relations = Qs; variables = variables; values = values }) (relations_of-shape_of h))
  shape_of-cases variables values (no h) =
      let long : max_relations < length Rs = omega (arith, h) in
      many-alike (network_of (shape_of Rs) variables values) (over variables values) (subst (λ (n : ℕ). max_relations < n) (sym count-shape_of) long) long

  -- ---- The replies

  module _ (variables values : List ℕ) where
    pub shape_of-alike : Alike network_faults (network_of (shape_of Rs) variables values) (over variables values)
    shape_of-alike = shape_of-cases variables values (dec_le (length Rs) max_relations)

    pub compare_reply-shape_of : (g h : ℕ) → compare_reply (network_of (shape_of Rs) variables values) g h ≡ compare_reply (over variables values) g h
    compare_reply-shape_of g h = compare_reply-alike shape_of-alike g h

    pub enumeration_reply-shape_of : (m : ℕ) (list : List ℕ) → enumeration_reply (network_of (shape_of Rs) variables values) m list ≡ enumeration_reply (over variables values) m list
    enumeration_reply-shape_of m list = enumeration_reply-alike shape_of-alike m list

    module _ (m : ℕ) (members words : List ℕ) where
      abbrev within : Network → Instance
      within N = record { network = N; m = m; members = members }

      pub test_reply-shape_of : test_reply (within (network_of (shape_of Rs) variables values)) words ≡ test_reply (within (over variables values)) words
      test_reply-shape_of = test_reply-alike (instance-alike shape_of-alike m members) words

      module _ (supports counts : List ℕ) (change : Change) where
        abbrev request : Network → Request
        request N = record { given = within N; words = words; supports = supports; counts = counts; change = change }

        pub reply-shape_of : reply (request (network_of (shape_of Rs) variables values)) ≡ reply (request (over variables values))
        reply-shape_of = reply-alike (instance-alike shape_of-alike m members) words supports counts change
