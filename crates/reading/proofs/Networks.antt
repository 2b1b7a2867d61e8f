-- How a relation is read from its record, its scope and its values, and relations one by one, behind those read before; their records
-- in the shape, and the noughts behind them.
-- From the definitions of `read_record`, `read_relation`, `read_relations` and `shape_of`.
use mathlib.Core.Path.{◌≡◌, refl, sym, ap, ap₂, subst, ◌∙◌}
use mathlib.Core.Bool.{Bool, true, false, ◌&&◌, cond}
use mathlib.Core.Option.{none, some}
use mathlib.Core.List.{List, [], ◌∷◌, ◌++◌, append_assoc, map, map-append}
use Prim.Native.Nat.{ℕ, zero, suc, ◌+◌, ◌-◌, ◌≤◌, ◌<◌}
use native.Mathlib.Nat.{le_of_suc-le-suc, zero-add, sub-zero}
use native.Mathlib.Numerals.{add-one}
use native.Mathlib.Omega.{arith}
use borrow.Author.Tests.{le-leb, lt-leb, leb-true}
use lib.Dec.{leb}
use lib.ListN.{length, get_or, take, drop, set, length-append, length-map}
use lib.Seq.{take_all, get_or-set_same, get_or-set_other}
use Rattle.model.specs.declared.Relation.{Relation}
use Rattle.model.specs.Limits.{max_relations, max_width}
use Rattle.model.specs.Lists.{from}
use Rattle.model.specs.Network.{Network, size, no_relation, variables_in, tuples_in}
use Rattle.model.specs.Fault.{within}
use Rattle.model.specs.Text.{max_field, max_code}
use Rattle.model.specs.Reading.{Read, and_then, read_line, read_lines, read_relations}
use Rattle.model.proofs.Bools.{and_left}
use Rattle.model.proofs.Lists.{from-append, map-from-same}
use Rattle.layout.specs.declared.Shape.{Shape}
use Rattle.layout.specs.Shape.{padded, shape_of, record_at, relations_of, network_of}
use Rattle.layout.proofs.Relations.{relation-count}
use Rattle.reading.specs.Parts.{found_at, map_read, behind, append, single, unlisted, read_record, read_relation, blank_shape, IsBlankBehind}
use Rattle.reading.proofs.Found.{behind-nil, map-split, map_found, passed-test}

-- a line read into a list of its own
pub line-alone : (top n : ℕ) (t T xs : List ℕ) (next : ℕ) → length xs ≡ n → found_at next (take (0 + n) xs) t ≡ behind [] (read_line top n T) → found_at next xs t ≡ read_line top n T
line-alone top n t T xs next e h =
    ap (λ (ys : List ℕ). found_at next ys t) (sym (take_all (0 + n) xs (omega arith))) ∙ h ∙ behind-nil (read_line top n T)

-- the record, once its line is read
module _ (room : ℕ) (T : List ℕ) where
  pub record-none : read_line max_field 2 T ≡ none → read_record room T ≡ none
  unfolding read_record
  record-none e = rw e

  module _ (head rest : List ℕ) (e : read_line max_field 2 T ≡ some (head, rest)) (w n : ℕ) (p : w ≡ get_or head 0 0) (q : n ≡ get_or head 1 0) where
    record-read : read_record room T ≡ cond (within 1 max_width w && leb n room) (some (record { width = w; tuples = n }, rest)) none
    unfolding read_record
    record-read = rw (e, p, q)

    pub record-wrong : within 1 max_width w ≡ false → read_record room T ≡ none
    record-wrong h = record-read ∙ rw h

    module _ (h : within 1 max_width w ≡ true) where
      pub record-many : room < n → read_record room T ≡ none
      record-many m = record-read ∙ rw (h, lt-leb n room m)

      pub record-proper : n ≤ room → read_record room T ≡ some (record { width = w; tuples = n }, rest)
      record-proper m = record-read ∙ rw (h, le-leb n room m)

-- a record that was read has a width
pub record-width : (room : ℕ) (T : List ℕ) (R : Relation) (rest : List ℕ) → read_record room T ≡ some (R, rest) → 0 < R.width
unfolding read_record
record-width room T R rest h =
    let s = passed-test (λ (head : List ℕ). within 1 max_width (get_or head 0 0) && leb (get_or head 1 0) room) (λ (head : List ℕ). record { width = get_or head 0 0; tuples = get_or head 1 0 }) (read_line max_field 2 T) R rest h in
    let width : get_or s.0 0 0 ≡ R.width = ap (λ (Q : Relation). Q.width) s.2 in
    let broad : 1 ≤ get_or s.0 0 0 = leb-true 1 (get_or s.0 0 0) (and_left _ _ (and_left _ _ s.1)) in
    omega arith

-- a relation, once its record is read
module _ (room : ℕ) (T : List ℕ) where
  pub relation-none : read_record room T ≡ none → read_relation room T ≡ none
  unfolding read_relation
  relation-none e = rw e

  module _ (R : Relation) (rest : List ℕ) (e : read_record room T ≡ some (R, rest)) where
    pub relation-scopeless : read_line max_field R.width rest ≡ none → read_relation room T ≡ none
    unfolding read_relation
    relation-scopeless s = rw (e, s)

    relation-read : (scope rest' : List ℕ) → read_line max_field R.width rest ≡ some (scope, rest') → read_relation room T ≡ map_read (single R scope) (read_lines max_code R.tuples R.width rest')
    unfolding read_relation
    relation-read scope rest' s = rw (e, s)

    -- its scope behind the numbers us, its values behind zs
    pub relation-found : (t us ws zs ys : List ℕ) (scope-end next : ℕ) → found_at scope-end ws t ≡ behind us (read_line max_field R.width rest) → (scope-end ≡ 0 → ⊥)
        → found_at next ys t ≡ behind zs (read_lines max_code R.tuples R.width (drop scope-end t))
        → found_at next (single R ws ys) t ≡ map_read (append (unlisted us zs)) (read_relation room T)
    relation-found t us ws zs ys scope-end next hs n hv =
        let s = map-split (λ (vs : List ℕ). us ++ vs) t scope-end ws (read_line max_field R.width rest) hs n in
        ap (λ (vs : List ℕ). found_at next (single R vs ys) t) s.2
        ∙ sym (map_found (single R (us ++ s.0)) t next ys)
        ∙ ap (map_read (single R (us ++ s.0))) hv
        ∙ values-behind us zs s.0 (read_lines max_code R.tuples R.width (drop scope-end t))
        ∙ ap (map_read (append (unlisted us zs))) (sym (relation-read s.0 (drop scope-end t) s.1))
      where
        values-behind : (us zs scope : List ℕ) (L : Read (List ℕ)) → map_read (single R (us ++ scope)) (behind zs L) ≡ map_read (append (unlisted us zs)) (map_read (single R scope) L)
        values-behind us zs scope none = refl
        values-behind us zs scope (some r) = refl

-- ---- Relations one by one

-- networks with the same lists
network-same : {Rs Rs' : List Relation} {us us' zs zs' : List ℕ} → Rs ≡ Rs' → us ≡ us' → zs ≡ zs' → ◌≡◌ {A = Network} (record { relations = Rs; variables = us; values = zs }) (record { relations = Rs'; variables = us'; values = zs' })
network-same {us = us} {zs = zs} p q r = rw (p, q, r)

append-behind : (N M : Network) (R : Read Network) → map_read (append N) (map_read (append M) R) ≡ map_read (append (append N M)) R
append-behind N M none = refl
append-behind N M (some r) =
    let L = r.0 in
    ap (λ (K : Network). some (K, r.1))
    (network-same (sym (append_assoc N.relations M.relations L.relations)) (sym (append_assoc N.variables M.variables L.variables)) (sym (append_assoc N.values M.values L.values)))

-- the first relation, and then the others
module _ (k room : ℕ) (T : List ℕ) where
  abbrev First : Type 0
  First = read_relations (suc k) room T ≡ and_then (read_relation room T) (λ (N : Network) (rest : List ℕ). map_read (append N) (read_relations k (room - size N 0) rest))

  abbrev fits : List ℕ → Bool
  fits head = within 1 max_width (get_or head 0 0) && leb (get_or head 1 0) room

  module _ (head rest : List ℕ) (e : read_line max_field 2 T ≡ some (head, rest)) where
    first-values : fits head ≡ true → (scope rest' : List ℕ) → read_line max_field (get_or head 0 0) rest ≡ some (scope, rest') → (L : Read (List ℕ)) → read_lines max_code (get_or head 1 0) (get_or head 0 0) rest' ≡ L → First
    unfolding read_relation read_record
    first-values q scope rest' s none v = rw (e, q, s, v)
    first-values q scope rest' s (some r) v = rw (e, q, s, v)

    first-scope : fits head ≡ true → (L : Read (List ℕ)) → read_line max_field (get_or head 0 0) rest ≡ L → First
    unfolding read_relation read_record
    first-scope q none s = rw (e, q, s)
    first-scope q (some r) s = first-values q r.0 r.1 s (read_lines max_code (get_or head 1 0) (get_or head 0 0) r.1) refl

    first-record : (b : Bool) → fits head ≡ b → First
    unfolding read_relation read_record
    first-record false q = rw (e, q)
    first-record true q = first-scope q (read_line max_field (get_or head 0 0) rest) refl

  first-line : (L : Read (List ℕ)) → read_line max_field 2 T ≡ L → First
  unfolding read_relation read_record
  first-line none e = rw e
  first-line (some r) e = first-record r.0 r.1 e (fits r.0) refl

  relations-first : First
  relations-first = first-line (read_line max_field 2 T) refl

module _ (j k room : ℕ) (T : List ℕ) (q : k ≡ j + 1) where
  -- the next relation is not in the form
  pub relations-stop : (N : Network) → read_relation room T ≡ none → map_read (append N) (read_relations k room T) ≡ none
  relations-stop N e =
      let first : read_relations k room T ≡ none = rw (q, add-one) (relations-first j room T ∙ rw e) in
      ap (map_read (append N)) first

  relations-then : (N M : Network) (rest : List ℕ) → read_relation room T ≡ some (M, rest) → map_read (append N) (read_relations k room T) ≡ map_read (append (append N M)) (read_relations j (room - size M 0) rest)
  relations-then N M rest e =
      let first : read_relations k room T ≡ map_read (append M) (read_relations j (room - size M 0) rest) = rw (q, add-one) (relations-first j room T ∙ rw e) in
      ap (map_read (append N)) first ∙ append-behind N M (read_relations j (room - size M 0) rest)

  -- one relation more, behind those of N
  pub relations-more : (t : List ℕ) (N : Network) (R : Relation) (ws ys : List ℕ) (next : ℕ)
      → found_at next (single R ws ys) t ≡ map_read (append (unlisted N.variables N.values)) (read_relation room T) → (next ≡ 0 → ⊥)
      → map_read (append N) (read_relations k room T) ≡ map_read (append (record { relations = N.relations ++ (R ∷ []); variables = ws; values = ys })) (read_relations j (room - R.tuples) (drop next t))
  relations-more t N R ws ys next h n =
      let s = map-split (append (unlisted N.variables N.values)) t next (single R ws ys) (read_relation room T) h n in
      let M = s.0 in
      let Rs : R ∷ [] ≡ M.relations = ap (λ (K : Network). K.relations) s.2 in
      let us : ws ≡ N.variables ++ M.variables = ap (λ (K : Network). K.variables) s.2 in
      let zs : ys ≡ N.values ++ M.values = ap (λ (K : Network). K.values) s.2 in
      let room-left : room - size M 0 ≡ room - R.tuples = ap (λ (Qs : List Relation). room - (get_or Qs 0 no_relation).tuples) (sym Rs) in
      relations-then N M (drop next t) s.1
      ∙ ap₂ (λ (K : Network) (i : ℕ). map_read (append K) (read_relations j i (drop next t)))
      (network-same (ap (λ (Qs : List Relation). N.relations ++ Qs) (sym Rs)) (sym us) (sym zs)) room-left

-- ---- The records

-- one record more
pub records-more : (r : ℕ) (widths tuples : List ℕ) (w n : ℕ) → r < length widths → r < length tuples
    → relations_of (record { count = r + 1; widths = set widths r w; tuples = set tuples r n }) ≡ relations_of (record { count = r; widths = widths; tuples = tuples }) ++ (record { width = w; tuples = n } ∷ [])
unfolding relations_of
records-more r widths tuples w n h l =
    let S : Shape = record { count = r; widths = widths; tuples = tuples } in
    let S' : Shape = record { count = r + 1; widths = set widths r w; tuples = set tuples r n } in
    let last : record_at S' (0 + r) ≡ record { width = w; tuples = n } = rw (zero-add, get_or-set_same widths r w 0 h, get_or-set_same tuples r n 0 l) in
    ap (map (record_at S')) (from-append 0 r 1)
    ∙ map-append (record_at S') (from 0 r) (from (0 + r) 1)
    ∙ ap₂ (λ (Rs : List Relation) (R : Relation). Rs ++ (R ∷ []))
    (map-from-same (record_at S') (record_at S) 0 r (λ i z b. ap₂ (λ (x y : ℕ). record { width = x; tuples = y }) (get_or-set_other widths r i w 0 (λ e. omega arith)) (get_or-set_other tuples r i n 0 (λ e. omega arith))))
    last

-- one number more before the noughts
padded-more : (n : ℕ) (xs : List ℕ) (x : ℕ) → length xs < n → padded n (xs ++ (x ∷ [])) ≡ set (padded n xs) (length xs) x
unfolding padded
padded-more zero xs x h = absurd (omega arith)
padded-more (suc n) [] x h = refl
padded-more (suc n) (y ∷ xs) x h = ap (λ (ys : List ℕ). y ∷ ys) (padded-more n xs x (le_of_suc-le-suc h))

-- .. of each record
numbers_more : (f : Relation → ℕ) (Rs : List Relation) (R : Relation) (r : ℕ) (xs : List ℕ) → length Rs ≡ r → r < max_relations
    → xs ≡ padded max_relations (map f Rs) → set xs r (f R) ≡ padded max_relations (map f (Rs ++ (R ∷ [])))
numbers_more f Rs R r xs c h e =
    let k : length (map f Rs) ≡ r = length-map Rs f ∙ c in
    ap (λ (ys : List ℕ). set ys r (f R)) e
    ∙ ap (λ (i : ℕ). set (padded max_relations (map f Rs)) i (f R)) (sym k)
    ∙ sym (padded-more max_relations (map f Rs) (f R) (omega arith))
    ∙ ap (padded max_relations) (sym (map-append f Rs (R ∷ [])))

module _ (r : ℕ) (widths tuples : List ℕ) where
  abbrev shape : Shape
  shape = record { count = r; widths = widths; tuples = tuples }

  -- behind one record more there are still noughts
  pub blank-more : (w n : ℕ) → r < max_relations → r < length widths → r < length tuples → IsBlankBehind shape → IsBlankBehind (record { count = r + 1; widths = set widths r w; tuples = set tuples r n })
  unfolding shape_of
  blank-more w n h k l e =
      let R : Relation = record { width = w; tuples = n } in
      let Rs = relations_of shape in
      let c = relation-count shape in
      let counts : r + 1 ≡ length (Rs ++ (R ∷ [])) = omega (arith, c, length-append Rs (R ∷ [])) in
      let ws = numbers_more variables_in Rs R r widths c h (ap (λ (S : Shape). S.widths) e) in
      let ts = numbers_more tuples_in Rs R r tuples c h (ap (λ (S : Shape). S.tuples) e) in
      let taken : record { count = r + 1; widths = set widths r w; tuples = set tuples r n } ≡ shape_of (Rs ++ (R ∷ [])) = λ j. record { count = counts j; widths = ws j; tuples = ts j } in
      taken ∙ ap shape_of (sym (records-more r widths tuples w n k l))

-- before the first record is read there are noughts only
pub blank-start : (count : ℕ) (S : Shape) → S ≡ blank_shape count → IsBlankBehind (record { count = 0; widths = S.widths; tuples = S.tuples })
unfolding padded shape_of relations_of
blank-start count S e = subst (λ (T : Shape). IsBlankBehind (record { count = 0; widths = T.widths; tuples = T.tuples })) (sym e) refl

-- before the first relation
pub relations-start : (k room : ℕ) (T widths tuples : List ℕ) → map_read (append (network_of (record { count = 0; widths = widths; tuples = tuples }) [] [])) (read_relations (k - 0) room T) ≡ read_relations k room T
unfolding relations_of
relations-start k room T widths tuples = go (read_relations (k - 0) room T) ∙ ap (λ (i : ℕ). read_relations i room T) (sub-zero k)
  where
    go : (R : Read Network) → map_read (append (unlisted [] [])) R ≡ R
    go none = refl
    go (some r) = refl
