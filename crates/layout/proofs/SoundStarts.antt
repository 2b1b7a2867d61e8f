-- Laws of sound starts: what stands in each table at every number up to 64, a relation or not, and the relation and the index of an id.
-- From the laws of starts, and of where relations begin.
use mathlib.Core.Path.{◌≡◌, refl, ◌∙◌, ap}
use mathlib.Core.List.{List}
use Prim.Native.Nat.{ℕ, zero, suc, ◌+◌, ◌-◌, ◌*◌, ◌≤◌, ◌<◌}
use native.Mathlib.Numerals.{add-one}
use native.Mathlib.Decide.{dec_lt}
use native.Mathlib.Omega.{arith}
use borrow.Author.Tests.{leb-true}
use lib.Dec.{leb}
use lib.ListN.{length, get_or, get_or-eq_default}
use Rattle.model.specs.declared.Relation.{Relation}
use Rattle.model.specs.Limits.{max_relations, max_width, max_tuples, word_bits}
use Rattle.model.specs.Network.{Network, no_relation, width, size, total, variables_in, tuples_in, values_in, before, first_id, relation_of}
use Rattle.model.specs.Fault.{within}
use Rattle.model.proofs.Bools.{and_right}
use Rattle.model.proofs.Lists.{mem-from, all_get_d}
use Rattle.model.proofs.Network.{relation_of-ids, ids-relation_of, index-bounds, before-suc, before-past, before-le}
use Rattle.layout.specs.Starts.{table, variable_start, tuple_start, value_start, relation_count, records_in, outline, SoundStarts}
use Rattle.layout.specs.Places.{width_in}
use Rattle.layout.proofs.Starts.{variable_start-of, tuple_start-of, value_start-of, relation_count-of}

past : (Rs : List Relation) (r : ℕ) → length Rs ≤ r → get_or Rs r no_relation ≡ no_relation
past Rs r h = get_or-eq_default Rs no_relation h

-- where the next relation begins; past the last one all is empty
before-next : (f : Relation → ℕ) → f no_relation ≡ 0 → (Rs : List Relation) (r : ℕ) → before f Rs (r + 1) ≡ before f Rs r + f (get_or Rs r no_relation)
before-next f z Rs r = rw add-one (go (dec_lt r (length Rs)))
  where
    go : Dec (r < length Rs) → before f Rs (suc r) ≡ before f Rs r + f (get_or Rs r no_relation)
    go (yes h) = before-suc f Rs r h
    go (no h) =
        let e : f (get_or Rs r no_relation) ≡ 0 = ap f (past Rs r (omega arith)) ∙ z in
        omega (arith, e, before-past f Rs r (omega arith), before-past f Rs (suc r) (omega arith))

module _ {xs : List ℕ} (framed : SoundStarts xs) where
  abbrev N : Network
  N = outline xs

  abbrev Rs : List Relation
  Rs = records_in xs

  pub relations-few : length Rs ≤ max_relations
  relations-few = framed.bounded.relations

  pub relation-count : relation_count xs ≡ length Rs
  relation-count = ap relation_count framed.are ∙ relation_count-of Rs

  -- ---- What stands in each table

  pub variable-start : (r : ℕ) → r < table → variable_start xs r ≡ before variables_in Rs r
  variable-start r h = ap (λ (ys : List ℕ). variable_start ys r) framed.are ∙ variable_start-of Rs r h

  pub tuple-start : (r : ℕ) → r < table → tuple_start xs r ≡ first_id N r
  tuple-start r h = ap (λ (ys : List ℕ). tuple_start ys r) framed.are ∙ tuple_start-of Rs r h

  pub value-start : (r : ℕ) → r < table → value_start xs r ≡ before values_in Rs r
  value-start r h = ap (λ (ys : List ℕ). value_start ys r) framed.are ∙ value_start-of Rs r h

  pub tuple-count : tuple_start xs max_relations ≡ total N
  tuple-count = tuple-start max_relations (omega arith) ∙ before-past tuples_in Rs max_relations relations-few

  pub tuples-few : total N ≤ max_tuples
  tuples-few = framed.bounded.tuples

  -- ---- One number below 64

  module _ (r : ℕ) (h : r < max_relations) where
    pub variable-end : variable_start xs (r + 1) ≡ before variables_in Rs r + width N r
    variable-end = variable-start (r + 1) (omega arith) ∙ before-next variables_in refl Rs r

    pub tuple-end : tuple_start xs (r + 1) ≡ first_id N r + size N r
    tuple-end = tuple-start (r + 1) (omega arith) ∙ before-next tuples_in refl Rs r

    pub value-end : value_start xs (r + 1) ≡ before values_in Rs r + width N r * size N r
    value-end = value-start (r + 1) (omega arith) ∙ before-next values_in refl Rs r

    pub width-in : width_in xs r ≡ width N r
    width-in = omega (arith, variable-start r (omega arith), variable-end)

    pub size_in : tuple_start xs (r + 1) - tuple_start xs r ≡ size N r
    size_in = omega (arith, tuple-start r (omega arith), tuple-end)

    pub scope-rises : variable_start xs r ≤ variable_start xs (r + 1)
    scope-rises = omega (arith, variable-start r (omega arith), variable-end)

    pub ids-rise : tuple_start xs r ≤ tuple_start xs (r + 1)
    ids-rise = omega (arith, tuple-start r (omega arith), tuple-end)

    pub ids-within : tuple_start xs (r + 1) ≤ total N
    ids-within = omega (arith, tuple-start (r + 1) (omega arith), before-le tuples_in Rs (r + 1))

    pub ids-inside : tuple_start xs (r + 1) ≤ tuple_start xs max_relations
    ids-inside = omega (arith, ids-within, tuple-count)

    pub ids-few : tuple_start xs (r + 1) ≤ max_tuples
    ids-few = omega (arith, ids-within, tuples-few)

    -- what a walk of the relation's ids asks of the words
    pub ids-asks : (g : ℕ) (words : List ℕ) → g ≤ tuple_start xs (r + 1) → total N ≤ word_bits * length words → (g ≤ tuple_start xs (r + 1)) × (tuple_start xs (r + 1) ≤ word_bits * length words) × (tuple_start xs (r + 1) ≤ max_tuples)
    ids-asks g words l enough = (l, omega (arith, ids-within), ids-few)

    pub columns-few : width N r ≤ max_width
    columns-few = go (dec_lt r (length Rs))
      where
        go : Dec (r < length Rs) → width N r ≤ max_width
        go (yes l) =
            leb-true (width N r) max_width
            (and_right (leb 1 (width N r)) (leb (width N r) max_width)
            (all_get_d (λ (R : Relation). within 1 max_width R.width) Rs r no_relation framed.bounded.widths l))
        go (no l) = let e : width N r ≡ 0 = ap variables_in (past Rs r (omega arith)) in omega arith

  -- ---- The relation and the index of an id

  module _ (r g : ℕ) (h : r < max_relations) where
    begun : (q : ℕ) → q ≡ r → ((k : ℕ) → k < r → tuple_start xs (k + 1) ≤ g) → first_id N q ≤ g
    begun zero p f = omega arith
    begun (suc q) p f =
        let a = f q (omega arith) in
        let b = tuple-start (q + 1) (omega arith) in
        rw (← add-one) (omega arith)

    -- the relations before r end at or before g, and r ends after it
    pub relation-between : ((k : ℕ) → k < r → tuple_start xs (k + 1) ≤ g) → g < tuple_start xs (r + 1) → relation_of N g ≡ r
    relation-between f m =
        relation_of-ids N r (mem-from (first_id N r) (size N r) g (begun r refl f) (omega (arith, tuple-end r h)))

  -- a relation that ends at or before g is not the last of 64, if g is below the total
  pub relation-later : (r g : ℕ) → r < max_relations → g < total N → tuple_start xs (r + 1) ≤ g → r + 1 < max_relations
  relation-later r g h t l = below (dec_lt (r + 1) 64)
    where
      below : Dec (r + 1 < 64) → r + 1 < 64
      below (yes k) = k
      below (no k) =
          let e : r + 1 ≡ 64 = omega arith in
          absurd (let m : tuple_start xs 64 ≤ g = rw e at l in omega (arith, tuple-count))

  module _ (g : ℕ) (h : g < total N) where
    pub id-relation : relation_of N g < max_relations
    id-relation = let l = (ids-relation_of N g h).0 in omega (arith, relations-few)

    id-start : tuple_start xs (relation_of N g) ≡ first_id N (relation_of N g)
    id-start = tuple-start (relation_of N g) (omega (arith, id-relation))

    pub id-begun : tuple_start xs (relation_of N g) ≤ g
    id-begun = omega (arith, id-start, index-bounds N g h)

    pub id-index : g - tuple_start xs (relation_of N g) < size N (relation_of N g)
    id-index = omega (arith, id-start, index-bounds N g h)

    pub id-back : first_id N (relation_of N g) + (g - tuple_start xs (relation_of N g)) ≡ g
    id-back = omega (arith, id-start, index-bounds N g h)
