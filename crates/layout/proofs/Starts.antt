-- Laws of starts: what stands in each table, that they describe the records whose starts they are, and how they are filled.
-- From the definitions of `table_of`, `starts_of` and `records_in`.
use mathlib.Core.Path.{◌≡◌, sym, ◌∙◌, ap}
use mathlib.Core.List.{List, [], ◌∷◌, ◌++◌, map}
use Prim.Native.Nat.{ℕ, ◌+◌, ◌-◌, ◌≤◌, ◌<◌}
use native.Mathlib.Nat.{zero-add}
use native.Mathlib.Numerals.{add-one}
use native.Mathlib.Decide.{dec_lt}
use native.Mathlib.Omega.{arith}
use borrow.Author.Count.{below_more}
use lib.ListN.{length, get_or, set, length-set, length-map, length-append, get_or-append}
use lib.Seq.{get_or-set_same, get_or-set_other, get_or-append-add, ext_get_or}
use Rattle.model.specs.declared.Relation.{Relation}
use Rattle.model.specs.Limits.{max_relations}
use Rattle.model.specs.Lists.{from}
use Rattle.model.specs.Network.{no_relation, variables_in, tuples_in, values_in, before}
use Rattle.model.proofs.Lists.{length_from, get_d-map-from}
use Rattle.model.proofs.Network.{before-suc, before-le}
use Rattle.model.proofs.Fault.{few-variables, few-values}
use Rattle.layout.specs.Starts.{table, starts_length, entry_bound, variable_start, tuple_start, value_start, relation_count, table_of, starts_of, record_in, records_in, Bounded}

-- ---- One table

table-length : (f : Relation → ℕ) (Rs : List Relation) → length (table_of f Rs) ≡ 65
unfolding table_of
table-length f Rs = length-map (from 0 65) (before f Rs) ∙ length_from 0 65

table_at : (f : Relation → ℕ) (Rs : List Relation) (r : ℕ) → r < table → get_or (table_of f Rs) r 0 ≡ before f Rs r
unfolding table_of
table_at f Rs r h = get_d-map-from (before f Rs) 0 65 r 0 h ∙ ap (before f Rs) (zero-add r)

-- ---- What stands in the list

behind : (xs ys : List ℕ) (n k : ℕ) → length xs ≡ n → get_or (xs ++ ys) (n + k) 0 ≡ get_or ys k 0
behind xs ys n k e = ap (λ (m : ℕ). get_or (xs ++ ys) (m + k) 0) (sym e) ∙ get_or-append-add xs ys k 0

module _ (Rs : List Relation) where
  abbrev behind-tuples : List ℕ
  behind-tuples = table_of values_in Rs ++ (length Rs ∷ [])

  abbrev behind-variables : List ℕ
  behind-variables = table_of tuples_in Rs ++ behind-tuples

  pub starts-length : length (starts_of Rs) ≡ starts_length
  unfolding starts_of
  starts-length =
      omega (
        arith,
        length-append (table_of variables_in Rs) behind-variables,
        length-append (table_of tuples_in Rs) behind-tuples,
        length-append (table_of values_in Rs) (length Rs ∷ []),
        table-length variables_in Rs,
        table-length tuples_in Rs,
        table-length values_in Rs,
      )

  pub variable_start-of : (r : ℕ) → r < table → variable_start (starts_of Rs) r ≡ before variables_in Rs r
  unfolding starts_of
  variable_start-of r h =
      get_or-append (table_of variables_in Rs) behind-variables 0 r (omega (arith, table-length variables_in Rs))
      ∙ table_at variables_in Rs r h

  -- an entry behind the first table, the second, the third
  second : (k : ℕ) → get_or (starts_of Rs) (65 + k) 0 ≡ get_or behind-variables k 0
  unfolding starts_of
  second k = behind (table_of variables_in Rs) behind-variables 65 k (table-length variables_in Rs)

  third : (k : ℕ) → get_or (starts_of Rs) (65 + (65 + k)) 0 ≡ get_or behind-tuples k 0
  third k = second (65 + k) ∙ behind (table_of tuples_in Rs) behind-tuples 65 k (table-length tuples_in Rs)

  last : (k : ℕ) → get_or (starts_of Rs) (65 + (65 + (65 + k))) 0 ≡ get_or (length Rs ∷ []) k 0
  last k = third (65 + k) ∙ behind (table_of values_in Rs) (length Rs ∷ []) 65 k (table-length values_in Rs)

  pub tuple_start-of : (r : ℕ) → r < table → tuple_start (starts_of Rs) r ≡ before tuples_in Rs r
  tuple_start-of r h =
      second r
      ∙ get_or-append (table_of tuples_in Rs) behind-tuples 0 r (omega (arith, table-length tuples_in Rs))
      ∙ table_at tuples_in Rs r h

  pub value_start-of : (r : ℕ) → r < table → value_start (starts_of Rs) r ≡ before values_in Rs r
  value_start-of r h =
      let e : 130 + r ≡ 65 + (65 + r) = omega arith in
      ap (λ (k : ℕ). get_or (starts_of Rs) k 0) e
      ∙ third r
      ∙ get_or-append (table_of values_in Rs) (length Rs ∷ []) 0 r (omega (arith, table-length values_in Rs))
      ∙ table_at values_in Rs r h

  pub relation_count-of : relation_count (starts_of Rs) ≡ length Rs
  relation_count-of = last 0

  -- ---- The records that they describe

  record_of : length Rs ≤ max_relations → (r : ℕ) → r < length Rs → record_in (starts_of Rs) r ≡ get_or Rs r no_relation
  record_of few r h = λ i. record { width = width i; tuples = tuples i }
    where
      difference : (f : Relation → ℕ) (a b : ℕ) → a ≡ before f Rs r → b ≡ before f Rs (r + 1) → b - a ≡ f (get_or Rs r no_relation)
      difference f a b d e = let n : before f Rs (r + 1) ≡ before f Rs r + f (get_or Rs r no_relation) = rw add-one (before-suc f Rs r h) in omega arith

      width : variable_start (starts_of Rs) (r + 1) - variable_start (starts_of Rs) r ≡ (get_or Rs r no_relation).width
      width = difference variables_in _ _ (variable_start-of r (omega arith)) (variable_start-of (r + 1) (omega arith))

      tuples : tuple_start (starts_of Rs) (r + 1) - tuple_start (starts_of Rs) r ≡ (get_or Rs r no_relation).tuples
      tuples = difference tuples_in _ _ (tuple_start-of r (omega arith)) (tuple_start-of (r + 1) (omega arith))

  pub records_in-of : length Rs ≤ max_relations → records_in (starts_of Rs) ≡ Rs
  unfolding records_in
  records_in-of few =
      let n = relation_count (starts_of Rs) in
      let long : length (map (record_in (starts_of Rs)) (from 0 n)) ≡ length Rs = length-map (from 0 n) (record_in (starts_of Rs)) ∙ length_from 0 n ∙ relation_count-of in
      ext_get_or no_relation (map (record_in (starts_of Rs)) (from 0 n)) Rs long (λ r h.
      let l : r < length Rs = omega (arith, long) in
      get_d-map-from (record_in (starts_of Rs)) 0 n r no_relation (omega (arith, relation_count-of))
      ∙ ap (record_in (starts_of Rs)) (zero-add r)
      ∙ record_of few r l)

-- ---- Filling the list from the front of each table

-- The first r entries of each table are written.
pub record Filled (Rs : List Relation) (r : ℕ) (xs : List ℕ) : Type 0 where
  pub long : length xs ≡ starts_length
  pub variables : (k : ℕ) → k < r → variable_start xs k ≡ before variables_in Rs k
  pub tuples : (k : ℕ) → k < r → tuple_start xs k ≡ before tuples_in Rs k
  pub values : (k : ℕ) → k < r → value_start xs k ≡ before values_in Rs k

pub filled_none : (Rs : List Relation) (xs : List ℕ) → length xs ≡ starts_length → Filled Rs 0 xs
filled_none Rs xs e =
    record { long = e; variables = λ k h. absurd (omega arith); tuples = λ k h. absurd (omega arith); values = λ k h. absurd (omega arith) }

-- three entries written
abbrev pub written3 : List ℕ → ℕ → ℕ → ℕ → ℕ → List ℕ
written3 xs r a b c = set (set (set xs r a) (65 + r) b) (130 + r) c

module _ (xs : List ℕ) (r a b c : ℕ) (long : length xs ≡ starts_length) (h : r < table) where
  abbrev ys : List ℕ
  ys = set xs r a

  abbrev zs : List ℕ
  zs = set ys (65 + r) b

  pub written3-length : length (written3 xs r a b c) ≡ starts_length
  written3-length = length-set zs (130 + r) c ∙ length-set ys (65 + r) b ∙ length-set xs r a ∙ long

  -- an entry that is none of the three
  pub written3-other : (k : ℕ) → (k ≡ r → ⊥) → (k ≡ 65 + r → ⊥) → (k ≡ 130 + r → ⊥) → get_or (written3 xs r a b c) k 0 ≡ get_or xs k 0
  written3-other k d e f = get_or-set_other zs (130 + r) k c 0 f ∙ get_or-set_other ys (65 + r) k b 0 e ∙ get_or-set_other xs r k a 0 d

  pub written3-variable : variable_start (written3 xs r a b c) r ≡ a
  written3-variable =
      get_or-set_other zs (130 + r) r c 0 (λ e. omega arith)
      ∙ get_or-set_other ys (65 + r) r b 0 (λ e. omega arith)
      ∙ get_or-set_same xs r a 0 (omega arith)

  pub written3-tuple : tuple_start (written3 xs r a b c) r ≡ b
  written3-tuple =
      get_or-set_other zs (130 + r) (65 + r) c 0 (λ e. omega arith)
      ∙ get_or-set_same ys (65 + r) b 0 (omega (arith, length-set xs r a))

  pub written3-value : value_start (written3 xs r a b c) r ≡ c
  written3-value = get_or-set_same zs (130 + r) c 0 (omega (arith, length-set ys (65 + r) b, length-set xs r a))

pub filled_more : (Rs : List Relation) (r : ℕ) (xs : List ℕ) (a b c : ℕ) → r < table → a ≡ before variables_in Rs r → b ≡ before tuples_in Rs r → c ≡ before values_in Rs r → Filled Rs r xs → Filled Rs (r + 1) (written3 xs r a b c)
filled_more Rs r xs a b c h ea eb ec f =
    record {
      long = written3-length xs r a b c f.long h;
      variables = below_more _ r
          (λ k l. written3-other xs r a b c f.long h k (λ e. omega arith) (λ e. omega arith) (λ e. omega arith) ∙ f.variables k l)
          (written3-variable xs r a b c f.long h ∙ ea);
      tuples = below_more _ r
          (λ k l. written3-other xs r a b c f.long h (65 + k) (λ e. omega arith) (λ e. omega arith) (λ e. omega arith) ∙ f.tuples k l)
          (written3-tuple xs r a b c f.long h ∙ eb);
      values = below_more _ r
          (λ k l. written3-other xs r a b c f.long h (130 + k) (λ e. omega arith) (λ e. omega arith) (λ e. omega arith) ∙ f.values k l)
          (written3-value xs r a b c f.long h ∙ ec);
    }

-- with the number of relations behind full tables, they are the starts
pub filled-starts : (Rs : List Relation) (r : ℕ) (xs : List ℕ) → 65 ≤ r → Filled Rs r xs → set xs 195 (length Rs) ≡ starts_of Rs
filled-starts Rs r xs h f = ext_get_or 0 (set xs 195 (length Rs)) (starts_of Rs) (length-set xs 195 (length Rs) ∙ f.long ∙ sym (starts-length Rs)) (λ k l. at k (omega (arith, length-set xs 195 (length Rs), f.long)) (dec_lt k 65) (dec_lt k 130) (dec_lt k 195))
  where
    other : (k : ℕ) → k < 195 → get_or (set xs 195 (length Rs)) k 0 ≡ get_or xs k 0
    other k l = get_or-set_other xs 195 k (length Rs) 0 (λ e. omega arith)

    at : (k : ℕ) → k < 196 → Dec (k < 65) → Dec (k < 130) → Dec (k < 195) → get_or (set xs 195 (length Rs)) k 0 ≡ get_or (starts_of Rs) k 0
    at k l (yes a) b c = other k (omega arith) ∙ f.variables k (omega arith) ∙ sym (variable_start-of Rs k a)
    at k l (no a) (yes b) c =
        let e : k ≡ 65 + (k - 65) = omega arith in
        other k (omega arith)
        ∙ rw e (f.tuples (k - 65) (omega arith) ∙ sym (tuple_start-of Rs (k - 65) (omega arith)))
    at k l (no a) (no b) (yes c) =
        let e : k ≡ 130 + (k - 130) = omega arith in
        other k (omega arith)
        ∙ rw e (f.values (k - 130) (omega arith) ∙ sym (value_start-of Rs (k - 130) (omega arith)))
    at k l (no a) (no b) (no c) =
        let e : k ≡ 195 = omega arith in
        rw e (get_or-set_same xs 195 (length Rs) 0 (omega (arith, f.long)) ∙ sym (relation_count-of Rs))

-- ---- Bounded records keep every start within 16 bits

module _ (Rs : List Relation) (b : Bounded Rs) (r : ℕ) where
  pub variables-fit : before variables_in Rs r < entry_bound
  variables-fit = let l = before-le variables_in Rs r in let k = few-variables Rs b.widths in omega (arith, b.relations)

  pub tuples-fit : before tuples_in Rs r < entry_bound
  tuples-fit = let l = before-le tuples_in Rs r in omega (arith, b.tuples)

  pub values-fit : before values_in Rs r < entry_bound
  values-fit = let l = before-le values_in Rs r in let k = few-values Rs b.widths in omega (arith, b.tuples)
