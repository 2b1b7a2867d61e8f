-- Laws of ids: a relation's ids are those whose relation it is. Laws of where a relation begins in the lists.
-- From the definitions alone.
use mathlib.Core.Path.{◌≡◌, sym, ap, ◌∙◌}
use mathlib.Core.Logic.{◌⊎◌, inl, inr}
use mathlib.Core.List.{List, [], ◌∷◌, map, Memᴰ}
use Prim.Native.Nat.{ℕ, zero, suc, ◌+◌, ◌-◌, ◌≤◌, ◌<◌}
use native.Mathlib.Omega.{arith}
use native.Mathlib.Decide.{dec_lt, dec_le}
use borrow.Author.Tests.{lt-ltb, le-ltb}
use lib.ListN.{length, get_or, get_or-eq_default}
use lib.Seq.{take_all}
use Rattle.model.specs.declared.Relation.{Relation}
use Rattle.model.specs.Lists.{sum}
use Rattle.model.specs.Network.{Network, no_relation, size, tuples_in, before, first_id, total, ids_of, relation_at, relation_of, index_of}
use Rattle.model.proofs.Lists.{from-mem, mem-from, sum-take-suc, sum-take-le}

size_at : List Relation → ℕ → ℕ
size_at Rs r = (get_or Rs r no_relation).tuples

-- g is one of the ids of relation r
Holds : List Relation → ℕ → ℕ → Type 0
Holds Rs r g = (before tuples_in Rs r ≤ g) × (g < before tuples_in Rs r + size_at Rs r)

relation_at-holds : (Rs : List Relation) (r g : ℕ) → Holds Rs r g → relation_at Rs g ≡ r
unfolding Holds size_at
relation_at-holds [] zero g h = absurd (omega arith)
relation_at-holds [] (suc r) g h = absurd (omega arith)
relation_at-holds (R ∷ Rs) zero g h = rw (lt-ltb g R.tuples (omega arith))
relation_at-holds (R ∷ Rs) (suc r) g h = rw (le-ltb g R.tuples (omega arith)) (ap suc (relation_at-holds Rs r (g - R.tuples) (omega arith, omega arith)))

Found : List Relation → ℕ → Type 0
Found Rs g = (relation_at Rs g < length Rs) × Holds Rs (relation_at Rs g) g

found-cons : (R : Relation) (Rs : List Relation) (g : ℕ) → (g - R.tuples < sum (map tuples_in Rs) → Found Rs (g - R.tuples)) → g < sum (map tuples_in (R ∷ Rs)) → Dec (g < R.tuples) → Found (R ∷ Rs) g
unfolding Found Holds size_at
found-cons R Rs g f h (yes k) = rw (lt-ltb g R.tuples k) (omega arith)
found-cons R Rs g f h (no k) = let l = f (omega arith) in rw (le-ltb g R.tuples (omega arith)) (omega arith)

found-at : (Rs : List Relation) (g : ℕ) → g < sum (map tuples_in Rs) → Found Rs g
found-at [] g h = absurd (omega arith)
found-at (R ∷ Rs) g h = found-cons R Rs g (found-at Rs (g - R.tuples)) h (dec_lt g R.tuples)

before-size : (Rs : List Relation) (r : ℕ) → before tuples_in Rs r + size_at Rs r ≤ sum (map tuples_in Rs)
unfolding size_at
before-size [] zero = omega arith
before-size [] (suc r) = omega arith
before-size (R ∷ Rs) zero = omega arith
before-size (R ∷ Rs) (suc r) = omega (arith, before-size Rs r)

module _ (N : Network) where
  pub size-total : (r : ℕ) → size N r ≤ total N
  unfolding size_at
  size-total r = omega (arith, before-size N.relations r)

  pub ids-below : {g : ℕ} (r : ℕ) → Memᴰ g (ids_of N r) → g < total N
  unfolding size_at
  ids-below {g} r m = omega (arith, from-mem (first_id N r) (size N r) g m, before-size N.relations r)

  pub relation_of-ids : {g : ℕ} (r : ℕ) → Memᴰ g (ids_of N r) → relation_of N g ≡ r
  unfolding relation_of Holds size_at
  relation_of-ids {g} r m = let k = from-mem (first_id N r) (size N r) g m in relation_at-holds N.relations r g (k.0, k.1)

  pub ids-relation_of : (g : ℕ) → g < total N → (relation_of N g < length N.relations) × Memᴰ g (ids_of N (relation_of N g))
  unfolding relation_of Found Holds size_at
  ids-relation_of g h =
      let k = found-at N.relations g h in
      (k.0, mem-from (first_id N (relation_of N g)) (size N (relation_of N g)) g k.1.0 k.1.1)

  -- a relation with a tuple exists
  pub size_below : (r x : ℕ) → x < size N r → r < length N.relations
  size_below r x h = below r x h (dec_lt r (length N.relations))
    where
      below : (r x : ℕ) → x < size N r → Dec (r < length N.relations) → r < length N.relations
      below r x h (yes k) = k
      below r x h (no k) =
          let e : get_or N.relations r no_relation ≡ no_relation = get_or-eq_default N.relations no_relation (omega arith) in
          absurd (let l : x < 0 = rw (ap tuples_in e) at h in omega arith)

  -- the tuple at index x of relation r
  pub relation_of-at : (r x : ℕ) → x < size N r → relation_of N (first_id N r + x) ≡ r
  relation_of-at r x h = relation_of-ids r (mem-from (first_id N r) (size N r) (first_id N r + x) (omega arith) (omega arith))

  pub index_of-at : (r x : ℕ) → x < size N r → index_of N (first_id N r + x) ≡ x
  unfolding index_of
  index_of-at r x h = rw (relation_of-at r x h) (omega arith)

  -- where the tuple with id g stands
  pub index-bounds : (g : ℕ) → g < total N → (first_id N (relation_of N g) ≤ g) × (g < first_id N (relation_of N g) + size N (relation_of N g))
  index-bounds g h = from-mem (first_id N (relation_of N g)) (size N (relation_of N g)) g (ids-relation_of g h).1

-- ---- Where relations begin

module _ (f : Relation → ℕ) where
  -- one relation more
  pub before-suc : (Rs : List Relation) (r : ℕ) → r < length Rs → before f Rs (suc r) ≡ before f Rs r + f (get_or Rs r no_relation)
  before-suc = sum-take-suc f no_relation

  -- past the last relation: the total
  pub before-past : (Rs : List Relation) (r : ℕ) → length Rs ≤ r → before f Rs r ≡ sum (map f Rs)
  before-past Rs r h = ap (λ (Qs : List Relation). sum (map f Qs)) (take_all r Rs h)

  pub before-le : (Rs : List Relation) (r : ℕ) → before f Rs r ≤ sum (map f Rs)
  before-le = sum-take-le f

  -- a relation lies within the total
  pub before-within : (Rs : List Relation) (r : ℕ) → r < length Rs → before f Rs r + f (get_or Rs r no_relation) ≤ sum (map f Rs)
  before-within Rs r h = let e = before-suc Rs r h in let l = before-le Rs (suc r) in omega arith

-- a tuple of one relation lies outside every other
pub ids-apart : (N : Network) (q z s : ℕ) → z < size N q → (s ≡ q → ⊥) → (first_id N q + z < first_id N s) ⊎ (first_id N s + size N s ≤ first_id N q + z)
ids-apart N q z s h d = go (dec_lt g (first_id N s)) (dec_le (first_id N s + size N s) g)
  where
    g : ℕ
    g = first_id N q + z

    inner : first_id N s ≤ g → g < first_id N s + size N s → s ≡ q
    inner l k =
        let e : first_id N s + (g - first_id N s) ≡ g = omega arith in
        sym (ap (relation_of N) (sym e) ∙ relation_of-at N s (g - first_id N s) (omega arith)) ∙ relation_of-at N q z h

    go : Dec (g < first_id N s) → Dec (first_id N s + size N s ≤ g) → (g < first_id N s) ⊎ (first_id N s + size N s ≤ g)
    go (yes l) k = inl l
    go (no l) (yes k) = inr k
    go (no l) (no k) = absurd (d (inner (omega arith) (omega arith)))
