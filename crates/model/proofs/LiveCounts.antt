-- Laws of the live counts: one for each relation, together the size of the set, and when the counts lent are true.
-- From the definitions, and the laws of ids and of counts of a stretch.
use mathlib.Core.Path.{◌≡◌, refl, sym, ◌∙◌, ap, ap₂}
use mathlib.Core.Bool.{Bool, true, false, not, false≢true}
use mathlib.Core.List.{List, [], ◌∷◌, map, Memᴰ}
use Prim.Native.Nat.{ℕ, zero, suc, ◌+◌, ◌*◌, ◌≤◌, ◌<◌}
use native.Mathlib.Nat.{zero-add}
use native.Mathlib.Omega.{arith}
use lib.Dec.{eqb}
use lib.ListN.{length, get_or, length-map}
use lib.Seq.{ext_get_or}
use borrow.Author.Tests.{eq-eqb, eqb-true, not-false}
use Rattle.model.specs.Limits.{word_bits}
use Rattle.model.specs.Lists.{from, sum, equal}
use Rattle.model.specs.TupleSet.{TupleSet, has, count}
use Rattle.model.specs.Network.{Network, tuples_in, size, total, first_id, ids_of}
use Rattle.model.specs.LiveCounts.{live_count, live_counts}
use Rattle.model.specs.LiveWords.{is_live, living_from, living, written}
use Rattle.model.specs.Fault.{untrue}
use Rattle.model.proofs.Bools.{and_left, and_right, and_intro}
use Rattle.model.proofs.Lists.{mem-from, length_from, get_d-map-from, map-from-same}
use Rattle.model.proofs.Network.{before-suc, before-past, before-within}
use Rattle.model.proofs.LiveWords.{count_add, living-has, living-written}

-- ---- Equal lists

pub equal-self : (xs : List ℕ) → equal xs xs ≡ true
equal-self [] = refl
equal-self (x ∷ xs) = and_intro (eq-eqb x x refl) (equal-self xs)

pub equal-true : (xs ys : List ℕ) → equal xs ys ≡ true → xs ≡ ys
equal-true [] [] e = refl
equal-true [] (y ∷ ys) e = absurd (false≢true e)
equal-true (x ∷ xs) [] e = absurd (false≢true e)
equal-true (x ∷ xs) (y ∷ ys) e =
    ap₂ {C = List ℕ} (λ a t. a ∷ t) (eqb-true x y (and_left (eqb x y) (equal xs ys) e)) (equal-true xs ys (and_right (eqb x y) (equal xs ys) e))

-- ---- One for each relation

module _ (N : Network) where
  pub counts-length : (S : TupleSet) → length (live_counts N S) ≡ length N.relations
  unfolding live_counts
  counts-length S = length-map (from 0 (length N.relations)) (live_count N S) ∙ length_from 0 (length N.relations)

  pub counts-at : (S : TupleSet) (r : ℕ) → r < length N.relations → get_or (live_counts N S) r 0 ≡ live_count N S r
  unfolding live_counts
  counts-at S r h = get_d-map-from (live_count N S) 0 (length N.relations) r 0 h ∙ ap (live_count N S) (zero-add r)

  -- sets that have the same tuples of relation r
  pub count_same : (S T : TupleSet) (r : ℕ) → ((g : ℕ) → Memᴰ g (ids_of N r) → has S g ≡ has T g) → live_count N S r ≡ live_count N T r
  count_same S T r f =
      ap count (map-from-same (has S) (has T) (first_id N r) (size N r) (λ g l h. f g (mem-from (first_id N r) (size N r) g l h)))

  -- of live words
  pub count-living : (ws : List ℕ) (r : ℕ) → r < length N.relations → live_count N (living (total N) ws) r ≡ count (living_from (first_id N r) (size N r) ws)
  count-living ws r h =
      ap count (map-from-same (has (living (total N) ws)) (is_live ws) (first_id N r) (size N r) (λ g l k. living-has (total N) ws g (omega (arith, k, before-within tuples_in N.relations r h))))

-- ---- Together

module _ (N : Network) (S : TupleSet) where
  -- of the ids below n
  front : ℕ → ℕ
  front n = count (map (has S) (from 0 n))

  sums : (k i : ℕ) → i + k ≤ length N.relations → front (first_id N i) + sum (map (live_count N S) (from i k)) ≡ front (first_id N (i + k))
  unfolding front
  sums zero i h = let e : i + 0 ≡ i = omega arith in rw e (omega arith)
  sums (suc k) i h =
      let e : i + suc k ≡ suc i + k = omega arith in
      let one : first_id N (suc i) ≡ first_id N i + size N i = before-suc tuples_in N.relations i (omega arith) in
      let more : front (first_id N (suc i)) ≡ front (first_id N i) + live_count N S i = ap front one ∙ count_add (has S) 0 (first_id N i) (size N i) ∙ ap (λ (a : ℕ). front (first_id N i) + count (map (has S) (from a (size N i)))) (zero-add (first_id N i)) in
      let rest = sums k (suc i) (omega arith) in
      rw e (omega (arith, more, rest))

  pub counts-sum : length S ≡ total N → sum (live_counts N S) ≡ count S
  unfolding live_counts front
  counts-sum long =
      let n = length N.relations in
      let all : front (first_id N n) ≡ count S =
      ap front (before-past tuples_in N.relations n (omega arith) ∙ sym long)
      ∙ ap count (ext_get_or false (map (has S) (from 0 (length S))) S (length-map (from 0 (length S)) (has S) ∙ length_from 0 (length S)) (λ g h. get_d-map-from (has S) 0 (length S) g false (omega (arith, h, length-map (from 0 (length S)) (has S), length_from 0 (length S))) ∙ ap (has S) (zero-add g))) in
      let e = ap (λ (k : ℕ). front (first_id N k)) (zero-add n) in
      omega (arith, sums n 0 (omega arith), e, all)

-- ---- True counts

module _ (N : Network) where
  pub true-counts : (ws counts : List ℕ) → untrue N ws counts ≡ false → counts ≡ live_counts N (living (total N) ws)
  unfolding untrue
  true-counts ws counts e = equal-true counts (live_counts N (living (total N) ws)) (not-false _ e)

  pub counts-true : (ws counts : List ℕ) → counts ≡ live_counts N (living (total N) ws) → untrue N ws counts ≡ false
  unfolding untrue
  counts-true ws counts e =
      ap not (ap (λ (cs : List ℕ). equal cs (live_counts N (living (total N) ws))) e ∙ equal-self (live_counts N (living (total N) ws)))

  -- of words with the same live tuples
  pub untrue-same : (vs ws counts : List ℕ) → living (total N) vs ≡ living (total N) ws → untrue N vs counts ≡ untrue N ws counts
  unfolding untrue
  untrue-same vs ws counts e = ap (λ (S : TupleSet). not (equal counts (live_counts N S))) e

  -- of a set that was written
  pub untrue-written : (L : TupleSet) (ws : List ℕ) → length L ≡ total N → total N ≤ word_bits * length ws → untrue N (written (total N) L ws) (live_counts N L) ≡ false
  untrue-written L ws long enough =
      counts-true (written (total N) L ws) (live_counts N L) (ap (live_counts N) (sym (living-written (total N) L ws long enough)))

-- ---- By places

-- as many counts as relations, each that of its live tuples
abbrev pub Places : Network → List ℕ → List ℕ → Type 0
Places N ws counts =
    (length counts ≡ length N.relations) × ((r : ℕ) → r < length N.relations → get_or counts r 0 ≡ live_count N (living (total N) ws) r)

module _ (N : Network) (ws counts : List ℕ) where
  pub counts-places : length counts ≡ length N.relations → ((r : ℕ) → r < length N.relations → get_or counts r 0 ≡ live_count N (living (total N) ws) r) → untrue N ws counts ≡ false
  counts-places long f =
      counts-true N ws counts
      (ext_get_or 0 counts (live_counts N (living (total N) ws)) (long ∙ sym (counts-length N (living (total N) ws)))
      (λ r h. f r (omega (arith, h, long)) ∙ sym (counts-at N (living (total N) ws) r (omega (arith, h, long)))))

  pub counts-differ : (Places N ws counts → ⊥) → untrue N ws counts ≡ true
  counts-differ d = go (untrue N ws counts) refl
    where
      go : (b : Bool) → untrue N ws counts ≡ b → untrue N ws counts ≡ true
      go true e = e
      go false e =
          let same = true-counts N ws counts e in
          absurd (d (ap length same ∙ counts-length N (living (total N) ws), λ r h. ap (λ (cs : List ℕ). get_or cs r 0) same ∙ counts-at N (living (total N) ws) r h))
