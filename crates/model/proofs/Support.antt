-- Laws of supports: their parts, and that more live tuples only add supports.
use mathlib.Core.Path.{◌≡◌, refl, sym, ◌∙◌, ap, subst}
use mathlib.Core.Bool.{Bool, true, false, ◌&&◌}
use mathlib.Core.List.Memᴰ
use mathlib.Core.List.{List, [], ◌∷◌, map, Memᴰ}
use mathlib.Core.Logic.{◌⊎◌, inl, inr, ⊎_elim}
use Prim.Native.Nat.{ℕ, zero, suc, ◌+◌, ◌-◌, ◌≤◌, ◌<◌}
use native.Mathlib.Omega.{arith}
use borrow.Author.Tests.{ltb-true}
use lib.Dec.{ltb}
use lib.ListN.{length, get_or, replicate, length-map, length-replicate}
use Rattle.model.specs.Limits.{no_support}
use Rattle.model.specs.Lists.{from, all, elem, select, first_or, pairwise, earlier, choices}
use Rattle.model.specs.TupleSet.{TupleSet, has, Inside}
use Rattle.model.specs.Network.{Network, size, first_id, ids_of, index_of, relation_of}
use Rattle.model.specs.Agreement.{agree}
use Rattle.model.specs.Combination.{Combination}
use Rattle.model.specs.Support.{candidates, is_support, supports, first_support}
use Rattle.model.proofs.Bools.{and_left, and_right, and_intro, not-both}
use Rattle.model.proofs.Lists.{here, all-at, all-intro, all_more, all_map, any-intro, pairwise-after, pairwise_map, elem_mem, mem-elem, select-mem, select-none, Cut, select-cut, Picks, done, pick, choices-picks, picks-choices, picks-length, picks_at, get_d-map-in, map-choices, earlier-least, later-earlier, choices-earlier, from-mem, from-rises}
use Rattle.model.proofs.Network.{relation_of-ids, relation_of-at, index_of-at}

module _ (N : Network) where
  -- ---- The parts of a support

  module _ (S : TupleSet) (g : ℕ) (t : List ℕ) where
    pub is_support-intro : Memᴰ g t → all (has S) t ≡ true → pairwise (agree N) t ≡ true → is_support N S g t ≡ true
    unfolding is_support
    is_support-intro m l a = and_intro (and_intro (mem-elem t m) l) a

    first_two : is_support N S g t ≡ true → (elem g t && all (has S) t) ≡ true
    unfolding is_support
    first_two e = and_left (elem g t && all (has S) t) (pairwise (agree N) t) e

    pub is_support-self : is_support N S g t ≡ true → Memᴰ g t
    is_support-self e = elem_mem g t (and_left (elem g t) (all (has S) t) (first_two e))

    pub is_support-live : is_support N S g t ≡ true → all (has S) t ≡ true
    is_support-live e = and_right (elem g t) (all (has S) t) (first_two e)

    pub is_support-agree : is_support N S g t ≡ true → pairwise (agree N) t ≡ true
    unfolding is_support
    is_support-agree e = and_right (elem g t && all (has S) t) (pairwise (agree N) t) e

  pub is_support-mono : (S T : TupleSet) → Inside S T → (g : ℕ) (t : List ℕ) → is_support N S g t ≡ true → is_support N T g t ≡ true
  is_support-mono S T h g t e =
      is_support-intro T g t (is_support-self S g t e) (all_more (has S) (has T) t h (is_support-live S g t e)) (is_support-agree S g t e)

  -- a support of one of its tuples is a support of each
  pub is_support-shared : (S : TupleSet) (g h : ℕ) (t : List ℕ) → is_support N S h t ≡ true → Memᴰ g t → is_support N S g t ≡ true
  is_support-shared S g h t e m = is_support-intro S g t m (is_support-live S h t e) (is_support-agree S h t e)

  -- ---- Candidates

  pub candidates-picks : (c : Combination) {t : List ℕ} → Memᴰ t (candidates N c) → Picks (map (ids_of N) c) t
  unfolding candidates
  candidates-picks c m = choices-picks (map (ids_of N) c) m

  pub picks-candidates : (c : Combination) {t : List ℕ} → Picks (map (ids_of N) c) t → Memᴰ t (candidates N c)
  unfolding candidates
  picks-candidates c p = picks-choices p

  pub picks-member : (c : Combination) {t : List ℕ} {x : ℕ} → Picks (map (ids_of N) c) t → Memᴰ x t → Memᴰ (relation_of N x) c
  picks-member [] done m = absurd (Memᴰ.not-nil m)
  picks-member (r ∷ c) (pick k p) m =
      ⊎_elim
      (λ e. Memᴰ.head (ap (relation_of N) e ∙ relation_of-ids N r k))
      (λ h. Memᴰ.tail (picks-member c p h))
      (Memᴰ.cases_cons m)

  -- the first member is below the others
  pub rising-head : (r : ℕ) (c : Combination) {s : ℕ} → pairwise ltb (r ∷ c) ≡ true → Memᴰ s c → r < s
  rising-head r c {s} rises m = ltb-true r s (all-at (ltb r) c (and_left (all (ltb r) c) (pairwise ltb c) rises) m)

  -- a choice has one tuple of a relation, if the members rise
  pub picks-same : (c : Combination) {t : List ℕ} {x y : ℕ} → pairwise ltb c ≡ true → Picks (map (ids_of N) c) t → Memᴰ x t → Memᴰ y t → relation_of N x ≡ relation_of N y → x ≡ y
  picks-same [] rises done m n e = absurd (Memᴰ.not-nil m)
  picks-same (r ∷ c) {x = x} {y} rises (pick k p) m n e =
      ⊎_elim
      (λ hx. ⊎_elim
      (λ hy. hx ∙ sym hy)
      (λ ty. let l = rising-head r c rises (picks-member c p ty) in let q = ap (relation_of N) hx ∙ relation_of-ids N r k in absurd (omega arith))
      (Memᴰ.cases_cons n))
      (λ tx. ⊎_elim
      (λ hy. let l = rising-head r c rises (picks-member c p tx) in let q = ap (relation_of N) hy ∙ relation_of-ids N r k in absurd (omega arith))
      (λ ty. picks-same c (and_right (all (ltb r) c) (pairwise ltb c) rises) p tx ty e)
      (Memᴰ.cases_cons n))
      (Memᴰ.cases_cons m)

  -- a candidate's tuples are of the members
  pub candidates-member : (c : Combination) {t : List ℕ} {x : ℕ} → Memᴰ t (candidates N c) → Memᴰ x t → Memᴰ (relation_of N x) c
  candidates-member c m n = picks-member c (candidates-picks c m) n

  pub candidates-length : (c : Combination) {t : List ℕ} → Memᴰ t (candidates N c) → length t ≡ length c
  candidates-length c m = picks-length (candidates-picks c m) ∙ length-map c (ids_of N)

  index_of-ids : (r : ℕ) {g : ℕ} → Memᴰ g (ids_of N r) → index_of N g ≡ g - first_id N r
  unfolding index_of
  index_of-ids r {g} m = ap (λ (s : ℕ). g - first_id N s) (relation_of-ids N r m)

  -- a candidate's tuple at place j is one of the member at j
  pub candidates-at : (c : Combination) {t : List ℕ} → Memᴰ t (candidates N c) → (j : ℕ) → j < length c → Memᴰ (get_or t j 0) t × Memᴰ (get_or t j 0) (ids_of N (get_or c j 0))
  candidates-at c {t} m j h =
      let k = picks_at (candidates-picks c m) j 0 (omega (arith, length-map c (ids_of N))) in
      (k.0, subst (Memᴰ (get_or t j 0)) (get_d-map-in (ids_of N) c j 0 [] h) k.1)

  -- its index is one of that member's
  pub candidates-index : (c : Combination) {t : List ℕ} → Memᴰ t (candidates N c) → (j : ℕ) → j < length c → get_or (map (index_of N) t) j 0 < size N (get_or c j 0)
  candidates-index c {t} m j h =
      let k = candidates-at c m j h in
      let b = from-mem (first_id N (get_or c j 0)) (size N (get_or c j 0)) (get_or t j 0) k.1 in
      let e = get_d-map-in (index_of N) t j 0 0 (omega (arith, candidates-length c m)) ∙ index_of-ids (get_or c j 0) k.1 in
      omega arith

  -- the tuple by its index
  pub candidates-id : (c : Combination) {t : List ℕ} → Memᴰ t (candidates N c) → (j : ℕ) → j < length c → first_id N (get_or c j 0) + get_or (map (index_of N) t) j 0 ≡ get_or t j 0
  candidates-id c {t} m j h =
      let k = candidates-at c m j h in
      let b = from-mem (first_id N (get_or c j 0)) (size N (get_or c j 0)) (get_or t j 0) k.1 in
      let e = get_d-map-in (index_of N) t j 0 0 (omega (arith, candidates-length c m)) ∙ index_of-ids (get_or c j 0) k.1 in
      omega (arith, b.0)

  -- a candidate that holds a tuple of the member at j has it at j
  pub candidates-own : (c : Combination) {t : List ℕ} → pairwise ltb c ≡ true → Memᴰ t (candidates N c) → (j x : ℕ) → j < length c → x < size N (get_or c j 0) → Memᴰ (first_id N (get_or c j 0) + x) t → get_or (map (index_of N) t) j 0 ≡ x
  candidates-own c {t} rises m j x h l n =
      let r = get_or c j 0 in
      let k = candidates-at c m j h in
      let same : get_or t j 0 ≡ first_id N r + x = picks-same c rises (candidates-picks c m) k.0 n (relation_of-ids N r k.1 ∙ sym (relation_of-at N r x l)) in
      get_d-map-in (index_of N) t j 0 0 (omega (arith, candidates-length c m)) ∙ ap (index_of N) same ∙ index_of-at N r x l

  -- ---- The first support

  -- tuple g has a support in c
  abbrev pub Supported : TupleSet → Combination → ℕ → Type 0
  Supported S c g = (t : List ℕ) × Memᴰ t (candidates N c) × (is_support N S g t ≡ true)

  -- where there is none, 65,535 for each member
  pub first_support-none : (S : TupleSet) (c : Combination) (g : ℕ) → (Supported S c g → ⊥) → first_support N S c g ≡ replicate (length c) no_support
  unfolding first_support supports
  first_support-none S c g none =
      ap (λ (ts : List (List ℕ)). first_or (replicate (length c) no_support) (map (map (index_of N)) ts))
      (select-none (is_support N S g) (candidates N c) (λ t m k. none (t, m, k)))

  -- a dead tuple has none
  pub first_support-dead : (S : TupleSet) (c : Combination) (g : ℕ) → has S g ≡ false → first_support N S c g ≡ replicate (length c) no_support
  first_support-dead S c g e =
      first_support-none S c g (λ s. not-both (all-at (has S) s.0 (is_support-live S g s.0 s.2) (is_support-self S g s.0 s.2)) e)

  -- where there is a support, the first is the first candidate that is one
  pub first_support-first : (S : TupleSet) (c : Combination) (g : ℕ) → Supported S c g → (k : Cut (is_support N S g) (candidates N c)) × (first_support N S c g ≡ map (index_of N) k.at)
  unfolding first_support supports
  first_support-first S c g s =
      let r = select-cut (is_support N S g) (candidates N c) (any-intro (is_support N S g) (candidates N c) s.1 s.2) in
      (r.0, ap (λ (ts : List (List ℕ)). first_or (replicate (length c) no_support) (map (map (index_of N)) ts)) r.1)

  -- ---- The order of candidates, by indices

  -- f of each number of a range that begins at i
  indices-from : (f : ℕ → ℕ) (i j n : ℕ) → ((g : ℕ) → Memᴰ g (from i n) → f g ≡ g - j) → j ≤ i → map f (from i n) ≡ from (i - j) n
  indices-from f i j zero h l = refl
  indices-from f i j (suc n) h l =
      ap {B = List ℕ} (λ x. x ∷ map f (from (suc i) n)) (h i here)
      ∙ ap {B = List ℕ} (λ t. (i - j) ∷ t) (indices-from f (suc i) j n (λ g m. h g (Memᴰ.tail m)) (omega arith) ∙ ap (λ (k : ℕ). from k n) (omega arith))

  -- the indices of relation r's tuples are 0, 1, ..
  pub index_of-ids_of : (r : ℕ) → map (index_of N) (ids_of N r) ≡ from 0 (size N r)
  index_of-ids_of r =
      indices-from (index_of N) (first_id N r) (first_id N r) (size N r) (λ g m. index_of-ids r m) (omega arith)
      ∙ ap (λ (k : ℕ). from k (size N r)) (omega arith)

  indices : (c : Combination) → map (map (index_of N)) (map (ids_of N) c) ≡ map (λ (r : ℕ). from 0 (size N r)) c
  indices [] = refl
  indices (r ∷ c) = ap {B = List (List ℕ)} (λ x. x ∷ map (map (index_of N)) (map (ids_of N) c)) (index_of-ids_of r) ∙ ap {B = List (List ℕ)} (λ t. from 0 (size N r) ∷ t) (indices c)

  -- by indices, the candidates are all choices of an index of each member
  pub candidates-indices : (c : Combination) → map (map (index_of N)) (candidates N c) ≡ choices (map (λ (r : ℕ). from 0 (size N r)) c)
  unfolding candidates
  candidates-indices c = map-choices (index_of N) (map (ids_of N) c) ∙ ap choices (indices c)

  ranges-rise : (c : Combination) → all (pairwise ltb) (map (λ (r : ℕ). from 0 (size N r)) c) ≡ true
  ranges-rise c = all_map (λ (r : ℕ). from 0 (size N r)) (pairwise ltb) c ∙ all-intro (λ (r : ℕ). pairwise ltb (from 0 (size N r))) c (λ r m. from-rises 0 (size N r))

  -- candidate t comes before candidate u by indices, first member first
  abbrev pub sooner : List ℕ → List ℕ → Bool
  sooner t u = earlier (map (index_of N) t) (map (index_of N) u)

  pub candidates-sooner : (c : Combination) → pairwise sooner (candidates N c) ≡ true
  candidates-sooner c =
      sym (pairwise_map (map (index_of N)) earlier (candidates N c))
      ∙ ap (pairwise earlier) (candidates-indices c)
      ∙ choices-earlier (map (λ (r : ℕ). from 0 (size N r)) c) (ranges-rise c)

  -- every other support comes after the first
  pub first_support-least : (S : TupleSet) (c : Combination) (g : ℕ) → Supported S c g → (t : List ℕ) × Memᴰ t (candidates N c) × (is_support N S g t ≡ true) × (first_support N S c g ≡ map (index_of N) t) × ((u : List ℕ) → Memᴰ u (candidates N c) → is_support N S g u ≡ true → (u ≡ t) ⊎ (sooner t u ≡ true))
  first_support-least S c g s =
      let f = first_support-first S c g s in
      let k = f.0 in (
        k.at,
        subst (Memᴰ k.at) (sym k.whole) (Memᴰ.append_right k.before here),
        k.passes,
        f.1,
        λ u m e. ⊎_elim
            (λ h. absurd (not-both e (k.none_before u h)))
            (λ h. ⊎_elim
            (λ q. inl q)
            (λ n. inr (all-at (sooner k.at) k.after (pairwise-after sooner k.before k.at k.after (subst (λ (ts : List (List ℕ)). pairwise sooner ts ≡ true) k.whole (candidates-sooner c))) n))
            (Memᴰ.cases_cons h))
            (Memᴰ.append_cases k.before (subst (Memᴰ u) k.whole m)),
      )

  -- no support is earlier than the first
  pub first_support-earliest : (S : TupleSet) (c : Combination) (g : ℕ) (u : List ℕ) → Memᴰ u (candidates N c) → is_support N S g u ≡ true → earlier (map (index_of N) u) (first_support N S c g) ≡ false
  first_support-earliest S c g u m e =
      let f = first_support-least S c g (u, m, e) in
      let is = map (index_of N) u in
      let first = first_support N S c g in
      ⊎_elim
      (λ q. ap (earlier is) (f.3 ∙ ap (map (index_of N)) (sym q)) ∙ earlier-least is is (λ j h. omega arith))
      (λ l. later-earlier is first (ap (λ (ks : List ℕ). earlier ks is) f.3 ∙ l))
      (f.4 u m e)

  -- a support than which none is earlier is the first
  pub first_support-lowest : (S : TupleSet) (c : Combination) (g : ℕ) (t : List ℕ) → Memᴰ t (candidates N c) → is_support N S g t ≡ true → ((u : List ℕ) → Memᴰ u (candidates N c) → is_support N S g u ≡ true → sooner u t ≡ false) → first_support N S c g ≡ map (index_of N) t
  first_support-lowest S c g t m e lowest =
      let f = first_support-least S c g (t, m, e) in
      f.3
      ∙ ⊎_elim (λ q. sym (ap (map (index_of N)) q)) (λ l. absurd (not-both l (lowest f.0 f.1 f.2))) (f.4 t m e)

  -- ---- Lengths

  first-length : (c : Combination) (ts : List (List ℕ)) → ((t : List ℕ) → Memᴰ t ts → length t ≡ length c) → length (first_or (replicate (length c) no_support) (map (map (index_of N)) ts)) ≡ length c
  first-length c [] f = length-replicate (length c) no_support
  first-length c (t ∷ ts) f = length-map t (index_of N) ∙ f t here

  pub first_support-length : (S : TupleSet) (c : Combination) (g : ℕ) → length (first_support N S c g) ≡ length c
  unfolding first_support supports
  first_support-length S c g = first-length c (select (is_support N S g) (candidates N c)) (λ t m. candidates-length c (select-mem (is_support N S g) (candidates N c) m).0)
