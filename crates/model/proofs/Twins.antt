-- Twins: two tuples of one member with the same values under every variable that the other members have. The one's first support, with
-- the other put in, is the other's. From the laws of agreement and of supports; when values fit does not matter.
use mathlib.Core.Path.{◌≡◌, sym, ◌∙◌, ap, ap₂, subst}
use mathlib.Core.Bool.{Bool, true, false}
use mathlib.Core.List.{List, [], map, Memᴰ}
use Prim.Native.Nat.{ℕ, ◌+◌, ◌<◌}
use native.Mathlib.Decide.{dec_lt, ℕ_discrete}
use native.Mathlib.Omega.{arith}
use lib.Dec.{ltb}
use lib.ListN.{length, get_or, set, length-map}
use lib.Seq.{get_or-set_same, get_or-set_other}
use Rattle.model.specs.Lists.{all, pairwise, earlier}
use Rattle.model.specs.TupleSet.{TupleSet, has, Inside}
use Rattle.model.specs.Network.{Network, size, first_id, ids_of, index_of}
use Rattle.model.specs.Agreement.{under, cells_of, agree}
use Rattle.model.specs.Combination.{Combination, Covers}
use Rattle.model.specs.Support.{candidates, is_support, first_support, Partners}
use Rattle.model.proofs.Lists.{all-at, all-intro, all_get_d, get_d-mem, mem-get_d, pairwise-get_d, set-mem, all_set, pairwise-set, picks-set, map-set, earlier-set, get_d-map-in, mem-from}
use Rattle.model.proofs.Network.{index_of-at}
use Rattle.model.proofs.Agreement.{agree-sym, agree-alike}
use Rattle.model.proofs.Support.{Supported, is_support-intro, is_support-self, is_support-live, is_support-agree, candidates-picks, picks-candidates, candidates-length, candidates-index, candidates-id, candidates-own, first_support-least, first_support-earliest, first_support-lowest}

-- ---- Partners

module _ {N : Network} {c : Combination} {j g : ℕ} where
  -- where more tuples live
  pub partners-more : {S T : TupleSet} → Inside S T → Partners N S c j g → Partners N T c j g
  partners-more more P =
      record { tuples = P.tuples; candidate = P.candidate; own = P.own; living = λ i h d. more (get_or P.tuples i 0) (P.living i h d); agreeing = P.agreeing }

  -- a live tuple makes a support with its partners
  pub partners-supported : {S : TupleSet} → j < length c → has S g ≡ true → Partners N S c j g → Supported N S c g
  partners-supported {S} inside lives P =
      let t = P.tuples in
      let m = P.candidate in
      let n = candidates-length N c m in
      let own : Memᴰ g t = subst (λ (h : ℕ). Memᴰ h t) P.own (get_d-mem t j 0 (omega (arith, n))) in
      let live : all (has S) t ≡ true =
      all-intro (has S) t (λ h k. let q = mem-get_d t 0 k in subst (λ (h : ℕ). has S h ≡ true) q.2 (at q.0 (omega (arith, n, q.1)) (ℕ_discrete q.0 j)))
      in
      (t, m, is_support-intro N S g t own live P.agreeing)
    where
      at : (i : ℕ) → i < length c → Dec (i ≡ j) → has S (get_or P.tuples i 0) ≡ true
      at i h (yes q) = ap (λ (k : ℕ). has S (get_or P.tuples k 0)) q ∙ ap (has S) P.own ∙ lives
      at i h (no d) = P.living i h d

-- ---- Of a member

module _ (N : Network) (S : TupleSet) (c : Combination) (rises : pairwise ltb c ≡ true) (j : ℕ) (inside : j < length c) where
  -- the tuple at index x of the member at j
  abbrev pub id : ℕ → ℕ
  id x = first_id N (get_or c j 0) + x

  -- ---- One tuple put in for another

  module _ (x y : ℕ) (x-in : x < size N (get_or c j 0)) (y-in : y < size N (get_or c j 0)) where
    module _ (t : List ℕ) (m : Memᴰ t (candidates N c)) (e : is_support N S (id x) t ≡ true) where
      -- it stands at place j
      own : get_or t j 0 ≡ id x
      own =
          sym (candidates-id N c m j inside)
          ∙ ap (λ (i : ℕ). first_id N (get_or c j 0) + i) (candidates-own N c rises m j x inside x-in (is_support-self N S (id x) t e))

      long : length t ≡ length c
      long = candidates-length N c m

      pub put-candidate : Memᴰ (set t j (id y)) (candidates N c)
      put-candidate =
          picks-candidates N c
          (picks-set (candidates-picks N c m) j (id y)
          (subst (Memᴰ (id y)) (sym (get_d-map-in (ids_of N) c j 0 [] inside)) (mem-from (first_id N (get_or c j 0)) (size N (get_or c j 0)) (id y) (omega arith) (omega arith))))

      put-agreeing : ((i : ℕ) → i < length c → (i ≡ j → ⊥) → agree N (id y) (get_or t i 0) ≡ true) → pairwise (agree N) (set t j (id y)) ≡ true
      put-agreeing agrees =
          pairwise-set (agree N) t j (id y) 0 (is_support-agree N S (id x) t e)
          (λ i l h. agree-sym N (get_or t i 0) (id y) ∙ agrees i (omega (arith, long)) (λ q. omega arith))
          (λ i l h. agrees i (omega (arith, long)) (λ q. omega arith))

      pub put-support : has S (id y) ≡ true → ((i : ℕ) → i < length c → (i ≡ j → ⊥) → agree N (id y) (get_or t i 0) ≡ true) → is_support N S (id y) (set t j (id y)) ≡ true
      put-support lives agrees =
          is_support-intro N S (id y) (set t j (id y)) (set-mem t j (id y) (omega (arith, long)))
          (all_set (has S) t j (id y) (is_support-live N S (id x) t e) lives)
          (put-agreeing agrees)

      -- it agrees with the others
      pub own-agrees : (i : ℕ) → i < length c → (i ≡ j → ⊥) → agree N (id x) (get_or t i 0) ≡ true
      own-agrees i h d = ap (λ (g : ℕ). agree N g (get_or t i 0)) (sym own) ∙ go (dec_lt i j)
        where
          agreeing : pairwise (agree N) t ≡ true
          agreeing = is_support-agree N S (id x) t e

          go : Dec (i < j) → agree N (get_or t j 0) (get_or t i 0) ≡ true
          go (yes l) = agree-sym N (get_or t j 0) (get_or t i 0) ∙ pairwise-get_d (agree N) t i j 0 agreeing l (omega (arith, long))
          go (no l) = pairwise-get_d (agree N) t j i 0 agreeing (omega arith) (omega (arith, long))

      pub put-indices : map (index_of N) (set t j (id y)) ≡ set (map (index_of N) t) j y
      put-indices = map-set (index_of N) t j (id y) ∙ ap (set (map (index_of N) t) j) (index_of-at N (get_or c j 0) y y-in)

  -- ---- The first support

  module _ (test : ℕ → Bool) (covers : Covers N c j test) (x y : ℕ) (x-in : x < size N (get_or c j 0)) (y-in : y < size N (get_or c j 0)) (alike : under test (cells_of N (id x)) ≡ under test (cells_of N (id y))) where
    -- twins agree with the same tuples of the other members
    pub twin-agrees : (t : List ℕ) → Memᴰ t (candidates N c) → (i : ℕ) → i < length c → (i ≡ j → ⊥) → agree N (id x) (get_or t i 0) ≡ agree N (id y) (get_or t i 0)
    twin-agrees t m i h d =
        let z = get_or (map (index_of N) t) i 0 in
        subst (λ (g : ℕ). agree N (id x) g ≡ agree N (id y) g) (candidates-id N c m i h)
        (agree-alike N test (id x) (id y) (get_or c i 0) z (candidates-index N c m i h) (covers i h d) alike)

    -- the other tuples of x's support are partners of y
    pub twin-partners : Supported N S c (id x) → Partners N S c j (id y)
    twin-partners s =
        let t = s.0 in
        let m = s.1 in
        let e = s.2 in
        let n = candidates-length N c m in
        record {
          tuples = set t j (id y);
          candidate = put-candidate x y x-in y-in t m e;
          own = get_or-set_same t j (id y) 0 (omega (arith, n));
          living = λ i h d. ap (has S) (get_or-set_other t j i (id y) 0 d) ∙ all_get_d (has S) t i 0 (is_support-live N S (id x) t e) (omega (arith, n));
          agreeing = put-agreeing x y x-in y-in t m e (λ i h d. sym (twin-agrees t m i h d) ∙ own-agrees x y x-in y-in t m e i h d);
        }

    module _ (lives : has S (id x) ≡ true) (supported : Supported N S c (id y)) (agrees : (i : ℕ) → i < length c → (i ≡ j → ⊥) → agree N (id x) (first_id N (get_or c i 0) + get_or (first_support N S c (id y)) i 0) ≡ true) where
      -- y's first support
      first : List ℕ
      first = (first_support-least N S c (id y) supported).0

      candidate : Memᴰ first (candidates N c)
      unfolding first
      candidate = (first_support-least N S c (id y) supported).1

      is-support : is_support N S (id y) first ≡ true
      unfolding first
      is-support = (first_support-least N S c (id y) supported).2

      indices : first_support N S c (id y) ≡ map (index_of N) first
      unfolding first
      indices = (first_support-least N S c (id y) supported).3

      -- with x put in it is a support of x
      put : is_support N S (id x) (set first j (id x)) ≡ true
      put =
          put-support y x y-in x-in first candidate is-support lives
          (λ i h d. subst (λ (g : ℕ). agree N (id x) g ≡ true) (ap (λ (ks : List ℕ). first_id N (get_or c i 0) + get_or ks i 0) indices ∙ candidates-id N c candidate i h) (agrees i h d))

      pub twin-supported : Supported N S c (id x)
      twin-supported = (set first j (id x), put-candidate y x y-in x-in first candidate is-support, put)

      -- an earlier support of x would be, with y put in, an earlier one of y
      none-earlier : (u : List ℕ) → Memᴰ u (candidates N c) → is_support N S (id x) u ≡ true → earlier (map (index_of N) u) (map (index_of N) (set first j (id x))) ≡ false
      none-earlier u m e =
          let us = map (index_of N) u in
          let ks = map (index_of N) first in
          let at_x : get_or us j 0 ≡ x = candidates-own N c rises m j x inside x-in (is_support-self N S (id x) u e) in
          let at_y : get_or ks j 0 ≡ y = candidates-own N c rises candidate j y inside y-in (is_support-self N S (id y) first is-support) in
          ap (earlier us) (put-indices y x y-in x-in first candidate is-support ∙ ap (set ks j) (sym at_x))
          ∙ earlier-set us ks j (omega (arith, length-map u (index_of N), candidates-length N c m)) (omega (arith, length-map first (index_of N), candidates-length N c candidate))
          ∙ ap₂ earlier (ap (set us j) at_y ∙ sym (put-indices x y x-in y-in u m e)) (sym indices)
          ∙ first_support-earliest N S c (id y) (set u j (id y)) (put-candidate x y x-in y-in u m e)
          (put-support x y x-in y-in u m e (all-at (has S) first (is_support-live N S (id y) first is-support) (is_support-self N S (id y) first is-support))
          (λ i h d. sym (twin-agrees u m i h d) ∙ own-agrees x y x-in y-in u m e i h d))

      -- so it is x's first
      pub twin-first : first_support N S c (id x) ≡ set (first_support N S c (id y)) j x
      twin-first =
          first_support-lowest N S c (id x) (set first j (id x)) (put-candidate y x y-in x-in first candidate is-support) put none-earlier
          ∙ put-indices y x y-in x-in first candidate is-support
          ∙ ap (λ (ks : List ℕ). set ks j x) (sym indices)
