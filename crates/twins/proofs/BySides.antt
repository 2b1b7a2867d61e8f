-- Twins by sides: where the other members of a combination fall apart into near and far ones that share no variable, a tuple with the values
-- of one earlier tuple under the near ones' variables and of another under the far ones' has the near part of the one's first support and the
-- far part of the other's. From the laws of agreement and of supports, and of lists mixed by places.
use mathlib.Core.Path.{◌≡◌, refl, sym, ◌∙◌, ap, ap₂, subst}
use mathlib.Core.Bool.{Bool, true, false, cond}
use mathlib.Core.List.Memᴰ
use mathlib.Core.List.{List, [], map, Memᴰ}
use Prim.Native.Nat.{ℕ, ◌+◌, ◌<◌}
use native.Mathlib.Decide.{dec_lt, ℕ_discrete}
use native.Mathlib.Omega.{arith}
use lib.Dec.{ltb}
use lib.ListN.{length, get_or, set, length-map, length-set}
use lib.Seq.{get_or-set_same, get_or-set_other}
use Rattle.model.specs.Lists.{all, elem, pairwise, earlier}
use Rattle.model.specs.TupleSet.{TupleSet, has}
use Rattle.model.specs.Network.{Network, size, first_id, scope_of, ids_of, index_of}
use Rattle.model.specs.Agreement.{Cell, under, cells_of, agree}
use Rattle.model.specs.Combination.{Combination}
use Rattle.model.specs.Support.{candidates, is_support, first_support}
use Rattle.model.proofs.Bools.{not-both}
use Rattle.model.proofs.Lists.{all-at, get_d-mem, mem-elem, pairwise-get_d, set-mem, all_set, picks-set, get_d-map-in, mem-from}
use Rattle.model.proofs.Network.{index_of-at}
use Rattle.model.proofs.Agreement.{clash-other-variable, agreeing-intro, cells-mem, agree-sym, agree_at, agree-alike}
use Rattle.model.proofs.Support.{Supported, is_support-intro, is_support-self, is_support-live, is_support-agree, candidates-picks, picks-candidates, candidates-length, candidates-index, candidates-id, candidates-own, first_support-least, first_support-earliest, first_support-lowest}
use Rattle.model.proofs.Twins.{own-agrees}
use Rattle.twins.proofs.Mixed.{mixed, mixed-at, mixed-picks, mixed-all, pairwise-places, Sooner, earlier-at, at-earlier}

module _ (N : Network) (S : TupleSet) (c : Combination) (rises : pairwise ltb c ≡ true) (j : ℕ) (inside : j < length c) (far : ℕ → Bool) (apart : (i k : ℕ) → i < length c → k < length c → (i ≡ j → ⊥) → (k ≡ j → ⊥) → far i ≡ true → far k ≡ false → (v : ℕ) → elem v (scope_of N (get_or c i 0)) ≡ true → elem v (scope_of N (get_or c k 0)) ≡ true → ⊥) where
  -- the tuple at index x of the member at j
  abbrev id : ℕ → ℕ
  id x = first_id N (get_or c j 0) + x

  -- ---- Tuples of two candidates

  -- of one candidate, every two agree
  any-two : (t : List ℕ) → Memᴰ t (candidates N c) → pairwise (agree N) t ≡ true → (i k : ℕ) → i < length c → k < length c → (i ≡ k → ⊥) → agree N (get_or t i 0) (get_or t k 0) ≡ true
  any-two t m agreeing i k h l d = go (dec_lt i k)
    where
      long : length t ≡ length c
      long = candidates-length N c m

      go : Dec (i < k) → agree N (get_or t i 0) (get_or t k 0) ≡ true
      go (yes q) = pairwise-get_d (agree N) t i k 0 agreeing q (omega (arith, long))
      go (no q) = agree-sym N (get_or t i 0) (get_or t k 0) ∙ pairwise-get_d (agree N) t k i 0 agreeing (omega arith) (omega (arith, long))

  -- a far one of the one and a near one of the other share no variable
  sides-agree : (a b : List ℕ) → Memᴰ a (candidates N c) → Memᴰ b (candidates N c) → (i k : ℕ) → i < length c → k < length c → (i ≡ j → ⊥) → (k ≡ j → ⊥) → far i ≡ true → far k ≡ false → agree N (get_or a i 0) (get_or b k 0) ≡ true
  sides-agree a b ma mb i k h l di dk ei ek =
      let r = get_or c i 0 in
      let s = get_or c k 0 in
      let x = get_or (map (index_of N) a) i 0 in
      let y = get_or (map (index_of N) b) k 0 in
      ap₂ (agree N) (sym (candidates-id N c ma i h)) (sym (candidates-id N c mb k l))
      ∙ agree_at N r x s y (candidates-index N c ma i h) (candidates-index N c mb k l)
      ∙ agreeing-intro _ _
      (λ u w mu mw.
      clash-other-variable u w
      (λ q.
      let n = cells-mem (scope_of N r) _ mu in
      let o = cells-mem (scope_of N s) _ mw in
      apart i k h l di dk ei ek u.0
      (mem-elem (scope_of N r) (Memᴰ.cast (ap (λ (z : Cell). z.0) n.2) (get_d-mem (scope_of N r) n.0 0 n.1)))
      (mem-elem (scope_of N s) (Memᴰ.cast (q ∙ ap (λ (z : Cell). z.0) o.2) (get_d-mem (scope_of N s) o.0 0 o.1)))))

  -- ---- Two candidates joined: the far tuples of the one, the near ones of the other, and one of the member at j

  abbrev joined : List ℕ → List ℕ → ℕ → List ℕ
  joined a b g = set (mixed far a b) j g

  module _ (a b : List ℕ) (ma : Memᴰ a (candidates N c)) (mb : Memᴰ b (candidates N c)) where
    mixed-candidate : Memᴰ (mixed far a b) (candidates N c)
    mixed-candidate = picks-candidates N c (mixed-picks far (candidates-picks N c ma) (candidates-picks N c mb))

    mixed-long : length (mixed far a b) ≡ length c
    mixed-long = candidates-length N c mixed-candidate

    joined-long : (g : ℕ) → length (joined a b g) ≡ length c
    joined-long g = length-set (mixed far a b) j g ∙ mixed-long

    joined-own : (g : ℕ) → get_or (joined a b g) j 0 ≡ g
    joined-own g = get_or-set_same (mixed far a b) j g 0 (omega (arith, mixed-long))

    joined_at : (g i : ℕ) → i < length c → (i ≡ j → ⊥) → get_or (joined a b g) i 0 ≡ cond (far i) (get_or a i 0) (get_or b i 0)
    joined_at g i h d =
        get_or-set_other (mixed far a b) j i g 0 d
        ∙ mixed-at far a b i (omega (arith, candidates-length N c ma)) (omega (arith, candidates-length N c mb))

    -- by indices
    joined-index : (g i : ℕ) → i < length c → (i ≡ j → ⊥) → get_or (map (index_of N) (joined a b g)) i 0 ≡ cond (far i) (get_or (map (index_of N) a) i 0) (get_or (map (index_of N) b) i 0)
    joined-index g i h d =
        get_d-map-in (index_of N) (joined a b g) i 0 0 (omega (arith, joined-long g)) ∙ ap (index_of N) (joined_at g i h d) ∙ go (far i)
      where
        go : (q : Bool) → index_of N (cond q (get_or a i 0) (get_or b i 0)) ≡ cond q (get_or (map (index_of N) a) i 0) (get_or (map (index_of N) b) i 0)
        go true = sym (get_d-map-in (index_of N) a i 0 0 (omega (arith, candidates-length N c ma)))
        go false = sym (get_d-map-in (index_of N) b i 0 0 (omega (arith, candidates-length N c mb)))

    module _ (x : ℕ) (x-in : x < size N (get_or c j 0)) where
      joined-candidate : Memᴰ (joined a b (id x)) (candidates N c)
      joined-candidate =
          picks-candidates N c
          (picks-set (candidates-picks N c mixed-candidate) j (id x)
          (subst (Memᴰ (id x)) (sym (get_d-map-in (ids_of N) c j 0 [] inside)) (mem-from (first_id N (get_or c j 0)) (size N (get_or c j 0)) (id x) (omega arith) (omega arith))))

      joined-index-own : get_or (map (index_of N) (joined a b (id x))) j 0 ≡ x
      joined-index-own =
          get_d-map-in (index_of N) (joined a b (id x)) j 0 0 (omega (arith, joined-long (id x))) ∙ ap (index_of N) (joined-own (id x)) ∙ index_of-at N (get_or c j 0) x x-in

      module _ (ea : pairwise (agree N) a ≡ true) (eb : pairwise (agree N) b ≡ true) (agrees : (i : ℕ) → i < length c → (i ≡ j → ⊥) → agree N (id x) (cond (far i) (get_or a i 0) (get_or b i 0)) ≡ true) where
        others : (i k : ℕ) → i < length c → k < length c → (i ≡ k → ⊥) → (i ≡ j → ⊥) → (k ≡ j → ⊥) → (p q : Bool) → far i ≡ p → far k ≡ q → agree N (cond p (get_or a i 0) (get_or b i 0)) (cond q (get_or a k 0) (get_or b k 0)) ≡ true
        others i k h l d di dk true true ei ek = any-two a ma ea i k h l d
        others i k h l d di dk true false ei ek = sides-agree a b ma mb i k h l di dk ei ek
        others i k h l d di dk false true ei ek = agree-sym N (get_or b i 0) (get_or a k 0) ∙ sides-agree a b ma mb k i l h dk di ek ei
        others i k h l d di dk false false ei ek = any-two b mb eb i k h l d

        two : (i k : ℕ) → i < length c → k < length c → (i ≡ k → ⊥) → Dec (i ≡ j) → Dec (k ≡ j) → agree N (get_or (joined a b (id x)) i 0) (get_or (joined a b (id x)) k 0) ≡ true
        two i k h l d (yes p) (yes q) = absurd (d (p ∙ sym q))
        two i k h l d (yes p) (no q) =
            ap₂ (agree N) (ap (λ (n : ℕ). get_or (joined a b (id x)) n 0) p ∙ joined-own (id x)) (joined_at (id x) k l q) ∙ agrees k l q
        two i k h l d (no p) (yes q) =
            ap₂ (agree N) (joined_at (id x) i h p) (ap (λ (n : ℕ). get_or (joined a b (id x)) n 0) q ∙ joined-own (id x))
            ∙ agree-sym N (cond (far i) (get_or a i 0) (get_or b i 0)) (id x)
            ∙ agrees i h p
        two i k h l d (no p) (no q) = ap₂ (agree N) (joined_at (id x) i h p) (joined_at (id x) k l q) ∙ others i k h l d p q (far i) (far k) refl refl

        joined-support : all (has S) a ≡ true → all (has S) b ≡ true → has S (id x) ≡ true → is_support N S (id x) (joined a b (id x)) ≡ true
        joined-support la lb lives =
            is_support-intro N S (id x) (joined a b (id x)) (set-mem (mixed far a b) j (id x) (omega (arith, mixed-long)))
            (all_set (has S) (mixed far a b) j (id x) (mixed-all far (has S) a b la lb) lives)
            (pairwise-places (agree N) (joined a b (id x))
            (λ i k l h. two i k (omega (arith, joined-long (id x))) (omega (arith, joined-long (id x))) (λ q. omega arith) (ℕ_discrete i j) (ℕ_discrete k j)))

  -- ---- First supports

  -- The first support of tuple g, by ids.
  record First (g : ℕ) : Type 0 where
    tuples : List ℕ
    candidate : Memᴰ tuples (candidates N c)
    support : is_support N S g tuples ≡ true
    indices : first_support N S c g ≡ map (index_of N) tuples

  first_of : (g : ℕ) → Supported N S c g → First g
  first_of g s = let f = first_support-least N S c g s in record { tuples = f.0; candidate = f.1; support = f.2; indices = f.3 }

  -- what stands at place j of a support
  own-index : (x : ℕ) → x < size N (get_or c j 0) → (t : List ℕ) → Memᴰ t (candidates N c) → is_support N S (id x) t ≡ true → get_or (map (index_of N) t) j 0 ≡ x
  own-index x x-in t m e = candidates-own N c rises m j x inside x-in (is_support-self N S (id x) t e)

  own-lives : (g : ℕ) (t : List ℕ) → is_support N S g t ≡ true → has S g ≡ true
  own-lives g t e = all-at (has S) t (is_support-live N S g t e) (is_support-self N S g t e)

  -- no support that differs from the first at a place k first is less there
  none-less : (y : ℕ) → y < size N (get_or c j 0) → (f : First (id y)) (w : List ℕ) → Memᴰ w (candidates N c) → is_support N S (id y) w ≡ true → (k : ℕ) → k < length c → ((i : ℕ) → i < k → (i ≡ j → ⊥) → get_or (map (index_of N) w) i 0 ≡ get_or (map (index_of N) f.tuples) i 0) → get_or (map (index_of N) w) k 0 < get_or (map (index_of N) f.tuples) k 0 → ⊥
  none-less y y-in f w m e k h same less =
      not-both
      (at-earlier (map (index_of N) w) (map (index_of N) f.tuples) k
      (omega (arith, length-map w (index_of N), candidates-length N c m))
      (omega (arith, length-map f.tuples (index_of N), candidates-length N c f.candidate))
      (λ i l. go i l (ℕ_discrete i j))
      less)
      (ap (earlier (map (index_of N) w)) (sym f.indices) ∙ first_support-earliest N S c (id y) w m e)
    where
      go : (i : ℕ) → i < k → Dec (i ≡ j) → get_or (map (index_of N) w) i 0 ≡ get_or (map (index_of N) f.tuples) i 0
      go i l (no d) = same i l d
      go i l (yes q) =
          ap (λ (n : ℕ). get_or (map (index_of N) w) n 0) q
          ∙ own-index y y-in w m e
          ∙ sym (own-index y y-in f.tuples f.candidate f.support)
          ∙ ap (λ (n : ℕ). get_or (map (index_of N) f.tuples) n 0) (sym q)

  -- ---- A twin of either side

  module _ (near-test far-test : ℕ → Bool) (nearby : (i : ℕ) → i < length c → (i ≡ j → ⊥) → far i ≡ false → (v : ℕ) → elem v (scope_of N (get_or c i 0)) ≡ true → near-test v ≡ true) (beyond : (i : ℕ) → i < length c → (i ≡ j → ⊥) → far i ≡ true → (v : ℕ) → elem v (scope_of N (get_or c i 0)) ≡ true → far-test v ≡ true) (x y z : ℕ) (x-in : x < size N (get_or c j 0)) (y-in : y < size N (get_or c j 0)) (z-in : z < size N (get_or c j 0)) (alike-near : under near-test (cells_of N (id x)) ≡ under near-test (cells_of N (id y))) (alike-far : under far-test (cells_of N (id x)) ≡ under far-test (cells_of N (id z))) where
    -- x agrees with the near tuples that y agrees with, and with the far ones that z does
    near-agrees : (t : List ℕ) → Memᴰ t (candidates N c) → (i : ℕ) → i < length c → (i ≡ j → ⊥) → far i ≡ false → agree N (id x) (get_or t i 0) ≡ agree N (id y) (get_or t i 0)
    near-agrees t m i h d e =
        subst (λ (g : ℕ). agree N (id x) g ≡ agree N (id y) g) (candidates-id N c m i h)
        (agree-alike N near-test (id x) (id y) (get_or c i 0) (get_or (map (index_of N) t) i 0) (candidates-index N c m i h) (nearby i h d e) alike-near)

    far-agrees : (t : List ℕ) → Memᴰ t (candidates N c) → (i : ℕ) → i < length c → (i ≡ j → ⊥) → far i ≡ true → agree N (id x) (get_or t i 0) ≡ agree N (id z) (get_or t i 0)
    far-agrees t m i h d e =
        subst (λ (g : ℕ). agree N (id x) g ≡ agree N (id z) g) (candidates-id N c m i h)
        (agree-alike N far-test (id x) (id z) (get_or c i 0) (get_or (map (index_of N) t) i 0) (candidates-index N c m i h) (beyond i h d e) alike-far)

    module _ (f : First (id y)) (g : First (id z)) where
      -- the near part of y's first support and the far part of z's, with x
      abbrev both : List ℕ
      both = joined g.tuples f.tuples (id x)

      both-candidate : Memᴰ both (candidates N c)
      both-candidate = joined-candidate g.tuples f.tuples g.candidate f.candidate x x-in

      module _ (v : List ℕ) (m : Memᴰ v (candidates N c)) (e : is_support N S (id x) v ≡ true) where
        own : (i : ℕ) → i < length c → (i ≡ j → ⊥) → agree N (id x) (get_or v i 0) ≡ true
        own = own-agrees N S c rises j inside x x x-in x-in v m e

        -- a support of x with the far part of y's is one of y, and with the near part of z's one of z
        with-y : is_support N S (id y) (joined f.tuples v (id y)) ≡ true
        with-y =
            joined-support f.tuples v f.candidate m y y-in (is_support-agree N S (id y) f.tuples f.support) (is_support-agree N S (id x) v e)
            (λ i h d. go i h d (far i) refl)
            (is_support-live N S (id y) f.tuples f.support) (is_support-live N S (id x) v e) (own-lives (id y) f.tuples f.support)
          where
            go : (i : ℕ) → i < length c → (i ≡ j → ⊥) → (q : Bool) → far i ≡ q → agree N (id y) (cond q (get_or f.tuples i 0) (get_or v i 0)) ≡ true
            go i h d true q = own-agrees N S c rises j inside y y y-in y-in f.tuples f.candidate f.support i h d
            go i h d false q = sym (near-agrees v m i h d q) ∙ own i h d

        with-z : is_support N S (id z) (joined v g.tuples (id z)) ≡ true
        with-z =
            joined-support v g.tuples m g.candidate z z-in (is_support-agree N S (id x) v e) (is_support-agree N S (id z) g.tuples g.support)
            (λ i h d. go i h d (far i) refl)
            (is_support-live N S (id x) v e) (is_support-live N S (id z) g.tuples g.support) (own-lives (id z) g.tuples g.support)
          where
            go : (i : ℕ) → i < length c → (i ≡ j → ⊥) → (q : Bool) → far i ≡ q → agree N (id z) (cond q (get_or v i 0) (get_or g.tuples i 0)) ≡ true
            go i h d true q = sym (far-agrees v m i h d q) ∙ own i h d
            go i h d false q = own-agrees N S c rises j inside z z z-in z-in g.tuples g.candidate g.support i h d

        -- the indices of a joined list at a place whose side is known
        at : (a b : List ℕ) → Memᴰ a (candidates N c) → Memᴰ b (candidates N c) → (h i : ℕ) → i < length c → (i ≡ j → ⊥) → (q : Bool) → far i ≡ q → get_or (map (index_of N) (joined a b h)) i 0 ≡ cond q (get_or (map (index_of N) a) i 0) (get_or (map (index_of N) b) i 0)
        at a b ma mb h i l d q r =
            joined-index a b ma mb h i l d ∙ ap (λ (q : Bool). cond q (get_or (map (index_of N) a) i 0) (get_or (map (index_of N) b) i 0)) r

        -- so it is not earlier: where it differs first and is less, that one would be less than y's first or z's
        not-sooner : Sooner (map (index_of N) v) (map (index_of N) both) → ⊥
        not-sooner s = go (ℕ_discrete s.at j) (far s.at) refl
          where
            below : s.at < length c
            below = omega (arith, s.within, length-map v (index_of N), candidates-length N c m)

            go : Dec (s.at ≡ j) → (q : Bool) → far s.at ≡ q → ⊥
            go (yes p) q r =
                let u : get_or (map (index_of N) v) s.at 0 ≡ x = ap (λ (n : ℕ). get_or (map (index_of N) v) n 0) p ∙ own-index x x-in v m e in
                let w : get_or (map (index_of N) both) s.at 0 ≡ x = ap (λ (n : ℕ). get_or (map (index_of N) both) n 0) p ∙ joined-index-own g.tuples f.tuples g.candidate f.candidate x x-in in
                omega (arith, s.less, u, w)
            go (no d) false r =
                none-less y y-in f (joined f.tuples v (id y)) (joined-candidate f.tuples v f.candidate m y y-in) with-y s.at below
                (λ i l di. near i l di (far i) refl)
                (omega (arith, s.less, at f.tuples v f.candidate m (id y) s.at below d false r, at g.tuples f.tuples g.candidate f.candidate (id x) s.at below d false r))
              where
                near : (i : ℕ) → i < s.at → (i ≡ j → ⊥) → (q : Bool) → far i ≡ q → get_or (map (index_of N) (joined f.tuples v (id y))) i 0 ≡ get_or (map (index_of N) f.tuples) i 0
                near i l di true q = at f.tuples v f.candidate m (id y) i (omega (arith, below)) di true q
                near i l di false q =
                    at f.tuples v f.candidate m (id y) i (omega (arith, below)) di false q
                    ∙ s.same i l
                    ∙ at g.tuples f.tuples g.candidate f.candidate (id x) i (omega (arith, below)) di false q
            go (no d) true r =
                none-less z z-in g (joined v g.tuples (id z)) (joined-candidate v g.tuples m g.candidate z z-in) with-z s.at below
                (λ i l di. away i l di (far i) refl)
                (omega (arith, s.less, at v g.tuples m g.candidate (id z) s.at below d true r, at g.tuples f.tuples g.candidate f.candidate (id x) s.at below d true r))
              where
                away : (i : ℕ) → i < s.at → (i ≡ j → ⊥) → (q : Bool) → far i ≡ q → get_or (map (index_of N) (joined v g.tuples (id z))) i 0 ≡ get_or (map (index_of N) g.tuples) i 0
                away i l di true q =
                    at v g.tuples m g.candidate (id z) i (omega (arith, below)) di true q
                    ∙ s.same i l
                    ∙ at g.tuples f.tuples g.candidate f.candidate (id x) i (omega (arith, below)) di true q
                away i l di false q = at v g.tuples m g.candidate (id z) i (omega (arith, below)) di false q

      module _ (lives : has S (id x) ≡ true) (agrees : (i : ℕ) → i < length c → (i ≡ j → ⊥) → agree N (id x) (cond (far i) (get_or g.tuples i 0) (get_or f.tuples i 0)) ≡ true) where
        both-support : is_support N S (id x) both ≡ true
        both-support =
            joined-support g.tuples f.tuples g.candidate f.candidate x x-in (is_support-agree N S (id z) g.tuples g.support) (is_support-agree N S (id y) f.tuples f.support) agrees
            (is_support-live N S (id z) g.tuples g.support) (is_support-live N S (id y) f.tuples f.support) lives

        both_first : first_support N S c (id x) ≡ map (index_of N) both
        both_first = first_support-lowest N S c (id x) both both-candidate both-support (λ v m e. go v m e (earlier (map (index_of N) v) (map (index_of N) both)) refl)
          where
            go : (v : List ℕ) → Memᴰ v (candidates N c) → is_support N S (id x) v ≡ true → (q : Bool) → earlier (map (index_of N) v) (map (index_of N) both) ≡ q → earlier (map (index_of N) v) (map (index_of N) both) ≡ false
            go v m e true q = absurd (not-sooner v m e (earlier-at (map (index_of N) v) (map (index_of N) both) q))
            go v m e false q = q

    -- the first support of x, by places
    module _ (lives : has S (id x) ≡ true) (of-y : Supported N S c (id y)) (of-z : Supported N S c (id z)) (agrees : (i : ℕ) → i < length c → (i ≡ j → ⊥) → agree N (id x) (first_id N (get_or c i 0) + cond (far i) (get_or (first_support N S c (id z)) i 0) (get_or (first_support N S c (id y)) i 0)) ≡ true) where
      agreed : (i : ℕ) → i < length c → (i ≡ j → ⊥) → agree N (id x) (cond (far i) (get_or (first_of (id z) of-z).tuples i 0) (get_or (first_of (id y) of-y).tuples i 0)) ≡ true
      agreed i h d = ap (agree N (id x)) (go (far i)) ∙ agrees i h d
        where
          at-id : (w : ℕ) (f : First (id w)) → get_or f.tuples i 0 ≡ first_id N (get_or c i 0) + get_or (first_support N S c (id w)) i 0
          at-id w f = sym (candidates-id N c f.candidate i h) ∙ ap (λ (ks : List ℕ). first_id N (get_or c i 0) + get_or ks i 0) (sym f.indices)

          go : (q : Bool) → cond q (get_or (first_of (id z) of-z).tuples i 0) (get_or (first_of (id y) of-y).tuples i 0) ≡ first_id N (get_or c i 0) + cond q (get_or (first_support N S c (id z)) i 0) (get_or (first_support N S c (id y)) i 0)
          go true = at-id z (first_of (id z) of-z)
          go false = at-id y (first_of (id y) of-y)

      pub sides_first : Supported N S c (id x) × (get_or (first_support N S c (id x)) j 0 ≡ x) × ((i : ℕ) → i < length c → (i ≡ j → ⊥) → get_or (first_support N S c (id x)) i 0 ≡ cond (far i) (get_or (first_support N S c (id z)) i 0) (get_or (first_support N S c (id y)) i 0))
      sides_first =
          let f = first_of (id y) of-y in
          let g = first_of (id z) of-z in
          let e = both_first f g lives agreed in (
            (both f g, both-candidate f g, both-support f g lives agreed),
            ap (λ (ks : List ℕ). get_or ks j 0) e ∙ joined-index-own g.tuples f.tuples g.candidate f.candidate x x-in,
            λ i h d.
                ap (λ (ks : List ℕ). get_or ks i 0) e
                ∙ joined-index g.tuples f.tuples g.candidate f.candidate (id x) i h d
                ∙ ap₂ (λ (ks ls : List ℕ). cond (far i) (get_or ks i 0) (get_or ls i 0)) (sym g.indices) (sym f.indices),
          )
