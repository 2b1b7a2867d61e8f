-- The law of the root: with nothing chosen yet, what completes it are the supports, and the one that is taken is the first.
-- From the parts of candidates and of supports, and the law that a support than which none is earlier is the first.
use mathlib.Core.Path.{◌≡◌, refl, sym, ◌∙◌, ap, ap₂, subst}
use mathlib.Core.Bool.{Bool, true}
use mathlib.Core.List.Memᴰ
use mathlib.Core.List.{List, map, Memᴰ}
use Prim.Native.Nat.{ℕ, zero, suc, ◌+◌, ◌≤◌, ◌<◌}
use native.Mathlib.Decide.{ℕ_discrete, dec_lt}
use native.Mathlib.Omega.{arith}
use lib.Dec.{ltb}
use lib.ListN.{length, get_or, length-map}
use lib.Seq.{take_all}
use Rattle.model.specs.Lists.{from, all, pairwise, earlier}
use Rattle.model.specs.Network.{Network, total, first_id, ids_of, index_of}
use Rattle.model.specs.Agreement.{agree}
use Rattle.model.specs.TupleSet.{TupleSet, has}
use Rattle.model.specs.Support.{candidates, is_support}
use Rattle.model.specs.LiveWords.{is_live}
use Rattle.model.proofs.Bools.{and_right, and_intro}
use Rattle.model.proofs.Lists.{all-at, all-intro, from-mem, mem-from, Picks}
use Rattle.model.proofs.Network.{ids-below}
use Rattle.model.proofs.LiveWords.{living-has}
use Rattle.model.proofs.Support.{is_support-intro, is_support-self, is_support-live, is_support-agree, picks-candidates, candidates-length, candidates-at, candidates-index, candidates-id, candidates-own, first_support-lowest}
use Rattle.spreading.proofs.Kept.{agree-two}
use Rattle.support.specs.Search.{chosen_ids}
use Rattle.support.proofs.Chosen.{chosen-mem, chosen_of, chosen-picks, chosen-indices}
use Rattle.together.specs.Together.{Joint, net_of, tuple_at, size_at, own_size, own_at, SoundJoint, Completes, Taken, Seeks, live_of, HasFirst, Together}

-- tuples at places that rise, every two of which agree
pairwise-places : (r : ℕ → ℕ → Bool) (f : ℕ → ℕ) (i n : ℕ) → ((a b : ℕ) → i ≤ a → a < b → b < i + n → r (f a) (f b) ≡ true) → pairwise r (map f (from i n)) ≡ true
pairwise-places r f i zero h = refl
pairwise-places r f i (suc n) h =
    and_intro
    (all-intro (r (f i)) (map f (from (suc i) n))
    (λ y m. let j = Memᴰ.of_map f (from (suc i) n) m in let b = from-mem (suc i) n j.0 j.1 in ap (r (f i)) (sym j.2) ∙ h i j.0 (omega arith) (omega (arith, b)) (omega (arith, b))))
    (pairwise-places r f (suc i) n (λ a b l m k. h a b (omega arith) m (omega arith)))

module _ {Q : Joint} {index : List ℕ} (S : SoundJoint Q index) (words : List ℕ) (k : ℕ) (chosen : List ℕ) (begin : (j : ℕ) → j < k → j ≡ Q.place) where
  abbrev N : Network
  N = net_of Q

  abbrev c : List ℕ
  c = Q.members

  abbrev live : TupleSet
  live = live_of Q words

  rises : pairwise ltb c ≡ true
  rises = and_right (all (λ (r : ℕ). ltb r (length N.relations)) c) (pairwise ltb c) S.members.proper

  -- ---- A support completes what is chosen: nothing

  module _ (x : ℕ) (h : x < own_size Q) (t : List ℕ) (m : Memᴰ t (candidates N c)) (s : is_support N live (own_at Q x) t ≡ true) where
    pub support-completes : Completes Q k chosen words x (map (index_of N) t)
    support-completes =
        record {
          long = length-map t (index_of N) ∙ candidates-length N c m;
          within = λ j l. candidates-index N c m j l;
          agreeing = λ i j a b d. ap₂ (agree N) (candidates-id N c m i a) (candidates-id N c m j b) ∙ agree-two N c m (is_support-agree N live (own_at Q x) t s) i j a b d;
          own = candidates-own N c rises m Q.place x S.place h (is_support-self N live (own_at Q x) t s);
          before = λ j b. absurd (b.other (begin j b.below));
          behind = λ j a l o.
              let i = candidates-at N c m j l in
              ap (is_live words) (candidates-id N c m j l)
              ∙ sym (living-has (total N) words (get_or t j 0) (ids-below N (get_or c j 0) i.1))
              ∙ all-at (has live) t (is_support-live N live (own_at Q x) t s) i.0;
        }

  -- ---- What completes it is a support

  module _ (x : ℕ) (is : List ℕ) (lives : is_live words (own_at Q x) ≡ true) (C : Completes Q k chosen words x is) where
    abbrev ids : List ℕ
    ids = chosen_ids N c is (length c)

    pub ids-indices : map (index_of N) ids ≡ is
    ids-indices = chosen-indices N c is (length c) (omega (arith, C.long)) C.within ∙ take_all (length c) is (omega (arith, C.long))

    pub ids-candidate : Memᴰ ids (candidates N c)
    ids-candidate =
        picks-candidates N c
        (subst (λ (d : List ℕ). Picks (map (ids_of N) d) ids) (take_all (length c) c (omega arith)) (chosen-picks N c is (length c) (omega arith) C.within))

    id-lives : (j : ℕ) → j < length c → is_live words (tuple_at Q j (get_or is j 0)) ≡ true
    id-lives j l = go (ℕ_discrete j Q.place)
      where
        go : Dec (j ≡ Q.place) → is_live words (tuple_at Q j (get_or is j 0)) ≡ true
        go (yes q) = ap (λ (i : ℕ). is_live words (tuple_at Q i (get_or is i 0))) q ∙ ap (λ (z : ℕ). is_live words (own_at Q z)) C.own ∙ lives
        go (no d) = C.behind j (late (dec_lt j k)) l d
          where
            late : Dec (j < k) → k ≤ j
            late (yes b) = absurd (d (begin j b))
            late (no b) = omega arith

    id_below : (j : ℕ) → j < length c → tuple_at Q j (get_or is j 0) < total N
    id_below j l = let w = C.within j l in ids-below N (get_or c j 0) (mem-from (first_id N (get_or c j 0)) (size_at Q j) (tuple_at Q j (get_or is j 0)) (omega arith) (omega (arith, w)))

    ids-agree : pairwise (agree N) ids ≡ true
    unfolding chosen_ids
    ids-agree =
        pairwise-places (agree N) (λ (j : ℕ). tuple_at Q j (get_or is j 0)) 0 (length c)
        (λ a b l m n. C.agreeing a b (omega arith) (omega arith) (λ q. omega (arith, q)))

    pub ids-support : is_support N live (own_at Q x) ids ≡ true
    ids-support =
        is_support-intro N live (own_at Q x) ids
        (subst (λ (z : ℕ). Memᴰ (own_at Q z) ids) C.own (chosen-mem N c is (length c) Q.place S.place))
        (all-intro (has live) ids
        (λ g m.
        let i = chosen_of N c is (length c) m in
        ap (has live) (sym i.2) ∙ living-has (total N) words (tuple_at Q i.0 (get_or is i.0 0)) (id_below i.0 i.1) ∙ id-lives i.0 i.1))
        ids-agree

  -- ---- The first

  pub taken-first : (start x : ℕ) (numbers : List ℕ) → x < own_size Q → Taken Q start k chosen words x numbers → HasFirst Q start words x numbers
  taken-first start x numbers h t =
      let is = t.support in
      let ids' = ids x is t.lives t.completes in
      let m = ids-candidate x is t.lives t.completes in
      let s = ids-support x is t.lives t.completes in
      let e = ids-indices x is t.lives t.completes in
      let f = first_support-lowest N live c (own_at Q x) ids' m s (λ u n v. ap (earlier (map (index_of N) u)) e ∙ t.lowest (map (index_of N) u) (support-completes x h u n v)) in
      record {
        lives = t.lives;
        supported = (ids', m, s);
        held = t.held ∙ sym (f ∙ e);
      }

  pub together : (start : ℕ) (before after numbers numbers_after : List ℕ) (left : ℕ) → Seeks Q start k chosen words before after numbers numbers_after left → Together Q start words before after numbers numbers_after left
  together start before after numbers numbers_after left F =
      record {
        frames = F.takes.frames;
        taken = λ x h b a. taken-first start x numbers_after h (F.takes.taken x h b a);
        none = λ n x h l p s. F.none n x (map (index_of N) s.0) h l p (support-completes x h s.0 s.1 s.2);
      }
