-- Laws of the members of a combination narrowed through each other: no step, one, and one after the other.
-- From the parts of a candidate, and the law that tuples of a candidate have one relation each.
use mathlib.Core.Path.{◌≡◌, refl, sym, ◌∙◌, ap, ap₂, subst}
use mathlib.Core.Bool.{true}
use mathlib.Core.List.{List, map, Memᴰ}
use mathlib.Core.Logic.{◌⊎◌}
use Prim.Native.Nat.{ℕ, ◌+◌, ◌-◌, ◌≤◌, ◌<◌}
use native.Mathlib.Decide.{ℕ_discrete, dec_lt}
use native.Mathlib.Omega.{arith}
use borrow.Author.Tests.{ltb-true}
use lib.Dec.{ltb}
use lib.ListN.{length, get_or}
use Rattle.model.specs.Lists.{all, pairwise}
use Rattle.model.specs.Network.{Network, size, total, first_id, index_of, relation_of}
use Rattle.model.specs.Agreement.{agree}
use Rattle.model.specs.Combination.{Combination}
use Rattle.model.specs.Support.{candidates}
use Rattle.model.specs.LiveWords.{is_live}
use Rattle.model.proofs.Bools.{and_left, and_right}
use Rattle.model.proofs.Lists.{all_get_d, mem-get_d, pairwise-get_d}
use Rattle.model.proofs.Network.{ids-below, index-bounds, ids-apart, relation_of-ids}
use Rattle.model.proofs.Agreement.{agree-sym}
use Rattle.model.proofs.Support.{candidates-picks, candidates-length, candidates-at, candidates-index, candidates-id, picks-same}
use Rattle.layout.specs.Setting.{Lists, network_in, SoundLists}
use Rattle.layout.proofs.SoundStarts.{relations-few}
use Rattle.bridging.specs.Bridge.{Narrowing, Between}
use Rattle.spreading.specs.Spread.{Spread, Members, AllLive, Held, KeepsSupports}

-- the member at a place is one of at most 64 relations
pub member_below : {L : Lists} → SoundLists L → {c : Combination} → Members (network_in L) c → (j : ℕ) → j < length c → get_or c j 0 < 64
member_below {L} laid {c} M j h =
    let N = network_in L in
    let below = ltb-true (get_or c j 0) (length N.relations) (all_get_d (λ (r : ℕ). ltb r (length N.relations)) c j 0 (and_left (all (λ (r : ℕ). ltb r (length N.relations)) c) (pairwise ltb c) M.proper) h) in
    omega (arith, below, relations-few laid.framed)

module _ (N : Network) (c : Combination) where
  module _ (place from : ℕ) where
    pub keeps-none : (words : List ℕ) → KeepsSupports N c place from words words
    keeps-none words = record { inside = λ g l. l; held = λ j x h k i. refl; keeps = λ t m a l. l }

    pub keeps_on : (a b d : List ℕ) → KeepsSupports N c place from a b → KeepsSupports N c place from b d → KeepsSupports N c place from a d
    keeps_on a b d f s =
        record {
          inside = λ g l. f.inside g (s.inside g l);
          held = λ j x h k i. s.held j x h k i ∙ f.held j x h k i;
          keeps = λ t m p l. s.keeps t m p (f.keeps t m p l);
        }

  -- the tuples of a candidate at two places agree
  pub agree-two : {t : List ℕ} → Memᴰ t (candidates N c) → pairwise (agree N) t ≡ true → (i j : ℕ) → i < length c → j < length c → (i ≡ j → ⊥) → agree N (get_or t i 0) (get_or t j 0) ≡ true
  agree-two {t} m agrees i j hi hj apart = go (dec_lt i j)
    where
      long : length t ≡ length c
      long = candidates-length N c m

      go : Dec (i < j) → agree N (get_or t i 0) (get_or t j 0) ≡ true
      go (yes l) = pairwise-get_d (agree N) t i j 0 agrees l (omega (arith, long, hj))
      go (no l) = agree-sym N (get_or t i 0) (get_or t j 0) ∙ pairwise-get_d (agree N) t j i 0 agrees (omega (arith, l, apart)) (omega (arith, long, hi))

  -- ---- One member narrowed

  module _ (M : Members N c) where
    rises : pairwise ltb c ≡ true
    rises = and_right (all (λ (r : ℕ). ltb r (length N.relations)) c) (pairwise ltb c) M.proper

    -- one place to a relation
    pub differ : (p q : ℕ) → p < length c → q < length c → (p ≡ q → ⊥) → get_or c p 0 ≡ get_or c q 0 → ⊥
    differ p q hp hq d e = go (dec_lt p q)
      where
        go : Dec (p < q) → ⊥
        go (yes l) = let b = ltb-true (get_or c p 0) (get_or c q 0) (pairwise-get_d ltb c p q 0 rises l hq) in omega arith
        go (no l) = let b = ltb-true (get_or c q 0) (get_or c p 0) (pairwise-get_d ltb c q p 0 rises (omega arith) hp) in omega arith

    module _ (j : ℕ) (hj : j < length c) (before after : List ℕ) (outside : (g : ℕ) → (g < first_id N (get_or c j 0)) ⊎ (first_id N (get_or c j 0) + size N (get_or c j 0) ≤ g) → is_live after g ≡ is_live before g) where
      -- where member j's tuple stays, so does any other's
      stays : (t : List ℕ) → Memᴰ t (candidates N c) → AllLive before t → is_live after (get_or t j 0) ≡ true → (g : ℕ) → Memᴰ g t → Dec (get_or c j 0 ≡ relation_of N g) → is_live after g ≡ true
      stays t m live own g k (yes e) =
          let at = candidates-at N c m j hj in
          let same = picks-same N c rises (candidates-picks N c m) at.0 k (relation_of-ids N (get_or c j 0) at.1 ∙ e) in
          subst (λ (h : ℕ). is_live after h ≡ true) same own
      stays t m live own g k (no d) =
          let b = below g k in
          let is-g : first_id N (relation_of N g) + (g - first_id N (relation_of N g)) ≡ g = omega (arith, (index-bounds N g b).0) in
          let out = ids-apart N (relation_of N g) (g - first_id N (relation_of N g)) (get_or c j 0) (omega (arith, index-bounds N g b)) d in
          subst (λ (h : ℕ). is_live after h ≡ true) is-g (outside (first_id N (relation_of N g) + (g - first_id N (relation_of N g))) out ∙ ap (is_live before) is-g ∙ live g k)
        where
          below : (h : ℕ) → Memᴰ h t → h < total N
          below h l =
              let q = mem-get_d t 0 l in
              subst (λ (x : ℕ). x < total N) q.2 (ids-below N (get_or c q.0 0) (candidates-at N c m q.0 (omega (arith, q.1, candidates-length N c m))).1)

      -- a member is narrowed that is not held, and its tuple of a support stays
      pub keeps-member :
          ((g : ℕ) → is_live after g ≡ true → is_live before g ≡ true)
          → ((t : List ℕ) → Memᴰ t (candidates N c) → pairwise (agree N) t ≡ true → AllLive before t → is_live after (get_or t j 0) ≡ true)
          → (place from : ℕ) → (Held place from j → ⊥) → KeepsSupports N c place from before after
      keeps-member inside own place from free =
          record {
            inside = inside;
            held = λ i x h k l. outside (first_id N (get_or c i 0) + x) (ids-apart N (get_or c i 0) x (get_or c j 0) l (differ j i hj h (λ e. free (subst (Held place from) (sym e) k))));
            keeps = λ t m a l g k. stays t m l (own t m a l) g k (ℕ_discrete (get_or c j 0) (relation_of N g));
          }

  -- .. through another
  pub keeps-step : Members N c → (i j : ℕ) → i < length c → j < length c → (i ≡ j → ⊥) → (before after : List ℕ) → Spread N (get_or c i 0) (get_or c j 0) before after → (place from : ℕ) → (Held place from j → ⊥) → KeepsSupports N c place from before after
  keeps-step M i j hi hj apart before after S =
      keeps-member M j hj before after S.outside S.inside
      (λ t m a l.
      let is-i = candidates-id N c m i hi in
      let is-j = candidates-id N c m j hj in
      subst (λ (g : ℕ). is_live after g ≡ true) is-j
      (S.keeps (get_or (map (index_of N) t) i 0) (get_or (map (index_of N) t) j 0) (candidates-index N c m i hi) (candidates-index N c m j hj)
      (ap₂ (agree N) is-i is-j ∙ agree-two m a i j hi hj apart)
      (ap (is_live before) is-i ∙ l (get_or t i 0) (candidates-at N c m i hi).0)
      (ap (is_live before) is-j ∙ l (get_or t j 0) (candidates-at N c m j hj).0)))

  -- .. and through two others at once
  pub keeps-bridge : Members N c → (a b j : ℕ) → a < length c → b < length c → j < length c → (j ≡ a → ⊥) → (j ≡ b → ⊥) → (a ≡ b → ⊥) → (before after : List ℕ) → Narrowing N (get_or c j 0) (Between N (get_or c j 0) (get_or c a 0) (get_or c b 0) before) before after → (place from : ℕ) → (Held place from j → ⊥) → KeepsSupports N c place from before after
  keeps-bridge M a b j ha hb hj ja jb ab before after W =
      keeps-member M j hj before after W.outside W.inside
      (λ t m p l.
      let is : (i : ℕ) → i < length c → first_id N (get_or c i 0) + get_or (map (index_of N) t) i 0 ≡ get_or t i 0 = λ i h. candidates-id N c m i h in
      let lives : (i : ℕ) → (h : i < length c) → is_live before (first_id N (get_or c i 0) + get_or (map (index_of N) t) i 0) ≡ true = λ i h. ap (is_live before) (is i h) ∙ l (get_or t i 0) (candidates-at N c m i h).0 in
      let agrees : (i k : ℕ) → (h : i < length c) → (g : k < length c) → (i ≡ k → ⊥) → agree N (first_id N (get_or c i 0) + get_or (map (index_of N) t) i 0) (first_id N (get_or c k 0) + get_or (map (index_of N) t) k 0) ≡ true = λ i k h g d. ap₂ (agree N) (is i h) (is k g) ∙ agree-two m p i k h g d in
      subst (λ (g : ℕ). is_live after g ≡ true) (is j hj)
      (W.keeps (get_or (map (index_of N) t) j 0) (candidates-index N c m j hj)
      (record {
        y = get_or (map (index_of N) t) a 0;
        z = get_or (map (index_of N) t) b 0;
        y-in = candidates-index N c m a ha;
        z-in = candidates-index N c m b hb;
        y-lives = lives a ha;
        z-lives = lives b hb;
        with-y = agrees j a hj ha ja;
        with-z = agrees j b hj hb jb;
        each-other = agrees a b ha hb ab;
      })
      (lives j hj)))
