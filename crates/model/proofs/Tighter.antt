-- Bigger combinations only tighten: a support in a combination, restricted to the members of one inside it, is a support there.
-- From the laws of supports and of the largest consistent set; that two tuples agree is used pair by pair, and no more of it than
-- that it is symmetric.
use mathlib.Core.Path.{◌≡◌, refl, sym, ◌∙◌, ap, subst}
use mathlib.Core.Bool.{Bool, true, false, cond}
use mathlib.Core.Logic.{⊎_elim}
use mathlib.Core.List.Memᴰ
use mathlib.Core.List.{List, [], ◌∷◌, ◌++◌, map, Memᴰ}
use Prim.Native.Nat.{ℕ, zero, suc, ◌+◌, ◌*◌, ◌/◌, ◌≤◌, ◌<◌}
use native.Mathlib.Nat.{suc-mul, div-zero, le-div_iff_mul-le}
use native.Mathlib.Omega.{arith}
use native.Mathlib.Decide.{dec_lt}
use lib.Dec.{ltb}
use lib.ListN.{length, take, drop, length-append, length-drop}
use lib.Seq.{drop-append-le, take-append-le}
use Rattle.model.specs.Limits.{word_bits}
use Rattle.model.specs.Lists.{all, any, elem, pairwise, from}
use Rattle.model.specs.Network.{Network, total, ids_of, relation_of}
use Rattle.model.specs.Agreement.{agree}
use Rattle.model.specs.TupleSet.{TupleSet, has, count, restrict, without, Inside}
use Rattle.model.specs.Combination.{Combination, combinations}
use Rattle.model.specs.Consistency.{supported, filtered}
use Rattle.model.specs.LiveWords.{is_live, living}
use Rattle.model.specs.Request.{combinations_of, Request, removes}
use Rattle.model.specs.Fault.{accepts}
use Rattle.model.specs.Reply.{Reply, remainder, counts_for, accepted, reply}
use Rattle.model.specs.Promises.{entry_tuples, given_tuples, left_tuples}
use Rattle.model.specs.Enumeration.{HoldsConnected}
use Rattle.model.specs.Tighter.{lies_inside, all_inside, SameStart, Tighter, LieInConnected}
use Rattle.model.proofs.Bools.{and_right, and_intro, not-both}
use Rattle.model.proofs.Lists.{here, all-at, all-intro, any_at, pairwise-at, elem_mem, Picks, done, pick, any-intro, mem-elem, from-mem, mem-from}
use Rattle.model.proofs.TupleSet.{count-inside}
use Rattle.model.proofs.Network.{relation_of-ids}
use Rattle.model.proofs.Agreement.{agree-sym}
use Rattle.model.proofs.Fault.{accepts-rise}
use Rattle.model.proofs.Combination.{combination-within}
use Rattle.model.proofs.LiveWords.{is_live-past}
use Rattle.model.proofs.Support.{is_support-intro, is_support-self, is_support-live, is_support-agree, candidates-picks, picks-candidates, picks-member, rising-head, picks-same, Supported}
use Rattle.model.proofs.Consistency.{supported-at, supported-intro, filtered-largest}
use Rattle.model.proofs.Reply.{reply-accepted, leaving-withdrawn}
use Rattle.model.proofs.Mission.{filtering}

-- ---- Combinations inside others

inside-member : (c d : Combination) {r : ℕ} → lies_inside c d ≡ true → Memᴰ r c → Memᴰ r d
unfolding lies_inside
inside-member c d {r} e m = elem_mem r d (all-at (λ (r : ℕ). elem r d) c e m)

inside-some : (cs ds : List Combination) {c : Combination} → all_inside cs ds ≡ true → Memᴰ c cs → (d : Combination) × Memᴰ d ds × (lies_inside c d ≡ true)
unfolding all_inside
inside-some cs ds {c} e m = any_at (lies_inside c) ds (all-at (λ (c : Combination). any (lies_inside c) ds) cs e m)

-- ---- A support restricted to members

module _ (N : Network) where
  -- a choice of a tuple of each member has one of member r
  picks_of : (d : Combination) {t : List ℕ} {r : ℕ} → Picks (map (ids_of N) d) t → Memᴰ r d → (x : ℕ) × Memᴰ x t × Memᴰ x (ids_of N r)
  picks_of [] done m = absurd (Memᴰ.not-nil m)
  picks_of (s ∷ d) {t = []} {r = r} x3 m = elim x3 [ ]
  picks_of (s ∷ d) {t = x ∷ t} (pick k p) m =
      ⊎_elim
      (λ e. (x, here, subst (λ (s : ℕ). Memᴰ x (ids_of N s)) (sym e) k))
      (λ h. let i = picks_of d p h in (i.0, Memᴰ.tail i.1, i.2))
      (Memᴰ.cases_cons m)

  -- its tuples of the members of c are a choice for c
  restricted : (c d : Combination) {t : List ℕ} → Picks (map (ids_of N) d) t → ((r : ℕ) → Memᴰ r c → Memᴰ r d) → (u : List ℕ) × Picks (map (ids_of N) c) u × ((x : ℕ) → Memᴰ x u → Memᴰ x t)
  restricted [] d p f = ([], done, λ x m. absurd (Memᴰ.not-nil m))
  restricted (r ∷ c) d {t} p f =
      let first = picks_of d p (f r here) in
      let rest = restricted c d p (λ s m. f s (Memᴰ.tail m)) in
      (first.0 ∷ rest.0, pick first.2 rest.1, λ x m. ⊎_elim (λ e. subst (λ (y : ℕ). Memᴰ y t) (sym e) first.1) (rest.2 x) (Memᴰ.cases_cons m))

  -- every two tuples of a choice pass a test that different ones pass, if the members rise
  picks-pairwise : (test : ℕ → ℕ → Bool) (c : Combination) {t : List ℕ} → pairwise ltb c ≡ true → Picks (map (ids_of N) c) t → ((x y : ℕ) → Memᴰ x t → Memᴰ y t → (x ≡ y → ⊥) → test x y ≡ true) → pairwise test t ≡ true
  picks-pairwise test [] rises done f = refl
  picks-pairwise test (r ∷ c) {t = []} rises x4 f = elim x4 [ ]
  picks-pairwise test (r ∷ c) {t = x ∷ t} rises (pick k p) f =
      and_intro
      (all-intro (test x) t
      (λ y m. f x y here (Memᴰ.tail m)
      (λ e.
      let l = rising-head N r c rises (picks-member N c p m) in
      let q = sym (relation_of-ids N r k) ∙ ap (relation_of N) e in
      omega arith)))
      (picks-pairwise test c (and_right (all (ltb r) c) (pairwise ltb c) rises) p (λ y z m n. f y z (Memᴰ.tail m) (Memᴰ.tail n)))

  -- a support in d, restricted to the members of c, is a support in c
  pub support-inside : (S : TupleSet) (c d : Combination) (g : ℕ) → pairwise ltb c ≡ true → pairwise ltb d ≡ true → lies_inside c d ≡ true → Memᴰ (relation_of N g) c → Supported N S d g → Supported N S c g
  support-inside S c d g rises rises' e m s =
      let t = s.0 in
      let p = candidates-picks N d s.1 in
      let u = restricted c d p (λ r k. inside-member c d e k) in
      let own = picks_of c u.1 m in
      let same : own.0 ≡ g = picks-same N d rises' p (u.2 own.0 own.1) (is_support-self N S g t s.2) (relation_of-ids N (relation_of N g) own.2) in (
        u.0,
        picks-candidates N c u.1,
        is_support-intro N S g u.0
            (subst (λ (x : ℕ). Memᴰ x u.0) same own.1)
            (all-intro (has S) u.0 (λ x k. all-at (has S) t (is_support-live N S g t s.2) (u.2 x k)))
            (picks-pairwise (agree N) c rises u.1 (λ x y k l differ. pairwise-at (agree N) (agree-sym N) t (is_support-agree N S g t s.2) (u.2 x k) (u.2 y l) differ)),
      )

  -- ---- What filtering leaves

  module _ (cs ds : List Combination) (rise : (c : Combination) → Memᴰ c cs → pairwise ltb c ≡ true) (rise' : (d : Combination) → Memᴰ d ds → pairwise ltb d ≡ true) (inside : all_inside cs ds ≡ true) where
    pub supported-inside : (S : TupleSet) (g : ℕ) → supported N ds S g ≡ true → supported N cs S g ≡ true
    supported-inside S g s =
        supported-intro N cs S g
        (λ c m n.
        let k = inside-some cs ds inside m in
        support-inside S c k.0 g (rise c m) (rise' k.0 k.1) k.2 n
        (supported-at N ds S g k.0 s k.1 (inside-member c k.0 k.2 n)))

    -- the larger combinations leave nothing that the smaller ones remove
    pub filtered-inside : (S : TupleSet) → Inside (filtered N ds S) (filtered N cs S)
    filtered-inside S =
        let l = filtered-largest N ds S in
        (filtered-largest N cs S).above (filtered N ds S) (λ g h. supported-inside (filtered N ds S) g (l.consistent g h)) l.inside

-- ---- Two calls from the same start

withdrawn-is : (q : Request) → accepts q ≡ true → (reply q).answer.withdrawn ≡ count (restrict (removes q.given.network q.change) (entry_tuples q))
unfolding accepted counts_for
withdrawn-is q e =
    ap (λ (p : Reply). p.answer.withdrawn) (reply-accepted q e)
    ∙ leaving-withdrawn q.given (remainder q.given q.change (entry_tuples q)) (counts_for q.given q.change (entry_tuples q)) q.words q.supports

-- a choice between two follows where both do
cond-follows : (b : Bool) {x y u v : Bool} → (x ≡ true → u ≡ true) → (y ≡ true → v ≡ true) → cond b x y ≡ true → cond b u v ≡ true
cond-follows true f g e = f e
cond-follows false f g e = g e

module _ (first second : Request) (same : SameStart first second) (e : accepts first ≡ true) (e' : accepts second ≡ true) where
  abbrev N' : Network
  N' = second.given.network

  -- the lists of combinations
  abbrev cs : List Combination
  cs = combinations_of first.given

  abbrev ds : List Combination
  ds = combinations_of second.given

  -- the tuples left
  abbrev L : TupleSet
  L = left_tuples first (reply first)

  abbrev L' : TupleSet
  L' = left_tuples second (reply second)

  same-entry : entry_tuples second ≡ entry_tuples first
  same-entry = λ i. living (total (sym same.network i)) (sym same.words i)

  same-given : given_tuples second ≡ given_tuples first
  same-given = λ i. without (removes (sym same.network i) (sym same.change i)) (same-entry i)

  same-withdrawn : (reply second).answer.withdrawn ≡ (reply first).answer.withdrawn
  same-withdrawn =
      withdrawn-is second e'
      ∙ (λ i. count (restrict (removes (sym same.network i) (sym same.change i)) (same-entry i)))
      ∙ sym (withdrawn-is first e)

  module _ (inside : all_inside cs ds ≡ true) where
    tuples-inside : Inside L' L
    tuples-inside =
        let l = (filtering second e').largest in
        (filtering first e).largest.above L'
        (λ g h. supported-inside first.given.network cs ds (accepts-rise first e) (accepts-rise second e') inside L' g
        (subst (λ (M : Network). supported M ds L' g ≡ true) (sym same.network) (l.consistent g h)))
        (λ g h. subst (λ (S : TupleSet). has S g ≡ true) same-given (l.inside g h))

    bits_inside : (g : ℕ) → Dec (g < word_bits * length second.words) → is_live (reply second).words g ≡ true → is_live (reply first).words g ≡ true
    bits_inside g (no d) h = absurd (not-both h (is_live-past (reply second).words g (omega (arith, d, (filtering second e').marked.words))))
    bits_inside g (yes l) h =
        (filtering first e).marked.bits g (omega (arith, l, ap length same.words))
        ∙ ap (λ (M : Network). cond (ltb g (total M)) (has L g) (is_live first.words g)) same.network
        ∙ cond-follows (ltb g (total N')) (tuples-inside g) (λ k. ap (λ (ws : List ℕ). is_live ws g) same.words ∙ k) (sym ((filtering second e').marked.bits g l) ∙ h)

    -- bigger combinations only tighten
    pub tighter : Tighter first (reply first) second (reply second)
    tighter =
        let f = filtering first e in
        let f' = filtering second e' in
        let fewer = count-inside L' L tuples-inside in
        record {
          tuples = tuples-inside;
          bits = λ g. bits_inside g (dec_lt g (word_bits * length second.words));
          left = omega (arith, fewer, f.tells.left, f'.tells.left);
          withdrawn = same-withdrawn;
          deleted = omega (arith, fewer, f.tells.left, f'.tells.left, same-withdrawn, f.sum, f'.sum, ap count same-entry);
        }

-- ---- Lists of combinations inside others

inside-intro : (cs ds : List Combination) → ((c : Combination) → Memᴰ c cs → (d : Combination) × Memᴰ d ds × (lies_inside c d ≡ true)) → all_inside cs ds ≡ true
unfolding all_inside
inside-intro cs ds f =
    all-intro (λ (c : Combination). any (lies_inside c) ds) cs (λ c m. let k = f c m in any-intro (lies_inside c) ds k.1 k.2)

inside-self : (c : Combination) → lies_inside c c ≡ true
unfolding lies_inside
inside-self c = all-intro (λ (r : ℕ). elem r c) c (λ r m. mem-elem c m)

-- a list of more combinations, in whatever order and however often
pub more-inside : (cs ds : List Combination) → ((c : Combination) → Memᴰ c cs → Memᴰ c ds) → all_inside cs ds ≡ true
more-inside cs ds f = inside-intro cs ds (λ c m. (c, f c m, inside-self c))

-- a whole combination within a list is one of its combinations
whole-within : (m k x y : ℕ) → k < x / m → k * m + m ≤ y → k < y / m
whole-within zero k x y h l = absurd (omega (arith, h, div-zero x))
whole-within (suc m) k x y h l = (le-div_iff_mul-le {k = suc m} {x = suc k} {y = y} (omega arith)).1 (omega (arith, l, suc-mul k (suc m)))

-- members added behind a list keep its combinations
added-member : (m : ℕ) (xs ys : List ℕ) {c : Combination} → Memᴰ c (combinations m xs) → Memᴰ c (combinations m (xs ++ ys))
unfolding combinations
added-member m xs ys {c} n =
    let a = Memᴰ.of_map (λ (k : ℕ). take m (drop (k * m) xs)) (from 0 (length xs / m)) n in
    let k = a.0 in
    let h : k < length xs / m = omega (arith, from-mem 0 (length xs / m) k a.1) in
    let l = combination-within m xs k h in
    let more : k < length (xs ++ ys) / m = whole-within m k (length xs) (length (xs ++ ys)) h (omega (arith, l, length-append xs ys)) in
    let same : take m (drop (k * m) (xs ++ ys)) ≡ c =
    ap (take m) (drop-append-le (k * m) xs ys (omega arith))
    ∙ take-append-le m (drop (k * m) xs) ys (omega (arith, length-drop (k * m) xs))
    ∙ a.2 in
    Memᴰ.cast (sym same) (Memᴰ.map (λ (k : ℕ). take m (drop (k * m) (xs ++ ys))) (mem-from 0 (length (xs ++ ys) / m) k (omega arith) (omega arith)))

pub added-inside : (m : ℕ) (xs ys : List ℕ) → all_inside (combinations m xs) (combinations m (xs ++ ys)) ≡ true
added-inside m xs ys = more-inside (combinations m xs) (combinations m (xs ++ ys)) (λ c n. added-member m xs ys n)

-- every connected combination of m, where each of the first list lies inside one
pub connected-inside : (N : Network) (m : ℕ) (cs ds : List Combination) → HoldsConnected N m ds → LieInConnected N m cs → all_inside cs ds ≡ true
connected-inside N m cs ds holds f = inside-intro cs ds (λ c n. let k = f c n in (k.0, holds k.0 k.1, k.2))
