-- Laws of fresh tuples and of those that are spent: what a search came to says that every support has a fresh tuple still.
-- From the laws of supports, of one tuple put in for another, and of the search from a bound.
use mathlib.Core.Path.{◌≡◌, refl, sym, ◌∙◌, ap, subst}
use mathlib.Core.Bool.{Bool, true, false, not, ◌&&◌, cond}
use mathlib.Core.Option
use mathlib.Core.Option.{Option, none, some}
use mathlib.Core.List.{List, [], ◌∷◌, map, Memᴰ}
use mathlib.Core.Logic.{◌⊎◌, inl, inr, ⊎_elim}
use Prim.Native.Nat.{ℕ, zero, suc, ◌+◌, ◌-◌, ◌*◌, ◌/◌, ◌%◌, ◌^◌, ◌≤◌, ◌<◌}
use native.Mathlib.Nat.{le_of_suc-le-suc}
use native.Mathlib.Decide.{ℕ_discrete}
use native.Mathlib.Omega.{arith}
use lib.Dec.{eqb, ltb}
use lib.ListN.{length, get_or, set, take, replicate, length-map, get_or-replicate}
use lib.Seq.{get_or-set_same, get_or-set_other}
use borrow.Author.Tests.{lt-ltb, eq-eqb, eqb-true}
use Rattle.model.specs.Limits.{no_support}
use Rattle.model.specs.Lists.{all, pairwise, earlier}
use Rattle.model.specs.Network.{Network, size, total, first_id, index_of}
use Rattle.model.specs.Agreement.{agree}
use Rattle.model.specs.TupleSet.{TupleSet, has}
use Rattle.model.specs.Combination.{Combination}
use Rattle.model.specs.Support.{candidates, is_support, first_support, support_from}
use Rattle.model.specs.LiveWords.{is_set, is_live, cleared}
use Rattle.model.proofs.Bools.{or_left, or_right, and_intro, not-both}
use Rattle.model.proofs.Lists.{all-intro, get_d-mem, mem-get_d}
use Rattle.model.proofs.Network.{ids-below, ids-apart}
use Rattle.model.proofs.LiveWords.{living-has}
use Rattle.model.proofs.Support.{Supported, is_support-intro, is_support-self, candidates-length, candidates-at, candidates-index, candidates-id, candidates-own, first_support-least, first_support-earliest, first_support-length}
use Rattle.model.proofs.Search.{support_from-first, support_from-some, support_from-none}
use Rattle.model.proofs.Twins.{put-candidate, put-support, put-indices}
use Rattle.live.proofs.Bits.{is_set-not, is_set-nought}
use Rattle.live.proofs.Stores.{cleared-live}
use Rattle.spreading.specs.Spread.{AllLive}
use Rattle.spreading.specs.Fresh.{HasFresh, Meets}
use Rattle.support.specs.Search.{Search, net_of, live_of, id_at, seeker, SoundSearch, place_behind, past_own, answer}
use Rattle.support.specs.declared.Stage.{Stage}
use Rattle.support.specs.Spent.{MeetsIn, Spent, Spends, Notes}
use Rattle.support.proofs.Walking.{members-apart, few-tuples, member-within}

-- ---- One id after the other

module _ (N : Network) (r x s end : ℕ) where
  -- what is no longer fresh is a tuple of relation s, below id `end`, that agrees with tuple x of relation r
  abbrev pub SpentOf : List ℕ → List ℕ → Type 0
  SpentOf before after = (g : ℕ) → is_live before g ≡ true → is_live after g ≡ false → (first_id N s ≤ g) × (g < end) × (agree N (first_id N r + x) g ≡ true)

  pub spent-more : (before after : List ℕ) (g : ℕ) → g < 64 * length after → first_id N s ≤ g → g < end → agree N (first_id N r + x) g ≡ true → SpentOf before after → SpentOf before (cleared g after)
  spent-more before after g l from to agrees so_far h was gone = go (is_live after h) refl
    where
      go : (b : Bool) → is_live after h ≡ b → (first_id N s ≤ h) × (h < end) × (agree N (first_id N r + x) h ≡ true)
      go false e = so_far h was e
      go true e =
          let same : g ≡ h = eqb-true g h (flip (eqb g h) (sym (ap (λ (b : Bool). b && not (eqb g h)) e) ∙ sym (cleared-live after g h l) ∙ gone)) in
          subst (λ (k : ℕ). (first_id N s ≤ k) × (k < end) × (agree N (first_id N r + x) k ≡ true)) same (from, to, agrees)
        where
          flip : (b : Bool) → not b ≡ false → b ≡ true
          flip true q = refl
          flip false q = sym q

-- ---- One member after the other

-- all ids below 4,096 are live in words of ones
pub ones-live : (g : ℕ) → g < 4096 → is_live (replicate 64 (2 ^ 64 - 1 - 0)) g ≡ true
unfolding is_live
ones-live g h =
    ap (λ (w : ℕ). is_set w (g % 64)) (get_or-replicate {A = ℕ} 64 (g / 64) (2 ^ 64 - 1 - 0) 0 (omega (arith, h)))
    ∙ is_set-not 64 0 (g % 64) (omega arith) (omega arith)
    ∙ ap not (is_set-nought (g % 64))

-- .. so that every support has one beside a tuple of its own, if there is another member
pub meets-ones : (N : Network) → total N ≤ 4096 → (c : Combination) (place : ℕ) (words : List ℕ) → 1 < length c → Meets N c place words (replicate 64 (2 ^ 64 - 1 - 0))
meets-ones N few c place words two t m a l = go (ℕ_discrete place 0)
  where
    at : (j : ℕ) → j < length c → (j ≡ place → ⊥) → HasFresh t place (replicate 64 (2 ^ 64 - 1 - 0))
    at j h d = record { j = j; inside = omega (arith, h, candidates-length N c m); other = d; is-fresh = ones-live (get_or t j 0) (omega (arith, few, ids-below N (get_or c j 0) (candidates-at N c m j h).1)) }

    go : Dec (place ≡ 0) → HasFresh t place (replicate 64 (2 ^ 64 - 1 - 0))
    go (yes e) = at 1 two (λ q. omega (arith, e, q))
    go (no d) = at 0 (omega (arith, two)) (λ q. d (sym q))

module _ (Q : Search) (R : SoundSearch Q) (k bound : ℕ) where
  abbrev Reached : List ℕ → Type 0
  Reached fresh = Spends (net_of Q) Q.members Q.place Q.own k bound fresh

  pub spends-none : (fresh : List ℕ) → ((g : ℕ) → g < 4096 → is_live fresh g ≡ true) → Reached fresh
  spends-none fresh ones j z h d l gone = absurd (not-both (ones (id_at (net_of Q) Q.members j z) (omega (arith, l, member-within Q R j h, few-tuples Q R))) gone)

  pub spends-more : (i : ℕ) → i < length Q.members → (end : ℕ) → end ≤ first_id (net_of Q) (get_or Q.members i 0) + size (net_of Q) (get_or Q.members i 0) → (i ≡ k → end ≤ bound) → (before after : List ℕ) → Spent (net_of Q) (get_or Q.members Q.place 0) Q.own (get_or Q.members i 0) end before after → Reached before → Reached after
  spends-more i hi end to below before after P T j z h d l gone = go (is_live before g) refl
    where
      g : ℕ
      g = id_at (net_of Q) Q.members j z

      bounded : (first_id (net_of Q) (get_or Q.members i 0) ≤ g) → g < end → Dec (i ≡ j) → j ≡ k → g < bound
      bounded from less (yes p) q = let b = below (p ∙ q) in omega (arith, b, less)
      bounded from less (no p) q =
          absurd
          (⊎_elim (λ o. omega (arith, o, from)) (λ o. omega (arith, o, less, to))
          (ids-apart (net_of Q) (get_or Q.members j 0) z (get_or Q.members i 0) l (members-apart Q R i j hi h p)))

      go : (b : Bool) → is_live before g ≡ b → (agree (net_of Q) (seeker Q) g ≡ true) × (j ≡ k → g < bound)
      go false e = T j z h d l e
      go true e = let s = P.spent g e gone in (s.2, λ q. bounded s.0 s.1 (ℕ_discrete i j) q)

  -- the first of the seeking tuple's member
  pub spends-flag : (fresh : List ℕ) → length fresh ≡ 64 → (flag : ℕ) → flag ≡ first_id (net_of Q) (get_or Q.members Q.place 0) → Reached fresh → Reached (cleared flag fresh)
  spends-flag fresh long flag e T j z h d l gone = go (is_live fresh g) refl
    where
      g : ℕ
      g = id_at (net_of Q) Q.members j z

      other : flag ≡ g → ⊥
      other q =
          ⊎_elim (λ o. omega (arith, o, e, q)) (λ o. omega (arith, o, e, q, R.own))
          (ids-apart (net_of Q) (get_or Q.members j 0) z (get_or Q.members Q.place 0) l (members-apart Q R Q.place j R.place h (λ p. d (sym p))))

      flip : (b : Bool) → not b ≡ false → b ≡ true
      flip true q = refl
      flip false q = sym q

      go : (b : Bool) → is_live fresh g ≡ b → (agree (net_of Q) (seeker Q) g ≡ true) × (j ≡ k → g < bound)
      go false p = T j z h d l p
      go true p =
          absurd
          (other
          (eqb-true flag g
          (flip (eqb flag g)
          (sym (ap (λ (b : Bool). b && not (eqb flag g)) p) ∙ sym (cleared-live fresh flag g (omega (arith, long, e, R.own, member-within Q R Q.place R.place, few-tuples Q R))) ∙ gone))))

-- ---- Lists that differ first at a place

pub earlier-at : (k : ℕ) (xs ys : List ℕ) → k < length xs → k < length ys → ((j : ℕ) → j < k → get_or xs j 0 ≡ get_or ys j 0) → get_or xs k 0 < get_or ys k 0 → earlier xs ys ≡ true
earlier-at k [] ys h l same less = absurd (omega (arith, h))
earlier-at k (x ∷ xs) [] h l same less = absurd (omega (arith, l))
earlier-at zero (x ∷ xs) (y ∷ ys) h l same less = or_left (eqb x y && earlier xs ys) (lt-ltb x y less)
earlier-at (suc k) (x ∷ xs) (y ∷ ys) h l same less =
    or_right (ltb x y) (and_intro (eq-eqb x y (same 0 (omega arith))) (earlier-at k xs ys (le_of_suc-le-suc h) (le_of_suc-le-suc l) (λ j i. same (suc j) (omega (arith, i))) less))

-- a place is before the one behind it
pub before-behind : (place k n : ℕ) → place_behind place k < n → k < n
before-behind place k n = go (eqb (k + 1) place)
  where
    go : (b : Bool) → cond b (k + 2) (k + 1) < n → k < n
    go true h = omega (arith, h)
    go false h = omega (arith, h)

-- so there are two
pub two-open : (place k n : ℕ) → place_behind place k < n → 1 < n
two-open place k n = go (eqb (k + 1) place)
  where
    go : (b : Bool) → cond b (k + 2) (k + 1) < n → 1 < n
    go true h = omega (arith, h)
    go false h = omega (arith, h)

-- before the first other member there is none but the seeking tuple's
pub first-open : (place own : ℕ) (low : List ℕ) (s : Stage) → s ≡ past_own place own 0 low → (j : ℕ) → j < s.k → j ≡ place
first-open place own low s e j h = go (eqb 0 place) refl (subst (λ (s : Stage). j < s.k) e h)
  where
    go : (b : Bool) → eqb 0 place ≡ b → j < (cond {A = Stage} b (record { k = 0 + 1; chosen = set low 0 own }) (record { k = 0; chosen = low })).k → j ≡ place
    go true q l = let p = eqb-true 0 place q in omega (arith, l, p)
    go false q l = absurd (omega (arith, l))

-- ---- A fresh one, or none

pub find-fresh : (t : List ℕ) (place : ℕ) (fresh : List ℕ) (n : ℕ) → n ≤ length t → HasFresh t place fresh ⊎ ((j : ℕ) → j < n → (j ≡ place → ⊥) → is_live fresh (get_or t j 0) ≡ false)
find-fresh t place fresh zero h = inr (λ j l. absurd (omega (arith, l)))
find-fresh t place fresh (suc n) h =
    ⊎_elim
    (λ o. inl o)
    (λ rest. go rest (ℕ_discrete n place) (is_live fresh (get_or t n 0)) refl)
    (find-fresh t place fresh n (omega (arith, h)))
  where
    at : ((j : ℕ) → j < n → (j ≡ place → ⊥) → is_live fresh (get_or t j 0) ≡ false) → is_live fresh (get_or t n 0) ≡ false → (j : ℕ) → j < suc n → (j ≡ place → ⊥) → Dec (j ≡ n) → is_live fresh (get_or t j 0) ≡ false
    at rest q j l o (yes e) = subst (λ (i : ℕ). is_live fresh (get_or t i 0) ≡ false) (sym e) q
    at rest q j l o (no f) = rest j (omega (arith, l, f)) o

    go : ((j : ℕ) → j < n → (j ≡ place → ⊥) → is_live fresh (get_or t j 0) ≡ false) → Dec (n ≡ place) → (b : Bool) → is_live fresh (get_or t n 0) ≡ b → HasFresh t place fresh ⊎ ((j : ℕ) → j < suc n → (j ≡ place → ⊥) → is_live fresh (get_or t j 0) ≡ false)
    go rest (yes e) b q = inr (λ j l d. rest j (omega (arith, l, e, d)) d)
    go rest (no d) true q = inl (record { j = n; inside = omega (arith, h); other = d; is-fresh = q })
    go rest (no d) false q = inr (λ j l o. at rest q j l o (ℕ_discrete j n))

-- ---- What a search came to

module _ (Q : Search) (R : SoundSearch Q) (lives : has (live_of Q) (seeker Q) ≡ true) (lowest : (u : List ℕ) → Memᴰ u (candidates (net_of Q) Q.members) → is_support (net_of Q) (live_of Q) (seeker Q) u ≡ true → earlier (map (index_of (net_of Q)) u) Q.low ≡ false) (rises : pairwise ltb Q.members ≡ true) (ok : Bool) (tuples : List ℕ) (finds : answer ok (take (length Q.members) tuples) ≡ support_from (net_of Q) (live_of Q) Q.members (seeker Q) Q.low) where
  abbrev N : Network
  N = net_of Q

  abbrev S : TupleSet
  S = live_of Q

  abbrev c : Combination
  c = Q.members

  abbrev ts : List ℕ
  ts = take (length c) tuples

  -- what is found is the first support
  found_first : ok ≡ true → first_support N S c (seeker Q) ≡ ts
  found_first e =
      support_from-first N S (seeker Q) Q.low c lowest
      ∙ ap (λ (o : Option (List ℕ)). Option.get_or o (replicate (length c) no_support)) (sym finds ∙ ap (λ (b : Bool). answer b ts) e)

  found_some : ok ≡ true → Supported N S c (seeker Q)
  found_some e = support_from-some N S (seeker Q) Q.low c ts (sym finds ∙ ap (λ (b : Bool). answer b ts) e)

  -- .. it has the seeking tuple
  found-own : ok ≡ true → get_or ts Q.place 0 ≡ Q.own
  found-own e =
      let f = first_support-least N S c (seeker Q) (found_some e) in
      ap (λ (is : List ℕ). get_or is Q.place 0) (sym (found_first e) ∙ f.3)
      ∙ candidates-own N c rises f.1 Q.place Q.own R.place R.own (is_support-self N S (seeker Q) f.0 f.2)

  -- .. and one of each member
  pub found_within : ok ≡ true → (k : ℕ) → k < length c → get_or ts k 0 < size N (get_or c k 0)
  found_within e k h =
      let f = first_support-least N S c (seeker Q) (found_some e) in
      let i = candidates-index N c f.1 k h in
      omega (arith, ap (λ (is : List ℕ). get_or is k 0) (sym (found_first e) ∙ f.3), i)

  -- ---- Tuples of a support that are all spent

  module _ (k : ℕ) (inside : k < length c) (other : k ≡ Q.place → ⊥) (first : (j : ℕ) → j < k → j ≡ Q.place) (fresh : List ℕ) (K : Notes N c Q.place Q.own k ok (get_or ts k 0) fresh) (t : List ℕ) (m : Memᴰ t (candidates N c)) (a : pairwise (agree N) t ≡ true) (l : AllLive Q.words t) (spent : (j : ℕ) → j < length t → (j ≡ Q.place → ⊥) → is_live fresh (get_or t j 0) ≡ false) where
    abbrev y : ℕ
    y = get_or (map (index_of N) t) Q.place 0

    long : length t ≡ length c
    long = candidates-length N c m

    index : (j : ℕ) → j < length c → id_at N c j (get_or (map (index_of N) t) j 0) ≡ get_or t j 0
    index j h = candidates-id N c m j h

    live : all (has S) t ≡ true
    live =
        all-intro (has S) t
        (λ g n.
        let q = mem-get_d t 0 n in
        let b : g < total N = subst (λ (h : ℕ). h < total N) q.2 (ids-below N (get_or c q.0 0) (candidates-at N c m q.0 (omega (arith, q.1, long))).1) in
        living-has (total N) Q.words g b ∙ l g n)

    whole : is_support N S (id_at N c Q.place y) t ≡ true
    whole = is_support-intro N S (id_at N c Q.place y) t (subst (λ (g : ℕ). Memᴰ g t) (sym (index Q.place R.place)) (get_d-mem t Q.place 0 (omega (arith, R.place, long)))) live a

    agrees : (i : ℕ) → i < length c → (i ≡ Q.place → ⊥) → agree N (seeker Q) (get_or t i 0) ≡ true
    agrees i h d =
        ap (agree N (seeker Q)) (sym (index i h))
        ∙ K.agrees i (get_or (map (index_of N) t) i 0) h d (candidates-index N c m i h) (ap (is_live fresh) (index i h) ∙ spent i (omega (arith, h, long)) d)

    y-in : y < size N (get_or c Q.place 0)
    y-in = candidates-index N c m Q.place R.place

    -- the seeking tuple put in
    abbrev u : List ℕ
    u = set t Q.place (seeker Q)

    u-candidate : Memᴰ u (candidates N c)
    u-candidate = put-candidate N S c rises Q.place R.place y Q.own y-in R.own t m whole

    u-support : is_support N S (seeker Q) u ≡ true
    u-support = put-support N S c rises Q.place R.place y Q.own y-in R.own t m whole lives agrees

    is-u : map (index_of N) u ≡ set (map (index_of N) t) Q.place Q.own
    is-u = put-indices N S c rises Q.place R.place y Q.own y-in R.own t m whole

    lower : ok ≡ true → earlier (map (index_of N) u) ts ≡ true
    lower e =
        let n = length-map t (index_of N) in
        let long-ts : length ts ≡ length c = ap length (sym (found_first e)) ∙ first_support-length N S c (seeker Q) in
        earlier-at k (map (index_of N) u) ts (omega (arith, ap length (is-u), length-map u (index_of N), candidates-length N c u-candidate, inside)) (omega (arith, inside, long-ts))
        (λ j i.
        let p = first j i in
        ap (λ (is : List ℕ). get_or is j 0) is-u
        ∙ ap (λ (q : ℕ). get_or (set (map (index_of N) t) Q.place Q.own) q 0) p
        ∙ get_or-set_same (map (index_of N) t) Q.place Q.own 0 (omega (arith, n, long, R.place))
        ∙ sym (found-own e)
        ∙ ap (λ (q : ℕ). get_or ts q 0) (sym p))
        (omega (
          arith,
          ap (λ (is : List ℕ). get_or is k 0) is-u,
          get_or-set_other (map (index_of N) t) Q.place k Q.own 0 other,
          K.below e (get_or (map (index_of N) t) k 0) inside other (candidates-index N c m k inside) (ap (is_live fresh) (index k inside) ∙ spent k (omega (arith, inside, long)) other),
        ))

    pub spent-none : ⊥
    spent-none = go ok refl
      where
        go : (b : Bool) → ok ≡ b → ⊥
        go true e = not-both (lower e) (ap (earlier (map (index_of N) u)) (sym (found_first e)) ∙ first_support-earliest N S c (seeker Q) u u-candidate u-support)
        go false e = support_from-none N S (seeker Q) Q.low c lowest (sym finds ∙ ap (λ (b : Bool). answer b ts) e) (u, u-candidate, u-support)

  -- every support has a fresh tuple
  pub notes-meet : (k : ℕ) → k < length c → (k ≡ Q.place → ⊥) → ((j : ℕ) → j < k → j ≡ Q.place) → (fresh : List ℕ) → Notes N c Q.place Q.own k ok (get_or ts k 0) fresh → MeetsIn Q fresh
  notes-meet k inside other first fresh K t m a l =
      ⊎_elim (λ o. o) (λ spent. absurd (spent-none k inside other first fresh K t m a l spent)) (find-fresh t Q.place fresh (length t) (omega arith))
