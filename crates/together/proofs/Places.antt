-- Laws of the places of a search: what is known of each member, the place behind one, and one tuple more chosen.
-- From what a search asks, and the laws of starts and of members.
use mathlib.Core.Path.{◌≡◌, refl, sym, ◌∙◌, ap, ap₂, subst}
use mathlib.Core.Bool.{Bool, true, false, cond}
use mathlib.Core.List.{List, [], ◌∷◌, ◌++◌}
use mathlib.Core.Logic.{◌⊎◌, inl, inr}
use Prim.Native.Nat.{ℕ, suc, ◌+◌, ◌-◌, ◌*◌, ◌≤◌, ◌<◌}
use native.Mathlib.Decide.{ℕ_discrete}
use native.Mathlib.Omega.{arith}
use borrow.Author.Tests.{eqb-true, eqb-false}
use lib.Dec.{eqb}
use lib.ListN.{length, get_or, take, drop, set, take-append-drop}
use lib.Seq.{take-suc, get_or-take, ext_get_or, length-take-le, get_or-set_same, get_or-set_other}
use Rattle.model.specs.Lists.{earlier}
use Rattle.model.specs.Agreement.{agree}
use Rattle.model.specs.LiveWords.{is_live}
use Rattle.model.proofs.Lists.{earlier-above, later-append, later-earlier}
use Rattle.model.proofs.Agreement.{agree-sym}
use Rattle.live.proofs.Ahead.{Ahead, NextLive}
use Rattle.layout.specs.Starts.{tuple_start}
use Rattle.layout.proofs.SoundStarts.{tuple-start, tuple-end, ids-few}
use Rattle.narrowing.specs.Narrows.{Long}
use Rattle.spreading.proofs.Kept.{member_below}
use Rattle.support.specs.Search.{place_behind}
use Rattle.together.specs.Together.{Joint, joint, net_of, tuple_at, size_at, SoundJoint, Before, Chosen, AgreesAll, Completes}

-- the search on lists
abbrev pub joint_of : List ℕ → List ℕ → List ℕ → List ℕ → ℕ → Joint
joint_of = joint (λ (list : List ℕ). list)

-- ---- The order

-- equal before place k, and there greater: not earlier
pub earlier-past : (xs ys : List ℕ) (k : ℕ) → k < length xs → k < length ys → ((j : ℕ) → j < k → get_or xs j 0 ≡ get_or ys j 0) → get_or ys k 0 < get_or xs k 0 → earlier xs ys ≡ false
earlier-past xs ys k hx hy same l = later-earlier xs ys (ap (earlier ys) parts ∙ later-append (take k ys ++ (get_or xs k 0 ∷ [])) (drop (suc k) xs) ys (earlier-above k (get_or xs k 0) ys hy l))
  where
    long-xs : length (take k xs) ≡ k
    long-xs = length-take-le k xs (omega arith)

    long-ys : length (take k ys) ≡ k
    long-ys = length-take-le k ys (omega arith)

    front : take k xs ≡ take k ys
    front =
        ext_get_or 0 (take k xs) (take k ys) (long-xs ∙ sym long-ys)
        (λ j h. let l : j < k = omega (arith, h, long-xs) in get_or-take k xs j 0 l ∙ same j l ∙ sym (get_or-take k ys j 0 l))

    parts : xs ≡ (take k ys ++ (get_or xs k 0 ∷ [])) ++ drop (suc k) xs
    parts =
        sym (take-append-drop (suc k) xs)
        ∙ ap (λ (t : List ℕ). t ++ drop (suc k) xs) (take-suc xs k 0 hx ∙ ap (λ (t : List ℕ). t ++ (get_or xs k 0 ∷ [])) front)

-- ---- The members

-- The ids of the member at j, as the starts have them.
pub record IdsAt (Q : Joint) (j : ℕ) : Type 0 where
  pub relation : get_or Q.members j 0 < 64
  pub begin : tuple_start Q.lists.starts (get_or Q.members j 0) ≡ tuple_at Q j 0
  pub stop : tuple_start Q.lists.starts (get_or Q.members j 0 + 1) ≡ tuple_at Q j (size_at Q j)
  pub few : tuple_at Q j (size_at Q j) ≤ 4096

pub ids_at : {Q : Joint} {index : List ℕ} → SoundJoint Q index → (j : ℕ) → j < length Q.members → IdsAt Q j
ids_at {Q} S j h =
    let r = get_or Q.members j 0 in
    let b : r < 64 = member_below S.laid S.members j h in
    let e = tuple-end S.laid.framed r b in
    record {
      relation = b;
      begin = tuple-start S.laid.framed r (omega arith) ∙ omega arith;
      stop = e;
      few = omega (arith, e, ids-few S.laid.framed r b);
    }

-- The ids from first on and below end are those of the member at j.
pub record Span (Q : Joint) (j first end : ℕ) : Type 0 where
  pub begin : first ≡ tuple_at Q j 0
  pub stop : end ≡ tuple_at Q j (size_at Q j)
  pub few : end ≤ 4096

pub span : {Q : Joint} {index : List ℕ} → SoundJoint Q index → (j : ℕ) → j < length Q.members → (first end : ℕ) → first ≡ tuple_start Q.lists.starts (get_or Q.members j 0) → end ≡ tuple_start Q.lists.starts (get_or Q.members j 0 + 1) → Span Q j first end
span S j h first end low high =
    let ids = ids_at S j h in
    record { begin = low ∙ ids.begin; stop = high ∙ ids.stop; few = omega (arith, high, ids.stop, ids.few) }

module _ {Q : Joint} {j first end : ℕ} (I : Span Q j first end) where
  -- what a loop over its live ids asks, and what it has first
  pub span-asked : (words : List ℕ) → Long words → (first ≤ end) × (end ≤ 64 * length words) × (end ≤ 4096)
  span-asked words long = (omega (arith, I.begin, I.stop), omega (arith, I.few, long), I.few)

  pub span-ahead : {words words' : List ℕ} {at end' : ℕ} → words' ≡ words → at ≡ first → end' ≡ end → Ahead words first end words' at end'
  span-ahead w a e = record { same_words = w; same_end = e; from = omega (arith, a); to_end = omega (arith, a, I.begin, I.stop) }

  -- the index of the tuple that comes next
  pub span-id : {words words' : List ℕ} {at end' g at' : ℕ} → Ahead words first end words' at end' → NextLive words end at g at' → (tuple_at Q j (g - first) ≡ g) × (g - first < size_at Q j)
  span-id A N = (omega (arith, I.begin, A.from, N.from), omega (arith, I.begin, I.stop, A.from, N.from, N.below))

-- ---- The place behind

-- A place up to k, or the seeking member's; and the next behind.
pub record Behind (Q : Joint) (k : ℕ) : Type 0 where
  pub past : k < place_behind Q.place k
  pub up_to : (j : ℕ) → j < place_behind Q.place k → (j ≡ Q.place → ⊥) → j ≤ k
  pub from_on : (j : ℕ) → k < j → (j ≡ Q.place → ⊥) → place_behind Q.place k ≤ j
  pub other : place_behind Q.place k ≡ Q.place → ⊥

pub behind : (Q : Joint) (k : ℕ) → (k ≡ Q.place → ⊥) → Behind Q k
behind Q k d = go (eqb (k + 1) Q.place) refl
  where
    go : (b : Bool) → eqb (k + 1) Q.place ≡ b → Behind Q k
    go true e =
        let q = eqb-true (k + 1) Q.place e in
        let n : place_behind Q.place k ≡ k + 2 = ap (λ (b : Bool). cond b (k + 2) (k + 1)) e in
        record {
          past = omega (arith, n);
          up_to = λ j h o. let f : (j ≡ k + 1) → ⊥ = λ i. o (i ∙ q) in omega (arith, n, h, f);
          from_on = λ j h o. let f : (j ≡ k + 1) → ⊥ = λ i. o (i ∙ q) in omega (arith, n, h, f);
          other = λ p. omega (arith, n, p, q);
        }
    go false e =
        let q = eqb-false (k + 1) Q.place e in
        let n : place_behind Q.place k ≡ k + 1 = ap (λ (b : Bool). cond b (k + 2) (k + 1)) e in
        record {
          past = omega (arith, n);
          up_to = λ j h o. omega (arith, n, h);
          from_on = λ j h o. omega (arith, n, h);
          other = λ p. q (sym n ∙ p);
        }

-- ---- Tuple y chosen for member k

module _ (Q : Joint) (k : ℕ) (chosen : List ℕ) (y : ℕ) (inside : k < length chosen) (other : k ≡ Q.place → ⊥) where
  abbrev on : ℕ
  on = place_behind Q.place k

  abbrev more : List ℕ
  more = set chosen k y

  pub more-here : get_or more k 0 ≡ y
  more-here = get_or-set_same chosen k y 0 inside

  pub more-before : (j : ℕ) → j < k → get_or more j 0 ≡ get_or chosen j 0
  more-before j h = get_or-set_other chosen k j y 0 (λ e. omega arith)

  -- a place before the next is one before k, or k
  pub before-cases : (j : ℕ) → Before Q on j → Before Q k j ⊎ (j ≡ k)
  before-cases j b = go (ℕ_discrete j k)
    where
      go : Dec (j ≡ k) → Before Q k j ⊎ (j ≡ k)
      go (yes q) = inr q
      go (no d) = inl (record { below = let l = (behind Q k other).up_to j b.below b.other in omega arith; other = b.other })

  pub before_on : (j : ℕ) → Before Q k j → Before Q on j
  before_on j b = record { below = let p = (behind Q k other).past in omega (arith, b.below); other = b.other }

  pub own_on : Before Q on k
  own_on = record { below = (behind Q k other).past; other = other }

  pub chosen_more : Chosen Q k chosen → y < size_at Q k → AgreesAll Q k chosen k y → Chosen Q on more
  chosen_more C h agrees = record { within = λ j b. within j (before-cases j b); agreeing = λ i j b d n. agreeing i j (before-cases i b) (before-cases j d) n }
    where
      within : (j : ℕ) → Before Q k j ⊎ (j ≡ k) → get_or more j 0 < size_at Q j
      within j (inl b) = subst (λ (z : ℕ). z < size_at Q j) (sym (more-before j b.below)) (C.within j b)
      within j (inr q) = subst (λ (i : ℕ). get_or more i 0 < size_at Q i) (sym q) (subst (λ (z : ℕ). z < size_at Q k) (sym more-here) h)

      -- as they stand
      at_before : (j : ℕ) → Before Q k j → tuple_at Q j (get_or more j 0) ≡ tuple_at Q j (get_or chosen j 0)
      at_before j b = ap (tuple_at Q j) (more-before j b.below)

      at_own : (j : ℕ) → j ≡ k → tuple_at Q j (get_or more j 0) ≡ tuple_at Q k y
      at_own j q = ap (λ (i : ℕ). tuple_at Q i (get_or more i 0)) q ∙ ap (tuple_at Q k) more-here

      agreeing : (i j : ℕ) → Before Q k i ⊎ (i ≡ k) → Before Q k j ⊎ (j ≡ k) → (i ≡ j → ⊥) → agree (net_of Q) (tuple_at Q i (get_or more i 0)) (tuple_at Q j (get_or more j 0)) ≡ true
      agreeing i j (inl b) (inl d) n = ap₂ (agree (net_of Q)) (at_before i b) (at_before j d) ∙ C.agreeing i j b d n
      agreeing i j (inl b) (inr q) n = ap₂ (agree (net_of Q)) (at_before i b) (at_own j q) ∙ agrees i b
      agreeing i j (inr q) (inl d) n = ap₂ (agree (net_of Q)) (at_own i q) (at_before j d) ∙ agree-sym (net_of Q) (tuple_at Q k y) (tuple_at Q j (get_or chosen j 0)) ∙ agrees j d
      agreeing i j (inr q) (inr r) n = absurd (n (q ∙ sym r))

  module _ (words : List ℕ) (x : ℕ) (is : List ℕ) where
    -- what completes them has y, and those before
    pub completes-own : Completes Q on more words x is → get_or is k 0 ≡ y
    completes-own c = c.before k own_on ∙ more-here

    pub completes-all : Completes Q on more words x is → k < length Q.members → AgreesAll Q k chosen k y
    completes-all c h j b =
        let p = before_on j b in
        ap₂ (agree (net_of Q)) (ap (tuple_at Q j) (sym (c.before j p ∙ more-before j b.below))) (ap (tuple_at Q k) (sym (completes-own c)))
        ∙ c.agreeing j k (omega (arith, b.below, h)) h (λ q. omega (arith, q, b.below))

    -- .. and completes those before alone
    pub completes-less : is_live words (tuple_at Q k y) ≡ true → Completes Q on more words x is → Completes Q k chosen words x is
    completes-less lives c =
        record {
          long = c.long;
          within = c.within;
          agreeing = c.agreeing;
          own = c.own;
          before = λ j b. c.before j (before_on j b) ∙ more-before j b.below;
          behind = λ j h l o. go j h l o (ℕ_discrete k j);
        }
      where
        go : (j : ℕ) → k ≤ j → j < length Q.members → (j ≡ Q.place → ⊥) → Dec (k ≡ j) → is_live words (tuple_at Q j (get_or is j 0)) ≡ true
        go j h l o (yes q) = subst (λ (i : ℕ). is_live words (tuple_at Q i (get_or is i 0)) ≡ true) q (ap (λ (z : ℕ). is_live words (tuple_at Q k z)) (completes-own c) ∙ lives)
        go j h l o (no d) = c.behind j ((behind Q k other).from_on j (omega arith) o) l o

    -- what completes those before with y
    pub completes-more : get_or is k 0 ≡ y → Completes Q k chosen words x is → Completes Q on more words x is
    completes-more e c =
        record {
          long = c.long;
          within = c.within;
          agreeing = c.agreeing;
          own = c.own;
          before = λ j b. go j (before-cases j b);
          behind = λ j h l o. c.behind j (let p = (behind Q k other).past in omega arith) l o;
        }
      where
        go : (j : ℕ) → Before Q k j ⊎ (j ≡ k) → get_or is j 0 ≡ get_or more j 0
        go j (inl b) = c.before j b ∙ sym (more-before j b.below)
        go j (inr q) = ap (λ (i : ℕ). get_or is i 0) q ∙ e ∙ sym more-here ∙ ap (λ (i : ℕ). get_or more i 0) (sym q)
