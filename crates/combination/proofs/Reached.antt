-- Connectedness by masks: once a pass over the members adds nothing to the variables reached from one of them, the
-- combination is connected exactly if every member has one of them; and so it is in a network that has these masks.
-- From the model's laws of divisions and the bits of words.
use mathlib.Core.Path.{◌≡◌, refl, sym, ◌∙◌, ap}
use mathlib.Core.Bool.{Bool, true, false, not, cond, false≢true}
use mathlib.Core.List.Memᴰ
use mathlib.Core.List.{List, [], ◌∷◌, Memᴰ}
use mathlib.Core.Logic.{⊎_elim}
use Prim.Native.Nat.{ℕ, ◌≤◌, ◌<◌}
use native.Mathlib.Omega.{arith}
use borrow.Author.Tests.{eqb-false, ne_eqb, lt-ltb, not-true}
use lib.Bits.{bit_and, bit_or}
use lib.Dec.{ltb}
use lib.ListN.{length, get_or}
use Rattle.model.specs.Limits.{max_relations}
use Rattle.model.specs.Lists.{all}
use Rattle.model.specs.Network.{Network}
use Rattle.model.specs.Agreement.{share}
use Rattle.model.specs.Combination.{Combination, connected}
use Rattle.model.specs.LiveWords.{is_set}
use Rattle.model.proofs.Bools.{and_right, and_intro, or_left, or_right, or_cases, iff-eq}
use Rattle.model.proofs.Lists.{here, all-at}
use Rattle.model.proofs.Fault.{Faultless}
use Rattle.model.proofs.Combination.{connected_by, connected-all, Reaches, start, step, reached-connected, connected-by, share-intro, share-at, share-self}
use Rattle.live.proofs.Bits.{is_set-or, and-some, and_none, le-or}
use Rattle.combination.specs.Masks.{Masks, meets, common, connected_in, known, grown, absorbed}

-- ---- One pass

module _ (ms : List ℕ) where
  meets_at : (w r : ℕ) → meets ms w r ≡ true → (x : ℕ) × (is_set (get_or ms r 0) x ≡ true) × (is_set w x ≡ true)
  meets_at w r e = and-some (get_or ms r 0) w (eqb-false (bit_and (get_or ms r 0) w) 0 (not-true _ e))

  meets-intro : (w r x : ℕ) → is_set (get_or ms r 0) x ≡ true → is_set w x ≡ true → meets ms w r ≡ true
  meets-intro w r x e f = ap not (ne_eqb (bit_and (get_or ms r 0) w) 0 (and_none (get_or ms r 0) w x e f))

  or-keeps : (b : Bool) (w a x : ℕ) → is_set w x ≡ true → is_set (cond b (bit_or w a) w) x ≡ true
  or-keeps true w a x e = is_set-or w a x ∙ or_left (is_set a x) e
  or-keeps false w a x e = e

  cond-le : (b : Bool) (w a : ℕ) → w ≤ cond b (bit_or w a) w
  cond-le true w a = le-or w a
  cond-le false w a = omega arith

  pub absorbed-le : (c : List ℕ) (w : ℕ) → w ≤ absorbed ms c w
  absorbed-le [] w = omega arith
  absorbed-le (r ∷ c) w = omega (arith, cond-le (meets ms w r) w (get_or ms r 0), absorbed-le c (grown ms w r))

  -- no variable is lost
  absorbed-keeps : (c : List ℕ) (w x : ℕ) → is_set w x ≡ true → is_set (absorbed ms c w) x ≡ true
  absorbed-keeps [] w x e = e
  absorbed-keeps (r ∷ c) w x e = absorbed-keeps c (grown ms w r) x (or-keeps (meets ms w r) w (get_or ms r 0) x e)

  -- what holds of the set's variables, and with one variable of a member of all its variables, holds of all those absorbed
  module _ (P : ℕ → Type 0) where
    grown-from : (w r : ℕ) → ((y : ℕ) → is_set (get_or ms r 0) y ≡ true → P y → (x : ℕ) → is_set (get_or ms r 0) x ≡ true → P x) → ((x : ℕ) → is_set w x ≡ true → P x) → (b : Bool) → meets ms w r ≡ b → (x : ℕ) → is_set (cond b (bit_or w (get_or ms r 0)) w) x ≡ true → P x
    grown-from w r over f true q x e =
        ⊎_elim
        (λ h. f x h)
        (λ h. let k = meets_at w r q in over k.0 k.1 (f k.0 k.2) x h)
        (or_cases (is_set w x) (is_set (get_or ms r 0) x) (sym (is_set-or w (get_or ms r 0) x) ∙ e))
    grown-from w r over f false q x e = f x e

    absorbed-from : (c : List ℕ) → ((r : ℕ) → Memᴰ r c → (y : ℕ) → is_set (get_or ms r 0) y ≡ true → P y → (x : ℕ) → is_set (get_or ms r 0) x ≡ true → P x) → (w : ℕ) → ((x : ℕ) → is_set w x ≡ true → P x) → (x : ℕ) → is_set (absorbed ms c w) x ≡ true → P x
    absorbed-from [] over w f = f
    absorbed-from (r ∷ c) over w f =
        absorbed-from c (λ s m. over s (Memᴰ.tail m)) (grown ms w r) (grown-from w r (over r here) f (meets ms w r) refl)

  or-fixed : (b : Bool) (w a x : ℕ) → b ≡ true → cond b (bit_or w a) w ≡ w → is_set a x ≡ true → is_set w x ≡ true
  or-fixed true w a x h e i = sym (ap (λ (v : ℕ). is_set v x) e) ∙ is_set-or w a x ∙ or_right (is_set w x) i
  or-fixed false w a x h e i = absurd (false≢true h)

  -- where a pass adds nothing, the set holds every variable of the members that it meets
  absorbed-fixed : (c : List ℕ) (w : ℕ) → absorbed ms c w ≡ w → {r : ℕ} → Memᴰ r c → meets ms w r ≡ true → (x : ℕ) → is_set (get_or ms r 0) x ≡ true → is_set w x ≡ true
  absorbed-fixed [] w e m h x i = absurd (Memᴰ.not-nil m)
  absorbed-fixed (s ∷ c) w e {r} m h x i =
      let g : grown ms w s ≡ w = omega (arith, cond-le (meets ms w s) w (get_or ms s 0), absorbed-le c (grown ms w s), e) in
      ⊎_elim
      (λ q. or-fixed (meets ms w s) w (get_or ms s 0) x (sym (ap (meets ms w) q) ∙ h) g (sym (ap (λ (t : ℕ). is_set (get_or ms t 0) x) q) ∙ i))
      (λ k. absorbed-fixed c w (sym (ap (absorbed ms c) g) ∙ e) k h x i)
      (Memᴰ.cases_cons m)

-- ---- Pass after pass

-- The set v is w after some passes.
pub data Passed (ms c : List ℕ) (w : ℕ) : ℕ → Type 0 where
  none : Passed ms c w w
  again : {v : ℕ} → Passed ms c w v → Passed ms c w (absorbed ms c v)

module _ (ms c : List ℕ) where
  passed-keeps : {w v : ℕ} (x : ℕ) → Passed ms c w v → is_set w x ≡ true → is_set v x ≡ true
  passed-keeps x none e = e
  passed-keeps x (again {v} p) e = absorbed-keeps ms c v x (passed-keeps x p e)

  passed-from : (P : ℕ → Type 0) {w v : ℕ} → ((r : ℕ) → Memᴰ r c → (y : ℕ) → is_set (get_or ms r 0) y ≡ true → P y → (x : ℕ) → is_set (get_or ms r 0) x ≡ true → P x) → ((x : ℕ) → is_set w x ≡ true → P x) → Passed ms c w v → (x : ℕ) → is_set v x ≡ true → P x
  passed-from P over f none = f
  passed-from P over f (again {v} p) = absorbed-from ms P c over v (passed-from P over f p)

module _ (ms : List ℕ) (c : Combination) where
  common-intro : (r s x : ℕ) → is_set (get_or ms r 0) x ≡ true → is_set (get_or ms s 0) x ≡ true → common ms r s ≡ true
  common-intro r s x e f = meets-intro ms (get_or ms r 0) s x f e

  pub common-sym : (r s : ℕ) → common ms r s ≡ true → common ms s r ≡ true
  common-sym r s e = let k = meets_at ms (get_or ms r 0) s e in common-intro s r k.0 k.1 k.2

  module _ (all_Known : all (known ms) c ≡ true) {r : ℕ} (m : Memᴰ r c) (v : ℕ) (p : Passed ms c (get_or ms r 0) v) where
    self : {s : ℕ} → Memᴰ s c → common ms s s ≡ true
    self {s} n = and_right (ltb s max_relations) (common ms s s) (all-at (known ms) c all_Known n)

    -- variable x is of a member that r reaches
    Near : ℕ → Type 0
    Near x = (s : ℕ) × Memᴰ s c × Reaches (common ms) c r s × (is_set (get_or ms s 0) x ≡ true)

    near : (x : ℕ) → is_set v x ≡ true → Near x
    unfolding Near
    near =
        passed-from ms c Near
        (λ s n y i k x j. (s, n, step k.2 n (common-intro k.0 s y k.3 i), j))
        (λ x i. (r, m, start, i)) p

    all-connected : all (meets ms v) c ≡ true → connected_by (common ms) c ≡ true
    unfolding Near
    all-connected e =
        reached-connected (common ms) common-sym c m (λ t n. self n)
        (λ t n.
        let k = meets_at ms v t (all-at (meets ms v) c e n) in
        let near-k = near k.0 k.2 in
        step near-k.2 n (common-intro near-k.0 t k.0 near-k.3 k.1))

    connected-all-meet : absorbed ms c v ≡ v → connected_by (common ms) c ≡ true → all (meets ms v) c ≡ true
    connected-all-meet fixed e =
        let k = meets_at ms (get_or ms r 0) r (self m) in
        connected-all (common ms) c (meets ms v) e
        (λ s t a b h shared.
        let l = meets_at ms (get_or ms s 0) t shared in
        meets-intro ms v t l.0 l.1 (absorbed-fixed ms c v fixed a h l.0 l.2))
        m (meets-intro ms v r k.0 k.1 (passed-keeps ms c k.0 p k.1))

    pub connected-meets : absorbed ms c v ≡ v → all (meets ms v) c ≡ connected_in ms c
    connected-meets fixed = iff-eq (all (meets ms v) c) (connected_by (common ms) c) all-connected (connected-all-meet fixed)

-- ---- Of the masks of a network

module _ (N : Network) (ms : List ℕ) (masks : Masks N ms) where
  -- relations have a variable in common exactly if they share one
  pub masks-share : (r s : ℕ) → common ms r s ≡ share N r s
  masks-share r s =
      iff-eq (common ms r s) (share N r s)
      (λ e. let k = meets_at ms (get_or ms r 0) s e in share-intro N r s k.0 (sym (masks r k.0) ∙ k.2) (sym (masks s k.0) ∙ k.1))
      (λ e. let k = share-at N r s e in meets-intro ms (get_or ms r 0) s k.0 (masks s k.0 ∙ k.2) (masks r k.0 ∙ k.1))

  pub masks-connected : (cs : List Combination) → all (connected_in ms) cs ≡ all (connected N) cs
  masks-connected cs =
      ap (λ (f : ℕ → ℕ → Bool). all (connected_by f) cs) (λ i r s. masks-share r s i)
      ∙ ap (λ (f : Combination → Bool). all f cs) (λ i c. sym (connected-by N c) i)

  -- a relation that exists is known
  pub masks-known : Faultless N → (r : ℕ) → r < length N.relations → known ms r ≡ true
  masks-known ok r h = and_intro (lt-ltb r max_relations (omega (arith, ok.relations))) (masks-share r r ∙ share-self N ok r h)
