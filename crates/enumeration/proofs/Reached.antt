-- Members whose sets hold the neighbours of all that they reach make a connected combination with one more relation exactly if it is in
-- every set; for any relation that is symmetric and that the members have to themselves. From the model's laws of connected combinations.
use mathlib.Core.Path.{◌≡◌, refl, sym, ◌∙◌, ap, subst}
use mathlib.Core.Bool.{Bool, true, false, ◌&&◌, cond}
use mathlib.Core.List.Memᴰ
use mathlib.Core.List.{List, [], ◌∷◌, ◌++◌, map, map-map, map-append, append_assoc, Memᴰ}
use mathlib.Core.Logic.{◌⊎◌, inl, inr, ⊎_elim}
use Prim.Native.Nat.{ℕ, ◌<◌}
use borrow.Author.Tests.{eqb-true, eq-eqb}
use lib.Bits.{bit_or}
use lib.Dec.{eqb}
use lib.ListN.{get_or}
use Rattle.model.specs.Lists.{any}
use Rattle.model.specs.Combination.{Combination}
use Rattle.model.specs.LiveWords.{is_set}
use Rattle.model.proofs.Bools.{and_left, and_right, and_intro, or_left, or_right, or_cases, iff-eq, not-both}
use Rattle.model.proofs.Lists.{here, all-at, all-intro, any_at, any-intro}
use Rattle.model.proofs.Combination.{connected_by, connected-all, Reaches, start, step, reaches-on, reaches_more, reaches-back, reached-connected}
use Rattle.live.proofs.Bits.{is_set-or}
use Rattle.enumeration.specs.Reach.{reach, joined, common, completes}

-- ---- What a set reaches

either : (b : Bool) (w n t : ℕ) → is_set (cond b (bit_or w n) w) t ≡ true → (is_set w t ≡ true) ⊎ ((b ≡ true) × (is_set n t ≡ true))
either true w n t e = ⊎_elim (λ h. inl h) (λ h. inr (refl, h)) (or_cases (is_set w t) (is_set n t) (sym (is_set-or w n t) ∙ e))
either false w n t e = inl e

either_first : (b : Bool) (w n t : ℕ) → is_set w t ≡ true → is_set (cond b (bit_or w n) w) t ≡ true
either_first true w n t e = is_set-or w n t ∙ or_left (is_set n t) e
either_first false w n t e = e

either_second : (b : Bool) (w n t : ℕ) → b ≡ true → is_set n t ≡ true → is_set (cond b (bit_or w n) w) t ≡ true
either_second true w n t h e = is_set-or w n t ∙ or_right (is_set w t) e
either_second false w n t h e = absurd (not-both h refl)

module _ (r t : ℕ) where
  -- a relation in it is in w, or in one of the sets that r is in
  pub reach-cases : (ns : List ℕ) (w : ℕ) → is_set (reach r w ns) t ≡ true → (is_set w t ≡ true) ⊎ ((n : ℕ) × Memᴰ n ns × (is_set n r ≡ true) × (is_set n t ≡ true))
  reach-cases [] w e = inl e
  reach-cases (n ∷ ns) w e =
      ⊎_elim
      (λ h. ⊎_elim (λ k. inl k) (λ k. inr (n, here, k.0, k.1)) (either (is_set n r) w n t h))
      (λ h. inr (h.0, Memᴰ.tail h.1, h.2, h.3))
      (reach-cases ns (cond (is_set n r) (bit_or w n) w) e)

  pub reach-own : (ns : List ℕ) (w : ℕ) → is_set w t ≡ true → is_set (reach r w ns) t ≡ true
  reach-own [] w e = e
  reach-own (n ∷ ns) w e = reach-own ns (cond (is_set n r) (bit_or w n) w) (either_first (is_set n r) w n t e)

  pub reach-set : (ns : List ℕ) (w n : ℕ) → Memᴰ n ns → is_set n r ≡ true → is_set n t ≡ true → is_set (reach r w ns) t ≡ true
  reach-set [] w n m h e = absurd (Memᴰ.not-nil m)
  reach-set (k ∷ ns) w n m h e =
      ⊎_elim
      (λ q. reach-own ns (cond (is_set k r) (bit_or w k) w) (either_second (is_set k r) w k t (sym (ap (λ (x : ℕ). is_set x r) q) ∙ h) (sym (ap (λ (x : ℕ). is_set x t) q) ∙ e)))
      (λ l. reach-set ns (cond (is_set k r) (bit_or w k) w) n l h e)
      (Memᴰ.cases_cons m)

-- ---- Members with their sets

-- A member, and its set.
abbrev pub Held : Type 0
Held = ℕ × ℕ

abbrev pub members_of : List Held → List ℕ
members_of hs = map (λ (h : Held). h.0) hs

abbrev pub sets_of : List Held → List ℕ
sets_of hs = map (λ (h : Held). h.1) hs

-- relation r chosen too
module _ (r w : ℕ) (hs : List Held) where
  abbrev all_in : ℕ
  all_in = reach r w (sets_of hs)

  abbrev widened : Held → Held
  widened h = (h.0, cond (is_set h.1 r) all_in h.1)

  abbrev with_one : List Held
  with_one = map widened hs ++ ((r, all_in) ∷ [])

  one-members : members_of with_one ≡ members_of hs ++ (r ∷ [])
  one-members =
      map-append (λ (h : Held). h.0) (map widened hs) ((r, all_in) ∷ [])
      ∙ ap (λ (xs : List ℕ). xs ++ (r ∷ [])) (map-map (λ (h : Held). h.0) widened hs)

  one-sets : sets_of with_one ≡ joined r w (sets_of hs)
  one-sets =
      map-append (λ (h : Held). h.1) (map widened hs) ((r, all_in) ∷ [])
      ∙ ap (λ (xs : List ℕ). xs ++ (all_in ∷ []))
      (map-map (λ (h : Held). h.1) widened hs ∙ sym (map-map (λ (n : ℕ). cond (is_set n r) all_in n) (λ (h : Held). h.1) hs))

  -- what holds of each member widened, and of the new one, holds of all
  one-all : (P : Held → Type 0) → ((h : Held) → Memᴰ h hs → P (widened h)) → P (r, all_in) → (h : Held) → Memᴰ h with_one → P h
  one-all P f p h m =
      ⊎_elim
      (λ k. let a = Memᴰ.of_map widened hs k in subst P a.2 (f a.0 a.1))
      (λ k. subst P (sym (Memᴰ.eq_of_singleton k)) p)
      (Memᴰ.append_cases (map widened hs) m)

module _ (share : ℕ → ℕ → Bool) (symmetric : (s t : ℕ) → share s t ≡ true → share t s ≡ true) (count : ℕ) (self : (r : ℕ) → r < count → share r r ≡ true) where
  -- relation t is a neighbour of what member q reaches
  abbrev Near : List ℕ → ℕ → ℕ → Type 0
  Near c t q = (s : ℕ) × Memᴰ s c × (share t s ≡ true) × Reaches share c s q

  near-more : {c d : List ℕ} {t q : ℕ} → ((s : ℕ) → Memᴰ s c → Memᴰ s d) → Near c t q → Near d t q
  near-more f k = (k.0, f k.0 k.1, k.2, reaches_more share f k.3)

  -- Each set holds the neighbours of what its member reaches, and of those alone; members that share have one set.
  pub record Reached (hs : List Held) : Type 0 where
    pub below : (h : Held) → Memᴰ h hs → h.0 < count
    pub near : (h : Held) → Memᴰ h hs → (t : ℕ) → t < count → is_set h.1 t ≡ true → Near (members_of hs) t h.0
    pub own : (h : Held) → Memᴰ h hs → (t : ℕ) → t < count → share h.0 t ≡ true → is_set h.1 t ≡ true
    pub same : (h k : Held) → Memᴰ h hs → Memᴰ k hs → share h.0 k.0 ≡ true → h.1 ≡ k.1

  pub reached-none : Reached []
  reached-none =
      record {
        below = λ h m. absurd (Memᴰ.not-nil m);
        near = λ h m. absurd (Memᴰ.not-nil m);
        own = λ h m. absurd (Memᴰ.not-nil m);
        same = λ h k m. absurd (Memᴰ.not-nil m);
      }

  module _ (hs : List Held) (R : Reached hs) (r : ℕ) (exists : r < count) where
    -- ---- One more member

    module _ (w : ℕ) (neighbours : (t : ℕ) → t < count → is_set w t ≡ share r t) where
      abbrev u : ℕ
      u = all_in r w hs

      abbrev old : List ℕ
      old = members_of hs

      abbrev new : List ℕ
      new = members_of (with_one r w hs)

      into : (s : ℕ) → Memᴰ s old → Memᴰ s new
      into s m = subst (Memᴰ s) (sym (one-members r w hs)) (Memᴰ.append_left (r ∷ []) m)

      last : Memᴰ r new
      last = subst (Memᴰ r) (sym (one-members r w hs)) (Memᴰ.append_right old here)

      member : (h : Held) → Memᴰ h hs → Memᴰ h.0 old
      member h m = Memᴰ.map (λ (h : Held). h.0) m

      -- from the new member to one whose set it is in
      there : (h : Held) → Memᴰ h hs → is_set h.1 r ≡ true → Reaches share new r h.0
      there h m e =
          let k = R.near h m r exists e in
          reaches-on share (step start (into k.0 k.1) k.2) (reaches_more share into k.3)

      -- what is in the new set is a neighbour of what the new member reaches
      near_new : (t : ℕ) → t < count → is_set u t ≡ true → Near new t r
      near_new t below e =
          ⊎_elim
          (λ h. (r, last, symmetric r t (sym (neighbours t below) ∙ h), start))
          (λ h.
          let a = Memᴰ.of_map (λ (h : Held). h.1) hs h.1 in
          let k = R.near a.0 a.1 t below (ap (λ (n : ℕ). is_set n t) a.2 ∙ h.3) in
          (k.0, into k.0 k.1, k.2, reaches-on share (reaches_more share into k.3) (reaches-back share symmetric last (there a.0 a.1 (ap (λ (n : ℕ). is_set n r) a.2 ∙ h.2)))))
          (reach-cases r t (sets_of hs) w e)

      near-old : (h : Held) → Memᴰ h hs → (b : Bool) → is_set h.1 r ≡ b → (t : ℕ) → t < count → is_set (cond b u h.1) t ≡ true → Near new t h.0
      near-old h m true q t below e = let k = near_new t below e in (k.0, k.1, k.2, reaches-on share k.3 (there h m q))
      near-old h m false q t below e = near-more into (R.near h m t below e)

      own_old : (h : Held) → Memᴰ h hs → (b : Bool) → is_set h.1 r ≡ b → (t : ℕ) → t < count → share h.0 t ≡ true → is_set (cond b u h.1) t ≡ true
      own_old h m true q t below e = reach-set r t (sets_of hs) w h.1 (Memᴰ.map (λ (h : Held). h.1) m) q (R.own h m t below e)
      own_old h m false q t below e = R.own h m t below e

      -- members that share have one set
      same_old : (h k : Held) → Memᴰ h hs → Memᴰ k hs → share h.0 k.0 ≡ true → (widened r w hs h).1 ≡ (widened r w hs k).1
      same_old h k m n e = ap (λ (x : ℕ). cond (is_set x r) u x) (R.same h k m n e)

      same_new : (h : Held) → Memᴰ h hs → share h.0 r ≡ true → (widened r w hs h).1 ≡ u
      same_new h m e = ap (λ (b : Bool). cond b u h.1) (R.own h m r exists e)

      pub reached-next : Reached (with_one r w hs)
      reached-next =
          record {
            below = one-all r w hs (λ h. h.0 < count) (λ h m. R.below h m) exists;
            near = one-all r w hs (λ h. (t : ℕ) → t < count → is_set h.1 t ≡ true → Near new t h.0) (λ h m. near-old h m (is_set h.1 r) refl) near_new;
            own = one-all r w hs (λ h. (t : ℕ) → t < count → share h.0 t ≡ true → is_set h.1 t ≡ true)
                (λ h m. own_old h m (is_set h.1 r) refl)
                (λ t below e. reach-own r t (sets_of hs) w (neighbours t below ∙ e));
            same = λ h k m n.
                one-all r w hs (λ x. share x.0 k.0 ≡ true → x.1 ≡ k.1)
                (λ x mx. one-all r w hs (λ y. share x.0 y.0 ≡ true → (widened r w hs x).1 ≡ y.1) (λ y my. same_old x y mx my) (same_new x mx) k n)
                (one-all r w hs (λ y. share r y.0 ≡ true → u ≡ y.1) (λ y my e. sym (same_new y my (symmetric r y.0 e))) (λ e. refl) k n) h m;
          }

    -- ---- The last member

    -- a member whose set the last one is not in is parted from it
    module _ (h : Held) (m : Memᴰ h hs) (out : is_set h.1 r ≡ false) where
      -- the members with the same set
      beside : ℕ → Bool
      beside t = any (λ (k : Held). eqb k.0 t && eqb k.1 h.1) hs

      beside_at : (t : ℕ) → beside t ≡ true → (k : Held) × Memᴰ k hs × (k.0 ≡ t) × (k.1 ≡ h.1)
      unfolding beside
      beside_at t e =
          let a = any_at (λ (k : Held). eqb k.0 t && eqb k.1 h.1) hs e in
          let k = a.0 in
          (k, a.1, eqb-true k.0 t (and_left (eqb k.0 t) (eqb k.1 h.1) a.2), eqb-true k.1 h.1 (and_right (eqb k.0 t) (eqb k.1 h.1) a.2))

      beside-in : (k : Held) → Memᴰ k hs → k.1 ≡ h.1 → beside k.0 ≡ true
      unfolding beside
      beside-in k n e =
          any-intro (λ (x : Held). eqb x.0 k.0 && eqb x.1 h.1) hs n (and_intro (eq-eqb k.0 k.0 refl) (eq-eqb k.1 h.1 e))

      -- none of them shares with the last one
      beside-apart : (s : ℕ) → beside s ≡ true → share s r ≡ true → ⊥
      beside-apart s e f =
          let b = beside_at s e in
          not-both (sym (ap (λ (n : ℕ). is_set n r) b.3) ∙ R.own b.0 b.1 r exists (ap (λ (x : ℕ). share x r) b.2 ∙ f)) out

      -- but each with others that have the set
      beside-over : (s t : ℕ) → Memᴰ t (members_of hs ++ (r ∷ [])) → beside s ≡ true → share s t ≡ true → beside t ≡ true
      beside-over s t n e f =
          ⊎_elim
          (λ l.
          let b = beside_at s e in
          let a = Memᴰ.of_map (λ (h : Held). h.0) hs l in
          subst (λ (x : ℕ). beside x ≡ true) a.2
          (beside-in a.0 a.1 (sym (R.same b.0 a.0 b.1 a.1 (subst (λ (x : ℕ). share x a.0.0 ≡ true) (sym b.2) (subst (λ (x : ℕ). share s x ≡ true) (sym a.2) f))) ∙ b.3)))
          (λ l. absurd (beside-apart s e (subst (λ (x : ℕ). share s x ≡ true) (Memᴰ.eq_of_singleton l) f)))
          (Memᴰ.append_cases (members_of hs) n)

      parted : connected_by share (members_of hs ++ (r ∷ [])) ≡ true → ⊥
      parted e =
          let c = members_of hs ++ (r ∷ []) in
          let every = connected-all share c beside e (λ s t a b f g. beside-over s t b f g) (Memᴰ.append_left (r ∷ []) (Memᴰ.map (λ (h : Held). h.0) m)) (beside-in h m refl) in
          beside-apart r (all-at beside c every (Memᴰ.append_right (members_of hs) here)) (self r exists)

    abbrev whole : List ℕ
    whole = members_of hs ++ (r ∷ [])

    -- from the last member all are reached
    reaches_all : common (sets_of hs) r ≡ true → (t : ℕ) → Memᴰ t whole → Reaches share whole r t
    reaches_all e t n =
        ⊎_elim
        (λ l.
        let a = Memᴰ.of_map (λ (h : Held). h.0) hs l in
        let k = R.near a.0 a.1 r exists (all-at (λ (n : ℕ). is_set n r) (sets_of hs) e (Memᴰ.map (λ (h : Held). h.1) a.1)) in
        let into : (s : ℕ) → Memᴰ s (members_of hs) → Memᴰ s whole = λ s m. Memᴰ.append_left (r ∷ []) m in
        subst (Reaches share whole r) a.2 (reaches-on share (step start (into k.0 k.1) k.2) (reaches_more share into k.3)))
        (λ l. subst (Reaches share whole r) (sym (Memᴰ.eq_of_singleton l)) start)
        (Memᴰ.append_cases (members_of hs) n)

    whole-self : (t : ℕ) → Memᴰ t whole → share t t ≡ true
    whole-self t n =
        ⊎_elim
        (λ l. let a = Memᴰ.of_map (λ (h : Held). h.0) hs l in self t (subst (λ (x : ℕ). x < count) a.2 (R.below a.0 a.1)))
        (λ l. self t (subst (λ (x : ℕ). x < count) (sym (Memᴰ.eq_of_singleton l)) exists))
        (Memᴰ.append_cases (members_of hs) n)

    in_all : (n : ℕ) → Memᴰ n (sets_of hs) → connected_by share whole ≡ true → (b : Bool) → is_set n r ≡ b → b ≡ true
    in_all n m e true q = refl
    in_all n m e false q =
        let a = Memᴰ.of_map (λ (h : Held). h.1) hs m in
        absurd (parted a.0 a.1 (ap (λ (x : ℕ). is_set x r) a.2 ∙ q) e)

    pub last-connects : common (sets_of hs) r ≡ connected_by share whole
    last-connects =
        iff-eq (common (sets_of hs) r) (connected_by share whole)
        (λ e. reached-connected share symmetric whole (Memᴰ.append_right (members_of hs) here) whole-self (reaches_all e))
        (λ e. all-intro (λ (n : ℕ). is_set n r) (sets_of hs) (λ n m. in_all n m e (is_set n r) refl))

  -- ---- Members one after the other

  module _ (near : List ℕ) (neighbours : (r t : ℕ) → r < count → t < count → is_set (get_or near r 0) t ≡ share r t) where
    completes-from : (t : List ℕ) (r : ℕ) (hs : List Held) → Reached hs → r < count → ((s : ℕ) → Memᴰ s t → s < count) → completes near (sets_of hs) (r ∷ t) ≡ connected_by share (members_of hs ++ (r ∷ t))
    completes-from [] r hs R h f = last-connects hs R r h
    completes-from (s ∷ t) r hs R h f =
        let w = get_or near r 0 in
        let w-near : (x : ℕ) → x < count → is_set w x ≡ share r x = λ x l. neighbours r x h l in
        ap (λ (ns : List ℕ). completes near ns (s ∷ t)) (sym (one-sets r w hs))
        ∙ completes-from t s (with_one r w hs) (reached-next hs R r h w w-near) (f s here) (λ x m. f x (Memᴰ.tail m))
        ∙ ap (λ (c : List ℕ). connected_by share (c ++ (s ∷ t))) (one-members r w hs)
        ∙ ap (connected_by share) (append_assoc (members_of hs) (r ∷ []) (s ∷ t))

    -- relations chosen one after the other
    pub completes-connected : (c : Combination) → ((r : ℕ) → Memᴰ r c → r < count) → completes near [] c ≡ connected_by share c
    completes-connected [] f = refl
    completes-connected (r ∷ t) f = completes-from t r [] reached-none (f r here) (λ s m. f s (Memᴰ.tail m))
