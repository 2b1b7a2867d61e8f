-- A connected combination with a relation beside it lies inside a connected one of one member more.
-- From the laws of connected combinations.
use mathlib.Core.Path.{◌≡◌, refl, sym, ◌∙◌, ap}
use mathlib.Core.Bool.{Bool, true, false, cond}
use mathlib.Core.Logic.{◌⊎◌, inl, inr, ⊎_elim}
use mathlib.Core.List.Memᴰ
use mathlib.Core.List.{[], ◌∷◌, Memᴰ}
use Prim.Native.Nat.{ℕ, suc, ◌≤◌, ◌<◌}
use native.Mathlib.Omega.{arith}
use lib.Dec.{ltb}
use lib.ListN.{length}
use borrow.Author.Tests.{lt-ltb, ltb-true, ltb-false}
use Rattle.model.specs.Lists.{all, elem, pairwise}
use Rattle.model.specs.Network.{Network}
use Rattle.model.specs.Agreement.{share}
use Rattle.model.specs.Combination.{Combination}
use Rattle.model.specs.Request.{combinations_of, Request}
use Rattle.model.specs.Fault.{accepts}
use Rattle.model.specs.Enumeration.{IsConnected}
use Rattle.model.specs.Tighter.{lies_inside, Beside, LieInConnected, HaveBeside}
use Rattle.model.proofs.Bools.{and_right, and_intro, and_left}
use Rattle.model.proofs.Lists.{here, all-at, all-intro, mem-elem}
use Rattle.model.proofs.Fault.{Faultless, faultless, accepts-network, accepts-proper, accepts-connected}
use Rattle.model.proofs.Combination.{combination-length, joined-connected, connected-by, share-sym, share-self}

-- relation r put in its place among rising members
placed : ℕ → Combination → Combination
placed r [] = r ∷ []
placed r (s ∷ c) = cond (ltb r s) (r ∷ s ∷ c) (s ∷ placed r c)

module _ (r : ℕ) where
  -- what holds of both ways to go on holds of the placed list
  by_place : (P : Combination → Type 0) (s : ℕ) (c : Combination) → (r < s → P (r ∷ s ∷ c)) → (s ≤ r → P (s ∷ placed r c)) → P (placed r (s ∷ c))
  unfolding placed
  by_place P s c f g = go (ltb r s) refl
    where
      go : (b : Bool) → ltb r s ≡ b → P (cond b (r ∷ s ∷ c) (s ∷ placed r c))
      go true e = f (ltb-true r s e)
      go false e = g (ltb-false r s e)

  placed-cases : (c : Combination) {t : ℕ} → Memᴰ t (placed r c) → (t ≡ r) ⊎ Memᴰ t c
  unfolding placed
  placed-cases [] m = inl (Memᴰ.eq_of_singleton m)
  placed-cases (s ∷ c) {t} m =
      by_place (λ d. Memᴰ t d → (t ≡ r) ⊎ Memᴰ t (s ∷ c)) s c
      (λ _ n. Memᴰ.cases_cons n)
      (λ _ n. ⊎_elim (λ e. inr (Memᴰ.head e)) (λ k. ⊎_elim (λ e. inl e) (λ l. inr (Memᴰ.tail l)) (placed-cases c k)) (Memᴰ.cases_cons n))
      m

  placed-here : (c : Combination) → Memᴰ r (placed r c)
  unfolding placed
  placed-here [] = here
  placed-here (s ∷ c) = by_place (Memᴰ r) s c (λ _. here) (λ _. Memᴰ.tail (placed-here c))

  placed-kept : (c : Combination) {t : ℕ} → Memᴰ t c → Memᴰ t (placed r c)
  placed-kept [] m = absurd (Memᴰ.not-nil m)
  placed-kept (s ∷ c) {t} m =
      by_place (Memᴰ t) s c (λ _. Memᴰ.tail m)
      (λ _. ⊎_elim (λ e. Memᴰ.head e) (λ k. Memᴰ.tail (placed-kept c k)) (Memᴰ.cases_cons m))

  placed-length : (c : Combination) → length (placed r c) ≡ suc (length c)
  unfolding placed
  placed-length [] = refl
  placed-length (s ∷ c) = by_place (λ d. length d ≡ suc (suc (length c))) s c (λ _. refl) (λ _. ap suc (placed-length c))

  placed-rises : (c : Combination) → pairwise ltb c ≡ true → (Memᴰ r c → ⊥) → pairwise ltb (placed r c) ≡ true
  unfolding placed
  placed-rises [] rises out = refl
  placed-rises (s ∷ c) rises out =
      by_place (λ d. pairwise ltb d ≡ true) s c
      (λ l. and_intro (and_intro (lt-ltb r s l) (all-intro (ltb r) c (λ t m. lt-ltb r t (omega (arith, l, above m))))) rises)
      (λ l. and_intro
      (all-intro (ltb s) (placed r c) (λ t m. ⊎_elim (λ e. lt-ltb s t (omega (arith, e, beyond l (λ q. out (Memᴰ.head q))))) (λ k. lt-ltb s t (above k)) (placed-cases c m)))
      (placed-rises c (and_right (all (ltb s) c) (pairwise ltb c) rises) (λ m. out (Memᴰ.tail m))))
    where
      beyond : s ≤ r → (r ≡ s → ⊥) → s < r
      beyond l differ = omega arith

      above : {t : ℕ} → Memᴰ t c → s < t
      above {t} m = ltb-true s t (all-at (ltb s) c (and_left (all (ltb s) c) (pairwise ltb c) rises) m)

-- a connected combination with a relation beside it lies inside one of one member more
extended : (N : Network) → Faultless N → (k : ℕ) (c : Combination) → IsConnected N k c → Beside N c → (d : Combination) × IsConnected N (suc k) d × (lies_inside c d ≡ true)
unfolding lies_inside
extended N ok k c is more =
    let r = more.relation in
    let d = placed r c in
    let low : ℕ → Bool = λ t. ltb t (length N.relations) in
    let all-low : all low d ≡ true = all-intro low d (λ t m. ⊎_elim (λ e. lt-ltb t (length N.relations) (omega (arith, e, more.exists))) (λ n. all-at low c (and_left (all low c) (pairwise ltb c) is.proper) n) (placed-cases r c m)) in (
      d,
      record {
        many = placed-length r c ∙ ap suc is.many;
        proper = and_intro all-low (placed-rises r c (and_right (all low c) (pairwise ltb c) is.proper) more.outside);
        joined =
            connected-by N d
            ∙ joined-connected (share N) (share-sym N) c d (sym (connected-by N c) ∙ is.joined) (λ t m. placed-cases r c m) (λ t m. placed-kept r c m) more.listed more.shares
            (λ t m. share-self N ok t (ltb-true t (length N.relations) (all-at low d all-low m)));
      },
      all-intro (λ (t : ℕ). elem t d) c (λ t m. mem-elem d (placed-kept r c m)),
    )

-- of an accepted request
pub accepts-extended : (q : Request) → accepts q ≡ true → HaveBeside q.given.network (combinations_of q.given) → LieInConnected q.given.network (suc q.given.m) (combinations_of q.given)
accepts-extended q e beside c m =
    extended q.given.network (faultless q.given.network (accepts-network q e)) q.given.m c
    (record { many = combination-length q.given.m q.given.members m; proper = accepts-proper q e m; joined = accepts-connected q e m })
    (beside c m)
