-- Laws of the tuples chosen so far, and of the test of the next one.
-- From the definitions of `chosen_ids` and `fits`, and the laws of lists and of ids.
use mathlib.Core.Path.{◌≡◌, refl, sym, ◌∙◌, ap, ap₂, subst}
use mathlib.Core.Bool.{Bool, true, false}
use mathlib.Core.List.Memᴰ
use mathlib.Core.List.{List, [], ◌∷◌, ◌++◌, map, map-append, Memᴰ}
use Prim.Native.Nat.{ℕ, zero, suc, ◌+◌, ◌≤◌, ◌<◌}
use native.Mathlib.Nat.{zero-add}
use native.Mathlib.Numerals.{add-one}
use native.Mathlib.Omega.{arith}
use lib.ListN.{length, get_or, take, drop, set, take-append-drop}
use lib.Seq.{take-suc, get_or-set_same, get_or-set_other}
use Rattle.model.specs.Lists.{from, all}
use Rattle.model.specs.Network.{Network, size, first_id, ids_of, index_of}
use Rattle.model.specs.Agreement.{agree}
use Rattle.model.specs.Combination.{Combination}
use Rattle.model.specs.Support.{candidates}
use Rattle.model.proofs.Bools.{and_intro, not-both}
use Rattle.model.proofs.Lists.{all-at, all_append, from-mem, mem-from, from-append, map-from-same, Picks, done, pick, picks-append}
use Rattle.model.proofs.Network.{index_of-at}
use Rattle.model.proofs.Support.{picks-candidates}
use Rattle.support.specs.Search.{id_at, chosen_ids, fits}

-- ---- The tuples chosen

module _ (N : Network) (c : Combination) (chosen : List ℕ) where
  chosen-suc : (k : ℕ) → chosen_ids N c chosen (suc k) ≡ chosen_ids N c chosen k ++ (id_at N c k (get_or chosen k 0) ∷ [])
  unfolding chosen_ids
  chosen-suc k =
      let id : ℕ → ℕ = λ j. id_at N c j (get_or chosen j 0) in
      ap (λ (n : ℕ). map id (from 0 n)) (sym (add-one k))
      ∙ ap (map id) (from-append 0 k 1)
      ∙ map-append id (from 0 k) (from (0 + k) 1)
      ∙ ap (λ (j : ℕ). map id (from 0 k) ++ (id j ∷ [])) (zero-add k)

  pub chosen-mem : (k j : ℕ) → j < k → Memᴰ (id_at N c j (get_or chosen j 0)) (chosen_ids N c chosen k)
  unfolding chosen_ids
  chosen-mem k j h = Memᴰ.map (λ (j : ℕ). id_at N c j (get_or chosen j 0)) (mem-from 0 k j (omega arith) (omega arith))

  -- each is some member's
  pub chosen_of : (k : ℕ) {g : ℕ} → Memᴰ g (chosen_ids N c chosen k) → (j : ℕ) × (j < k) × (id_at N c j (get_or chosen j 0) ≡ g)
  unfolding chosen_ids
  chosen_of k m =
      let i = Memᴰ.of_map (λ (j : ℕ). id_at N c j (get_or chosen j 0)) (from 0 k) m in
      (i.0, omega (arith, from-mem 0 k i.0 i.1), i.2)

  -- one tuple more passes
  pub chosen-all : (p : ℕ → Bool) (k : ℕ) → all p (chosen_ids N c chosen k) ≡ true → p (id_at N c k (get_or chosen k 0)) ≡ true → all p (chosen_ids N c chosen (suc k)) ≡ true
  chosen-all p k e f =
      ap (all p) (chosen-suc k) ∙ all_append p (chosen_ids N c chosen k) (id_at N c k (get_or chosen k 0) ∷ []) e (and_intro f refl)

  -- each is of its member
  pub chosen-picks : (k : ℕ) → k ≤ length c → ((j : ℕ) → j < k → get_or chosen j 0 < size N (get_or c j 0)) → Picks (map (ids_of N) (take k c)) (chosen_ids N c chosen k)
  unfolding chosen_ids
  chosen-picks zero h f = done
  chosen-picks (suc k) h f =
      let r = get_or c k 0 in
      let l = f k (omega arith) in
      let p = picks-append (chosen-picks k (omega arith) (λ j m. f j (omega arith))) (pick (mem-from (first_id N r) (size N r) (id_at N c k (get_or chosen k 0)) (omega arith) (omega arith)) done) in
      rw (chosen-suc k, take-suc c k 0 (omega arith), map-append (ids_of N) (take k c) (r ∷ [])) p

  pub chosen-indices : (k : ℕ) → k ≤ length chosen → ((j : ℕ) → j < k → get_or chosen j 0 < size N (get_or c j 0)) → map (index_of N) (chosen_ids N c chosen k) ≡ take k chosen
  unfolding chosen_ids
  chosen-indices zero h f = refl
  chosen-indices (suc k) h f =
      let r = get_or c k 0 in
      ap (map (index_of N)) (chosen-suc k)
      ∙ map-append (index_of N) (chosen_ids N c chosen k) (id_at N c k (get_or chosen k 0) ∷ [])
      ∙ ap₂ (λ (xs : List ℕ) (x : ℕ). xs ++ (x ∷ [])) (chosen-indices k (omega arith) (λ j m. f j (omega arith))) (index_of-at N r (get_or chosen k 0) (f k (omega arith)))
      ∙ sym (take-suc chosen k 0 (omega arith))

-- tuple x chosen for member k
pub chosen-set : (N : Network) (c : Combination) (chosen : List ℕ) (k x : ℕ) → k < length chosen → chosen_ids N c (set chosen k x) (suc k) ≡ chosen_ids N c chosen k ++ (id_at N c k x ∷ [])
unfolding chosen_ids
chosen-set N c chosen k x h =
    chosen-suc N c (set chosen k x) k
    ∙ ap₂ (λ (ys : List ℕ) (y : ℕ). ys ++ (id_at N c k y ∷ []))
    (map-from-same (λ (j : ℕ). id_at N c j (get_or (set chosen k x) j 0)) (λ (j : ℕ). id_at N c j (get_or chosen j 0)) 0 k
    (λ j a b. ap (id_at N c j) (get_or-set_other chosen k j x 0 (λ e. omega arith))))
    (get_or-set_same chosen k x 0 h)

-- .. and one tuple of each member from k on are a candidate
pub chosen-candidate : (N : Network) (c : Combination) (chosen : List ℕ) (k : ℕ) → k ≤ length c → ((j : ℕ) → j < k → get_or chosen j 0 < size N (get_or c j 0)) → (t : List ℕ) → Picks (map (ids_of N) (drop k c)) t → Memᴰ (chosen_ids N c chosen k ++ t) (candidates N c)
chosen-candidate N c chosen k h f t p =
    picks-candidates N c
    (subst (λ (xss : List (List ℕ)). Picks xss (chosen_ids N c chosen k ++ t)) (sym (map-append (ids_of N) (take k c) (drop k c)) ∙ ap (map (ids_of N)) (take-append-drop k c))
    (picks-append (chosen-picks N c chosen k h f) p))

-- ---- The test

module _ (N : Network) (c : Combination) (place own k : ℕ) (chosen : List ℕ) (x : ℕ) where
  abbrev agrees : ℕ → Bool
  agrees y = agree N y (id_at N c k x)

  abbrev fixed : List ℕ
  fixed = id_at N c place own ∷ chosen_ids N c chosen k

  -- one of them clashes
  pub fits-clash : (y : ℕ) → Memᴰ y fixed → agrees y ≡ false → fits N c place own k chosen x ≡ false
  unfolding fits
  fits-clash y m e = not-all (all agrees fixed) refl
    where
      not-all : (b : Bool) → all agrees fixed ≡ b → b ≡ false
      not-all true q = absurd (not-both (all-at agrees fixed q m) e)
      not-all false q = refl

  pub fits_all : agrees (id_at N c place own) ≡ true → all agrees (chosen_ids N c chosen k) ≡ true → fits N c place own k chosen x ≡ true
  unfolding fits
  fits_all e f = and_intro e f

  pub fits_each : fits N c place own k chosen x ≡ true → all agrees fixed ≡ true
  unfolding fits
  fits_each e = e

  pub fits-none : fits N c place own k chosen x ≡ false → all agrees fixed ≡ false
  unfolding fits
  fits-none e = e
