-- No solution is lost by filtering, and where a relation is empty there is none.
use mathlib.Core.Path.{◌≡◌, refl, sym, ◌∙◌, subst}
use mathlib.Core.Bool.{true, false, not, ◌&&◌}
use mathlib.Core.List.Memᴰ
use mathlib.Core.List.{List, [], ◌∷◌, map, Memᴰ}
use mathlib.Core.Logic.{⊎_elim}
use Prim.Native.Nat.{ℕ, ◌<◌}
use native.Mathlib.Omega.{arith}
use native.Mathlib.Decide.{ℕ_discrete}
use borrow.Author.Tests.{not-true}
use lib.ListN.{length}
use Rattle.model.specs.Limits.{variable_count}
use Rattle.model.specs.Lists.{from, any}
use Rattle.model.specs.TupleSet.{TupleSet, has}
use Rattle.model.specs.Network.{Network, total, ids_of, relation_of}
use Rattle.model.specs.Agreement.{Cell, is_any, fit, cells_of, agree}
use Rattle.model.specs.Combination.{Combination}
use Rattle.model.specs.Consistency.{supported, filtered}
use Rattle.model.specs.Solution.{Assignment, definite, follows, is_solution}
use Rattle.model.proofs.Bools.{and_left, and_right, and_intro, not-both}
use Rattle.model.proofs.Lists.{all-at, all-intro, any_at, any-intro, pairwise-intro, Picks, done, pick, here, from-mem, mem-from}
use Rattle.model.proofs.TupleSet.{has-below}
use Rattle.model.proofs.Network.{ids-relation_of}
use Rattle.model.proofs.Fault.{Faultless}
use Rattle.model.proofs.Agreement.{fit-common, cell-low, clash-none, agreeing-intro, agree-cells}
use Rattle.model.proofs.Support.{is_support-intro, picks-candidates}
use Rattle.model.proofs.Consistency.{supported-intro, filtered-keeps}

module _ (N : Network) (a : Assignment) where
  follows-at : (g : ℕ) {x : Cell} → follows N a g ≡ true → Memᴰ x (cells_of N g) → fit x.1 (a x.0) ≡ true
  unfolding follows
  follows-at g {x} e m = all-at (λ (x : Cell). fit x.1 (a x.0)) (cells_of N g) e m

  -- tuples that follow one assignment, which gives their variables no any, agree
  pub follows-agree : (g h : ℕ) → ((x : Cell) → Memᴰ x (cells_of N g) → is_any (a x.0) ≡ false) → follows N a g ≡ true → follows N a h ≡ true → agree N g h ≡ true
  follows-agree g h d p q =
      agree-cells N g h
      ∙ agreeing-intro (cells_of N g) (cells_of N h)
      (λ x y mx my. clash-none x y
      (λ e. fit-common x.1 y.1 (a x.0) (d x mx) (follows-at g p mx) (subst (λ (v : ℕ). fit y.1 (a v) ≡ true) (sym e) (follows-at h q my))))

  -- a live tuple of relation r that follows a
  Chosen : TupleSet → ℕ → ℕ → Type 0
  Chosen S r g = Memᴰ g (ids_of N r) × (has S g ≡ true) × (follows N a g ≡ true)

  chosen_at : (S : TupleSet) → is_solution N S a ≡ true → (r : ℕ) → r < length N.relations → (g : ℕ) × Chosen S r g
  unfolding is_solution Chosen
  chosen_at S e r h =
      let p = all-at (λ (r : ℕ). any (λ (g : ℕ). has S g && follows N a g) (ids_of N r)) (from 0 (length N.relations)) (and_right (definite a) _ e) (mem-from 0 (length N.relations) r (omega arith) (omega arith)) in
      let k = any_at (λ (g : ℕ). has S g && follows N a g) (ids_of N r) p in
      (k.0, (k.1, and_left (has S k.0) (follows N a k.0) k.2, and_right (has S k.0) (follows N a k.0) k.2))

  is_solution-intro : (S : TupleSet) → definite a ≡ true → ((r : ℕ) → r < length N.relations → (g : ℕ) × Chosen S r g) → is_solution N S a ≡ true
  unfolding is_solution Chosen
  is_solution-intro S d f =
      and_intro d
      (all-intro (λ (r : ℕ). any (λ (g : ℕ). has S g && follows N a g) (ids_of N r)) (from 0 (length N.relations))
      (λ r m.
      let k = f r (omega (arith, from-mem 0 (length N.relations) r m)) in
      any-intro (λ (g : ℕ). has S g && follows N a g) (ids_of N r) k.1.0 (and_intro k.1.1 k.1.2)))

  -- where a relation has no tuple in S, S has no solution
  pub is_solution-empty : (S : TupleSet) (r : ℕ) → r < length N.relations → any (has S) (ids_of N r) ≡ false → is_solution N S a ≡ true → ⊥
  unfolding Chosen
  is_solution-empty S r h e s =
      let k = chosen_at S s r h in
      not-both (any-intro (has S) (ids_of N r) k.1.0 k.1.1) e

  module _ (sound : Faultless N) (cs : List Combination) (exist : (c : Combination) → Memᴰ c cs → (r : ℕ) → Memᴰ r c → r < length N.relations) (S : TupleSet) (long : length S ≡ total N) (solved : is_solution N S a ≡ true) where
    solved-definite : definite a ≡ true
    unfolding is_solution
    solved-definite = and_left (definite a) _ solved

    -- no variable of a tuple gets any
    gives : (g : ℕ) → has S g ≡ true → (x : Cell) → Memᴰ x (cells_of N g) → is_any (a x.0) ≡ false
    unfolding definite
    gives g lives x m =
        let low = cell-low N sound g (subst (λ (n : ℕ). g < n) long (has-below S g lives)) m in
        not-true (is_any (a x.0)) (all-at (λ (x : ℕ). not (is_any (a x))) (from 0 variable_count) solved-definite (mem-from 0 variable_count x.0 (omega arith) (omega (arith, low))))

    Kept : ℕ → Type 0
    Kept g = (has S g ≡ true) × (follows N a g ≡ true)

    -- a kept tuple of relation r, g itself if r is its relation
    kept_of : (g : ℕ) → Kept g → (r : ℕ) → r < length N.relations → Dec (relation_of N g ≡ r) → (x : ℕ) × Memᴰ x (ids_of N r) × Kept x × (relation_of N g ≡ r → x ≡ g)
    unfolding Chosen Kept
    kept_of g k r h (yes e) =
        (g, subst (λ (r : ℕ). Memᴰ g (ids_of N r)) e (ids-relation_of N g (subst (λ (n : ℕ). g < n) long (has-below S g k.0))).1, k, λ _. refl)
    kept_of g k r h (no d) = let c = chosen_at S solved r h in (c.0, c.1.0, (c.1.1, c.1.2), λ e. absurd (d e))

    build : (g : ℕ) → Kept g → (c : Combination) → ((r : ℕ) → Memᴰ r c → r < length N.relations) → (t : List ℕ) × Picks (map (ids_of N) c) t × ((x : ℕ) → Memᴰ x t → Kept x) × (Memᴰ (relation_of N g) c → Memᴰ g t)
    build g k [] f = ([], done, λ x m. absurd (Memᴰ.not-nil m), λ m. absurd (Memᴰ.not-nil m))
    build g k (r ∷ c) f =
        let h = kept_of g k r (f r here) (ℕ_discrete (relation_of N g) r) in
        let u = build g k c (λ r m. f r (Memᴰ.tail m)) in (
          h.0 ∷ u.0,
          pick h.1 u.1,
          λ x m. ⊎_elim (λ e. subst Kept (sym e) h.2) (λ n. u.2 x n) (Memᴰ.cases_cons m),
          λ m. ⊎_elim (λ e. Memᴰ.head (sym (h.3 e))) (λ n. Memᴰ.tail (u.3 n)) (Memᴰ.cases_cons m),
        )

    stay : (X : TupleSet) → ((g : ℕ) → Kept g → has X g ≡ true) → (g : ℕ) → Kept g → supported N cs X g ≡ true
    unfolding Kept
    stay X lives g k =
        supported-intro N cs X g
        (λ c m n. let u = build g k c (exist c m) in (
          u.0,
          picks-candidates N c u.1,
          is_support-intro N X g u.0 (u.3 n) (all-intro (has X) u.0 (λ x mx. lives x (u.2 x mx)))
              (pairwise-intro (agree N) u.0 (λ x y mx my. follows-agree x y (gives x (u.2 x mx).0) (u.2 x mx).1 (u.2 y my).1)),
        ))

    -- every solution before filtering is one after
    pub is_solution-filtered : is_solution N (filtered N cs S) a ≡ true
    unfolding Chosen Kept
    is_solution-filtered =
        is_solution-intro (filtered N cs S) solved-definite
        (λ r h. let c = chosen_at S solved r h in
        (c.0, (c.1.0, filtered-keeps N cs Kept stay S (λ g k. k.0) c.0 (c.1.1, c.1.2), c.1.2)))
