-- The lowest clash of two tuples, found column by column of the first.
-- From the laws of cells by places, and of the least element.
use mathlib.Core.Path.{◌≡◌, refl, sym, ◌∙◌, ap, ap₂}
use mathlib.Core.Bool.{true, false}
use mathlib.Core.Option.{some, some-injective}
use mathlib.Core.Logic.{◌⊎◌, inl, inr, ⊎_elim}
use mathlib.Core.List.Memᴰ
use mathlib.Core.List.{List, Memᴰ}
use Prim.Native.Nat.{ℕ, ◌+◌, ◌≤◌, ◌<◌}
use native.Mathlib.Omega.{arith}
use borrow.Author.Count.{below_more}
use borrow.Author.Tests.{ltb-true}
use lib.ListN.{length, get_or}
use lib.Dec.{ltb}
use Rattle.model.specs.Limits.{variable_count, no_variable}
use Rattle.model.specs.Lists.{all, pairwise, lesser}
use Rattle.model.specs.Agreement.{Cell, fit, cells, clash, clashes, first_clashing, clash_number}
use Rattle.model.specs.Fault.{different, proper_scope}
use Rattle.model.proofs.Bools.{and_left, and_right, not-both}
use Rattle.model.proofs.Lists.{all_get_d, lesser-cases, lesser-below, least-is, none-least}
use Rattle.model.proofs.Fault.{different-unique}
use Rattle.model.proofs.Agreement.{cell_at, mem-cells, cells-mem, mem-clashes, clashes-mem, clash-is, clash-unfit}
use Rattle.network.specs.Tuples.{Columns}

-- ---- A proper scope

scope-low : (xs : List ℕ) → proper_scope xs ≡ true → all (λ (x : ℕ). ltb x variable_count) xs ≡ true
scope-low xs e = and_left (all (λ (x : ℕ). ltb x variable_count) xs) (pairwise different xs) e

module _ {xs vs : List ℕ} (c : Columns xs vs) where
  -- two places have different variables
  pub place-unique : (k l : ℕ) → k < length xs → l < length xs → get_or xs k 0 ≡ get_or xs l 0 → k ≡ l
  place-unique k l hk hl e =
      different-unique xs k l (and_right (all (λ (x : ℕ). ltb x variable_count) xs) (pairwise different xs) c.proper) hk hl e

-- ---- The lowest clash of the first columns

module _ (xs vs ys ws : List ℕ) where
  -- column k of the first tuple clashes with column l of the second
  abbrev pub ClashAt : ℕ → ℕ → Type 0
  ClashAt k l = (l < length ys) × (clash (cell_at xs vs k) (cell_at ys ws l) ≡ true)

  -- n is the variable of one of the first i columns that clashes, or 64
  abbrev pub Found : ℕ → ℕ → Type 0
  Found i n = (n ≡ no_variable) ⊎ ((k : ℕ) × (l : ℕ) × (k < i) × ClashAt k l × (n ≡ get_or xs k 0))

  -- Of the first i columns of the first tuple, n is the lowest variable that clashes; 64 where none does.
  pub record Lowest (i n : ℕ) : Type 0 where
    pub below : (k : ℕ) → k < i → (l : ℕ) → ClashAt k l → n ≤ get_or xs k 0
    pub found : Found i n

  module _ {i n : ℕ} (s : Lowest i n) where
    -- the next column clashes with none
    pub lowest-passes : ((l : ℕ) → ClashAt i l → ⊥) → Lowest (i + 1) n
    lowest-passes f =
        record {
          below = below_more (λ k. (l : ℕ) → ClashAt k l → n ≤ get_or xs k 0) i s.below (λ l m. absurd (f l m));
          found = ⊎_elim (λ e. inl e) (λ p. inr (p.0, p.1, omega (arith, p.2), p.3, p.4)) s.found;
        }

    -- the next column clashes
    pub lowest-clash : (l : ℕ) → ClashAt i l → Lowest (i + 1) (lesser n (some (get_or xs i 0)))
    lowest-clash l m =
        let low = lesser-below n (some (get_or xs i 0)) in
        record {
          below = below_more (λ k. (l : ℕ) → ClashAt k l → lesser n (some (get_or xs i 0)) ≤ get_or xs k 0) i
              (λ k h j q. omega (arith, low.0, s.below k h j q)) (λ j q. low.1 (get_or xs i 0) refl);
          found = ⊎_elim kept (λ e. inr (i, l, omega arith, m, sym (some-injective _ _ e))) (lesser-cases n (some (get_or xs i 0)));
        }
      where
        kept : lesser n (some (get_or xs i 0)) ≡ n → Found (i + 1) (lesser n (some (get_or xs i 0)))
        kept e = ⊎_elim (λ q. inl (e ∙ q)) (λ p. inr (p.0, p.1, omega (arith, p.2), p.3, e ∙ p.4)) s.found

  -- of all columns it is the first clash
  pub lowest-end : {n : ℕ} → Columns xs vs → Columns ys ws → Lowest (length xs) n → n ≡ clash_number (first_clashing (cells xs vs) (cells ys ws))
  lowest-end {n} a b s = ⊎_elim nowhere somewhere s.found
    where
      -- no variable that clashes is below n
      low : (v : ℕ) → Memᴰ v (clashes (cells xs vs) (cells ys ws)) → (n ≤ v) × (v < variable_count)
      low v m =
          let c = clashes-mem (cells xs vs) (cells ys ws) m in
          let k = cells-mem xs vs c.2 in
          let l = cells-mem ys ws c.3 in
          let is : get_or xs k.0 0 ≡ v = sym (ap (λ (x : Cell). x.0) k.2) ∙ c.4 in
          let least = s.below k.0 k.1 l.0 (l.1, ap₂ clash (sym k.2) (sym l.2) ∙ c.5) in
          let most = ltb-true (get_or xs k.0 0) variable_count (all_get_d (λ (x : ℕ). ltb x variable_count) xs k.0 0 (scope-low xs a.proper) k.1) in
          (omega (arith, is, least), omega (arith, is, most))

      nowhere : n ≡ no_variable → n ≡ clash_number (first_clashing (cells xs vs) (cells ys ws))
      nowhere e = e ∙ sym (ap clash_number (none-least (clashes (cells xs vs) (cells ys ws)) (λ v m. omega (arith, e, low v m))))

      somewhere : (k : ℕ) × (l : ℕ) × (k < length xs) × ClashAt k l × (n ≡ get_or xs k 0) → n ≡ clash_number (first_clashing (cells xs vs) (cells ys ws))
      somewhere p =
          let m = mem-clashes (cells xs vs) (cells ys ws) (mem-cells xs vs p.0 a.widths p.2) (mem-cells ys ws p.1 b.widths p.3.0) p.3.1 in
          sym (ap clash_number (least-is (clashes (cells xs vs) (cells ys ws)) n (Memᴰ.cast p.4 m) (λ v q. (low v q).0)))

  -- ---- A column

  -- a variable that the second scope does not have clashes with none
  pub clash-unshared : (i : ℕ) → ((l : ℕ) → l < length ys → get_or xs i 0 ≡ get_or ys l 0 → ⊥) → (l : ℕ) → ClashAt i l → ⊥
  clash-unshared i f l m = f l m.0 (clash-is (cell_at xs vs i) (cell_at ys ws l) m.1).0

  -- of a variable that it has at place j, only the value there counts
  module _ (b : Columns ys ws) (i j : ℕ) (h : j < length ys) (shared : get_or xs i 0 ≡ get_or ys j 0) where
    pub clash-fitting : fit (get_or vs i 0) (get_or ws j 0) ≡ true → (l : ℕ) → ClashAt i l → ⊥
    clash-fitting e l m =
        let c = clash-is (cell_at xs vs i) (cell_at ys ws l) m.1 in
        let same = place-unique b j l h m.0 (sym shared ∙ c.0) in
        not-both e (ap (λ (k : ℕ). fit (get_or vs i 0) (get_or ws k 0)) same ∙ c.1)

    pub clash-unfitting : fit (get_or vs i 0) (get_or ws j 0) ≡ false → ClashAt i j
    clash-unfitting e = (h, clash-unfit (cell_at xs vs i) (cell_at ys ws j) shared e)
