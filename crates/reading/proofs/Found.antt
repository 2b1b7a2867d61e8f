-- Laws of what was found at a position, of what f makes of it, and of what stands behind other numbers.
-- From the definitions of `found_at`, `map_read` and `behind`.
use mathlib.Core.Path.{◌≡◌, refl, sym, ap, ◌∙◌}
use mathlib.Core.Bool.{Bool, true, false, cond}
use mathlib.Core.Option.{none, some, some-injective, none-ne-some, some-ne-none}
use mathlib.Core.List.{List, [], ◌++◌, append_assoc}
use Prim.Native.Nat.{ℕ, zero, suc, ◌<◌}
use native.Mathlib.Omega.{arith}
use borrow.Author.Tests.{eq-eqb, ne_eqb}
use lib.Dec.{eqb}
use lib.ListN.{drop}
use Rattle.model.specs.Reading.{Read, and_then}
use Rattle.reading.specs.Parts.{found_at, map_read, behind}

pub positive : (n : ℕ) → (n ≡ 0 → ⊥) → 0 < n
positive zero h = absurd (h refl)
positive (suc n) h = omega arith

module _ {A : Type 0} (t : List ℕ) where
  -- a position other than 0
  pub found-at : (next : ℕ) (x : A) → (next ≡ 0 → ⊥) → found_at next x t ≡ some (x, drop next t)
  found-at next x n = ap (λ (b : Bool). cond b none (some (x, drop next t))) (ne_eqb next 0 n)

  pub found_none : (next : ℕ) (x : A) → next ≡ 0 → found_at next x t ≡ none
  found_none next x e = ap (λ (b : Bool). cond b none (some (x, drop next t))) (eq-eqb next 0 e)

-- numbers behind vs, and these behind us
pub behind-behind : (us vs : List ℕ) (R : Read (List ℕ)) → behind us (behind vs R) ≡ behind (us ++ vs) R
behind-behind us vs none = refl
behind-behind us vs (some r) = ap (λ (xs : List ℕ). some (xs, r.1)) (sym (append_assoc us vs r.0))

pub behind-nil : (R : Read (List ℕ)) → behind [] R ≡ R
behind-nil none = refl
behind-nil (some r) = refl

module _ {A B : Type 0} (f : A → B) (t : List ℕ) (next : ℕ) where
  -- what f makes of what was found
  pub map_found : (y : A) → map_read f (found_at next y t) ≡ found_at next (f y) t
  map_found y = go (eqb next 0)
    where
      go : (b : Bool) → map_read f (cond b none (some (y, drop next t))) ≡ cond b none (some (f y, drop next t))
      go true = refl
      go false = refl

  -- a position other than 0: something was read, and x is what f makes of it
  pub map-split : (x : B) (R : Read A) → found_at next x t ≡ map_read f R → (next ≡ 0 → ⊥) → (y : A) × (R ≡ some (y, drop next t)) × (x ≡ f y)
  map-split x none h n = absurd (some-ne-none (x, drop next t) (sym (found-at t next x n) ∙ h))
  map-split x (some r) h n =
      let e : ◌≡◌ {A = B × List ℕ} (x, drop next t) (f r.0, r.1) = some-injective (x, drop next t) (f r.0, r.1) (sym (found-at t next x n) ∙ h) in
      (r.0, ap (λ (rest : List ℕ). some (r.0, rest)) (sym (ap (λ (p : B × List ℕ). p.1) e)), ap (λ (p : B × List ℕ). p.0) e)

  pub map-none : (x : B) (R : Read A) → found_at next x t ≡ map_read f R → next ≡ 0 → R ≡ none
  map-none x none h z = refl
  map-none x (some r) h z = absurd (none-ne-some (f r.0, r.1) (sym (found_none t next x z) ∙ h))

-- a line that was read and passed a test
pub passed-test : {A : Type 0} (p : List ℕ → Bool) (f : List ℕ → A) (L : Read (List ℕ)) (x : A) (rest : List ℕ)
    → and_then L (λ (head : List ℕ) (rest' : List ℕ). cond (p head) (some (f head, rest')) none) ≡ some (x, rest) → (head : List ℕ) × (p head ≡ true) × (f head ≡ x)
passed-test p f none x rest h = absurd (none-ne-some (x, rest) h)
passed-test {A} p f (some r) x rest h = go (p r.0) refl h
  where
    go : (b : Bool) → p r.0 ≡ b → ◌≡◌ {A = Read A} (cond b (some (f r.0, r.1)) none) (some (x, rest)) → (head : List ℕ) × (p head ≡ true) × (f head ≡ x)
    go false q e = absurd (none-ne-some (x, rest) e)
    go true q e = (r.0, q, ap (λ (y : A × List ℕ). y.0) (some-injective (f r.0, r.1) (x, rest) e))
