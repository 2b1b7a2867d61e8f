-- The model's words on lists, `any`, `all`, `elem`, `sum` and `pairwise`, as the library's, in which the clauses of iterators speak.
use mathlib.Core.Path.{◌≡◌, refl, sym, ◌∙◌, ap, ap₂}
use mathlib.Core.Bool.{Bool, true, false, ◌&&◌, ◌||◌, true≢false}
use mathlib.Core.List.{List, [], ◌∷◌, map}
use Prim.Native.Nat.{ℕ, suc, ◌+◌, ◌<◌}
use native.Mathlib.Omega.{arith}
use lib.Dec.{eqb}
use lib.ListN.{length, get_or, take}
use Rattle.std.specs.List.{list_any, list_all, sum as std_sum, sum_by, AllPairs}
use Rattle.std.proofs.lemmas.List.Sums.{sum_by-cons}
use Rattle.std.proofs.lemmas.List.Folds.{list_any_more, list_all_more}
use Rattle.std.proofs.lemmas.List.Recursion.{and_from_places, and_fails_at, or_at, or_from_places}
use Rattle.std.proofs.lemmas.Bool.Decides.{nat_tests}
use Rattle.model.specs.Lists.{any, all, elem, sum, pairwise}
use Rattle.model.proofs.Lists.{pairwise-get_d}
use Rattle.model.proofs.Bools.{and_intro}

module _ {A : Type 0} (p : A → Bool) where
  pub any-list_any : (xs : List A) → any p xs ≡ list_any p xs
  any-list_any [] = refl
  any-list_any (x ∷ xs) = ap (λ (b : Bool). p x || b) (any-list_any xs)

  pub all-list_all : (xs : List A) → all p xs ≡ list_all p xs
  all-list_all [] = refl
  all-list_all (x ∷ xs) = ap (λ (b : Bool). p x && b) (all-list_all xs)

-- the test of either side of an equation
pub eqb-turned : (x y : ℕ) → eqb x y ≡ eqb y x
eqb-turned x y = grind (arith, nat_tests)

pub elem-list_any : (x : ℕ) (xs : List ℕ) → elem x xs ≡ list_any (λ (y : ℕ). eqb y x) xs
elem-list_any x [] = refl
elem-list_any x (y ∷ xs) = ap₂ (λ (b c : Bool). b || c) (eqb-turned x y) (elem-list_any x xs)

pub sum-sum_by : {A : Type 0} (f : A → ℕ) (xs : List A) → sum (map f xs) ≡ sum_by f xs
sum-sum_by f [] = refl
sum-sum_by f (x ∷ xs) = ap (λ (n : ℕ). f x + n) (sum-sum_by f xs) ∙ sym (sum_by-cons f x xs)

pub sum-sum : (xs : List ℕ) → sum xs ≡ std_sum xs
sum-sum [] = refl
sum-sum (x ∷ xs) = ap (λ (n : ℕ). x + n) (sum-sum xs) ∙ sym (sum_by-cons (λ (y : ℕ). y) x xs)

module _ {A : Type 0} (p : A → Bool) where
  -- one element more
  pub any_next : (xs : List A) (i : ℕ) (d : A) → i < length xs → any p (take (i + 1) xs) ≡ (any p (take i xs) || p (get_or xs i d))
  any_next xs i d h = any-list_any p (take (i + 1) xs) ∙ list_any_more p xs i d h ∙ ap (λ (b : Bool). b || p (get_or xs i d)) (sym (any-list_any p (take i xs)))

  pub all_next : (xs : List A) (i : ℕ) (d : A) → i < length xs → all p (take (i + 1) xs) ≡ (all p (take i xs) && p (get_or xs i d))
  all_next xs i d h = all-list_all p (take (i + 1) xs) ∙ list_all_more p xs i d h ∙ ap (λ (b : Bool). b && p (get_or xs i d)) (sym (all-list_all p (take i xs)))

  -- by places
  pub all_from_places : (xs : List A) (d : A) → ((i : ℕ) → i < length xs → p (get_or xs i d) ≡ true) → all p xs ≡ true
  all_from_places = and_from_places (all p) p refl (λ x xs. refl)

  pub all_fails_at : (xs : List A) (i : ℕ) (d : A) → i < length xs → p (get_or xs i d) ≡ false → all p xs ≡ false
  all_fails_at = and_fails_at (all p) p refl (λ x xs. refl)

  pub any_holds_at : (xs : List A) (i : ℕ) (d : A) → i < length xs → p (get_or xs i d) ≡ true → any p xs ≡ true
  any_holds_at = or_at (any p) p refl (λ x xs. refl)

  pub any_from_places : (xs : List A) (d : A) → ((i : ℕ) → i < length xs → p (get_or xs i d) ≡ false) → any p xs ≡ false
  any_from_places = or_from_places (any p) p refl (λ x xs. refl)

module _ {A : Type 0} (r : A → A → Bool) where
  pub pairwise-from_places : (xs : List A) (d : A) → ((i j : ℕ) → i < j → j < length xs → r (get_or xs i d) (get_or xs j d) ≡ true) → pairwise r xs ≡ true
  pairwise-from_places [] d f = refl
  pairwise-from_places (x ∷ xs) d f =
      and_intro
      (all_from_places (r x) xs d (λ j h. f 0 (suc j) (omega arith) (omega arith)))
      (pairwise-from_places xs d (λ i j h l. f (suc i) (suc j) (omega arith) (omega arith)))

  pub pairwise-from_AllPairs : (xs : List A) → AllPairs (λ (x y : A). r x y ≡ true) xs → pairwise r xs ≡ true
  pairwise-from_AllPairs [] f = refl
  pairwise-from_AllPairs (x ∷ xs) f = pairwise-from_places (x ∷ xs) x (λ i j h l. f i j x h l)

  pub AllPairs-from_pairwise : (xs : List A) → pairwise r xs ≡ true → AllPairs (λ (x y : A). r x y ≡ true) xs
  AllPairs-from_pairwise xs e i j d h l = pairwise-get_d r xs i j d e h l

  pub pairwise_fails_at : (xs : List A) (i j : ℕ) (d : A) → i < j → j < length xs → r (get_or xs i d) (get_or xs j d) ≡ false → pairwise r xs ≡ false
  pairwise_fails_at xs i j d h l e = either (pairwise r xs) refl
    where
      either : (b : Bool) → pairwise r xs ≡ b → pairwise r xs ≡ false
      either true t = absurd (true≢false (sym (pairwise-get_d r xs i j d t h l) ∙ e))
      either false t = t
