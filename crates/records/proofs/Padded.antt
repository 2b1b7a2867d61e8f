-- Laws of lists padded with noughts. From their definition.
use mathlib.Core.Path.{◌≡◌, refl, ap}
use mathlib.Core.Logic.{◌⊎◌, inl, inr}
use mathlib.Core.List.{List, [], ◌∷◌}
use Prim.Native.Nat.{ℕ, zero, suc, ◌≤◌}
use native.Mathlib.Nat.{not-suc-le-zero, le_of_suc-le-suc}
use lib.ListN.{length, get_or, set, take, replicate}
use Rattle.layout.specs.Shape.{padded}

pub padded-none : (n : ℕ) → replicate n 0 ≡ padded n []
unfolding padded
padded-none zero = refl
padded-none (suc n) = ap (λ (xs : List ℕ). 0 ∷ xs) (padded-none n)

padded-nought : (n i : ℕ) → set (padded n []) i 0 ≡ padded n []
unfolding padded
padded-nought zero i = refl
padded-nought (suc n) zero = refl
padded-nought (suc n) (suc i) = ap (λ (xs : List ℕ). 0 ∷ xs) (padded-nought n i)

-- one more number of the list
pub padded-next : (n i : ℕ) (xs : List ℕ) → set (padded n (take i xs)) i (get_or xs i 0) ≡ padded n (take (suc i) xs)
unfolding padded
padded-next zero i xs = refl
padded-next (suc n) zero [] = refl
padded-next (suc n) zero (x ∷ xs) = refl
padded-next (suc n) (suc i) [] = ap (λ (ys : List ℕ). 0 ∷ ys) (padded-nought n i)
padded-next (suc n) (suc i) (x ∷ xs) = ap (λ (ys : List ℕ). x ∷ ys) (padded-next n i xs)

-- a front that is long enough does for the list
pub padded-front : (n k : ℕ) (xs : List ℕ) → (n ≤ k) ⊎ (length xs ≤ k) → padded n (take k xs) ≡ padded n xs
unfolding padded
padded-front zero k xs h = refl
padded-front (suc n) zero [] h = refl
padded-front (suc n) zero (x ∷ xs) (inl h) = absurd (not-suc-le-zero h)
padded-front (suc n) zero (x ∷ xs) (inr h) = absurd (not-suc-le-zero h)
padded-front (suc n) (suc k) [] h = refl
padded-front (suc n) (suc k) (x ∷ xs) (inl h) = ap (λ (ys : List ℕ). x ∷ ys) (padded-front n k xs (inl (le_of_suc-le-suc h)))
padded-front (suc n) (suc k) (x ∷ xs) (inr h) = ap (λ (ys : List ℕ). x ∷ ys) (padded-front n k xs (inr (le_of_suc-le-suc h)))

pub padded-length : (n : ℕ) (xs : List ℕ) → length (padded n xs) ≡ n
unfolding padded
padded-length zero xs = refl
padded-length (suc n) [] = ap suc (padded-length n [])
padded-length (suc n) (x ∷ xs) = ap suc (padded-length n xs)

pub padded-whole : (xs : List ℕ) → padded (length xs) xs ≡ xs
unfolding padded
padded-whole [] = refl
padded-whole (x ∷ xs) = ap (λ (ys : List ℕ). x ∷ ys) (padded-whole xs)

pub padded-padded : (k n : ℕ) (xs : List ℕ) → k ≤ n → padded k (padded n xs) ≡ padded k xs
unfolding padded
padded-padded zero n xs h = refl
padded-padded (suc k) zero xs h = absurd (not-suc-le-zero h)
padded-padded (suc k) (suc n) [] h = ap (λ (ys : List ℕ). 0 ∷ ys) (padded-padded k n [] (le_of_suc-le-suc h))
padded-padded (suc k) (suc n) (x ∷ xs) h = ap (λ (ys : List ℕ). x ∷ ys) (padded-padded k n xs (le_of_suc-le-suc h))

-- a front that is not longer than the list
pub padded-take : (n : ℕ) (xs : List ℕ) → n ≤ length xs → padded n xs ≡ take n xs
unfolding padded
padded-take zero xs h = refl
padded-take (suc n) [] h = absurd (not-suc-le-zero h)
padded-take (suc n) (x ∷ xs) h = ap (λ (ys : List ℕ). x ∷ ys) (padded-take n xs (le_of_suc-le-suc h))
