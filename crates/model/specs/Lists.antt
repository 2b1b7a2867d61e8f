-- Lists, and tests on them that compute.
use Rattle.std.specs.Prelude.{Bool, true, false, ◌&&◌, ◌||◌, cond, List, [], ◌∷◌, ◌++◌, map, ℕ, zero, suc, ◌+◌, ltb, eqb}
use Rattle.std.proofs.Math.Option.{Option, none, some}

-- i, i + 1, .. : n numbers
abbrev pub from : ℕ → ℕ → List ℕ
from i zero = []
from i (suc n) = i ∷ from (suc i) n

abbrev pub sum : List ℕ → ℕ
sum [] = 0
sum (x ∷ xs) = x + sum xs

module _ {ℓ} {A : Type ℓ} where
  -- the test holds of every element
  abbrev pub all : (A → Bool) → List A → Bool
  all p [] = true
  all p (x ∷ xs) = p x && all p xs

  -- the test holds of some element
  abbrev pub any : (A → Bool) → List A → Bool
  any p [] = false
  any p (x ∷ xs) = p x || any p xs

  -- the test holds of every two elements, the earlier one first
  abbrev pub pairwise : (A → A → Bool) → List A → Bool
  pairwise r [] = true
  pairwise r (x ∷ xs) = all (r x) xs && pairwise r xs

  abbrev pub keep_if : Bool → A → List A → List A
  keep_if true x xs = x ∷ xs
  keep_if false x xs = xs

  -- the elements that pass the test, in their order
  abbrev pub select : (A → Bool) → List A → List A
  select p [] = []
  select p (x ∷ xs) = keep_if (p x) x (select p xs)

  -- the first element, or d where there is none
  abbrev pub first_or : A → List A → A
  first_or d [] = d
  first_or d (x ∷ xs) = x

  abbrev pub empty : List A → Bool
  empty [] = true
  empty (x ∷ xs) = false

  -- each element of xs before each list of ts
  abbrev pub prefixed : List A → List (List A) → List (List A)
  prefixed [] ts = []
  prefixed (x ∷ xs) ts = map (λ (t : List A). x ∷ t) ts ++ prefixed xs ts

  -- every list with one element of each list of xss, ordered by the first element, then by the second, and so on
  abbrev pub choices : List (List A) → List (List A)
  choices [] = [] ∷ []
  choices (xs ∷ xss) = prefixed xs (choices xss)

-- Lists with the same elements, each as often, in any order.
pub data Permutation {A : Type 0} : List A → List A → Type 0 where
  bare : Permutation [] []
  ahead : {x : A} {xs ys : List A} → Permutation xs ys → Permutation (x ∷ xs) (x ∷ ys)
  swapped : {x y : A} {xs : List A} → Permutation (x ∷ y ∷ xs) (y ∷ x ∷ xs)
  further : {xs ys zs : List A} → Permutation xs ys → Permutation ys zs → Permutation xs zs

-- f of each element, end to end
abbrev pub each {ℓ κ} : {A : Type ℓ} {B : Type κ} → (A → List B) → List A → List B
each f [] = []
each f (x ∷ xs) = f x ++ each f xs

-- lexicographic order: xs comes before ys by their first different element
abbrev pub earlier : List ℕ → List ℕ → Bool
earlier [] ys = false
earlier (x ∷ xs) [] = false
earlier (x ∷ xs) (y ∷ ys) = ltb x y || (eqb x y && earlier xs ys)

abbrev pub elem : ℕ → List ℕ → Bool
elem x = any (eqb x)

-- the lists have the same elements
abbrev pub equal : List ℕ → List ℕ → Bool
equal [] [] = true
equal [] (y ∷ ys) = false
equal (x ∷ xs) [] = false
equal (x ∷ xs) (y ∷ ys) = eqb x y && equal xs ys

abbrev pub is_none : Option ℕ → Bool
is_none none = true
is_none (some x) = false

-- the lesser of x and a number, if there is one
abbrev pub lesser : ℕ → Option ℕ → ℕ
lesser x none = x
lesser x (some y) = cond (ltb y x) y x

-- the least element, or none
abbrev pub least : List ℕ → Option ℕ
least [] = none
least (x ∷ xs) = some (lesser x (least xs))

-- f applied n times
abbrev pub iterate {ℓ} : {A : Type ℓ} → ℕ → (A → A) → A → A
iterate zero f x = x
iterate (suc n) f x = iterate n f (f x)
