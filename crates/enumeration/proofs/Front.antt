-- A list of images of the first k elements of another. From the laws of lists.
use mathlib.Core.Path.{◌≡◌, sym, ◌∙◌, ap, ap₂}
use mathlib.Core.List.{List, [], ◌∷◌, ◌++◌, map}
use Prim.Native.Nat.{ℕ, suc, ◌≤◌, ◌<◌}
use native.Mathlib.Omega.{arith}
use lib.ListN.{length, get_or, take, length-map}
use lib.Seq.{length-take-le, take-suc, get_or-take, ext_get_or}
use Rattle.model.proofs.Lists.{get_d-map-in}

-- a list whose first k elements are the images of another's, and the one behind them is x
pub front-images : (f : ℕ → ℕ) (x : ℕ) (xs ys : List ℕ) (k : ℕ) → k ≤ length xs → k < length ys → ((i : ℕ) → i < k → get_or ys i 0 ≡ f (get_or xs i 0)) → get_or ys k 0 ≡ x → take (suc k) ys ≡ map f (take k xs) ++ (x ∷ [])
front-images f x xs ys k h l same last =
    take-suc ys k 0 l
    ∙ ap₂ (λ (front : List ℕ) (z : ℕ). front ++ (z ∷ [])) images last
  where
    shorter : length (take k xs) ≡ k
    shorter = length-take-le k xs h

    images : take k ys ≡ map f (take k xs)
    images =
        ext_get_or 0 (take k ys) (map f (take k xs))
        (length-take-le k ys (omega arith) ∙ sym (length-map (take k xs) f ∙ shorter))
        (λ i g.
        let b : i < k = omega (arith, length-take-le k ys (omega arith)) in
        get_or-take k ys i 0 b
        ∙ same i b
        ∙ sym (get_d-map-in f (take k xs) i 0 0 (omega (arith, shorter)) ∙ ap f (get_or-take k xs i 0 b)))
