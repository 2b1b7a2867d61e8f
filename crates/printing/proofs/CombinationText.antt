-- The lines of combinations: the first of them before the rest, and how long all are at most.
-- From the laws of combinations by number, and of lines.
use mathlib.Core.Path.{◌≡◌, ap, ◌∙◌}
use mathlib.Core.List.{List, [], ◌∷◌, ◌++◌, map}
use Prim.Native.Nat.{ℕ, suc, ◌+◌, ◌*◌, ◌/◌, ◌≤◌, ◌<◌}
use native.Mathlib.Nat.{suc-mul, add-div_left, div-eq_of_lt, div-mul-le_self, min-le_left}
use native.Mathlib.Numerals.{add-one}
use native.Mathlib.Omega.{arith}
use lib.ListN.{length, take, drop, length-append, length-take}
use Rattle.model.specs.Lists.{from}
use Rattle.model.specs.Combination.{combinations}
use Rattle.model.specs.Text.{line_text, text_of}
use Rattle.model.proofs.Lists.{length_from, pieces, pieces-cons}
use Rattle.model.proofs.Text.{line_text-length, text_of-cons}

module _ (m : ℕ) where
  -- the first one before the others
  pub combination_first : (c rest : List ℕ) → 0 < m → length c ≡ m → text_of (combinations m (c ++ rest)) ≡ line_text c ++ text_of (combinations m rest)
  unfolding combinations
  combination_first c rest pos e =
      let n : length (c ++ rest) / m ≡ suc (length rest / m) =
      ap (λ (k : ℕ). k / m) (length-append c rest ∙ ap (λ (k : ℕ). k + length rest) e) ∙ add-div_left (length rest) pos ∙ add-one (length rest / m)
      in
      ap text_of (ap (λ (k : ℕ). pieces k m (c ++ rest)) n ∙ pieces-cons (length rest / m) m c rest e) ∙ text_of-cons c (combinations m rest)

  pub combination_none : (rest : List ℕ) → length rest < m → text_of (combinations m rest) ≡ []
  unfolding combinations text_of
  combination_none rest h = ap (λ (k : ℕ). text_of (pieces k m rest)) (div-eq_of_lt h)

-- ---- How long the lines are

-- ten digits and the byte behind them, for each of m fields
line-short : (m : ℕ) (xs : List ℕ) → 0 < m → length xs ≤ m → length (line_text xs) ≤ 11 * m
line-short m [] p h = omega arith
line-short m (x ∷ xs) p h = omega (arith, line_text-length x xs)

module _ (m : ℕ) (pos : 0 < m) where
  lines-short : (f : ℕ → List ℕ) → ((k : ℕ) → length (f k) ≤ m) → (ks : List ℕ) → length (text_of (map f ks)) ≤ 11 * (length ks * m)
  unfolding text_of
  lines-short f h [] = omega arith
  lines-short f h (k ∷ ks) =
      omega (arith, length-append (line_text (f k)) (text_of (map f ks)), line-short m (f k) pos (h k), lines-short f h ks, suc-mul (length ks) m)

  pub combinations-short : (members : List ℕ) → length (text_of (combinations m members)) ≤ 11 * length members
  unfolding combinations
  combinations-short members =
      let count = length members / m in
      let l = lines-short (λ (k : ℕ). take m (drop (k * m) members)) (λ k. rw length-take (min-le_left m (length (drop (k * m) members)))) (from 0 count) in
      let e = ap (λ (n : ℕ). n * m) (length_from 0 count) in
      omega (arith, l, e, div-mul-le_self (length members) m)
