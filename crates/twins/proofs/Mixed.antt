-- Laws of two lists mixed by places, and of the order of lists by the first place where they differ.
-- From the laws of lists.
use mathlib.Core.Path.{◌≡◌, refl, subst}
use mathlib.Core.Bool.{Bool, true, false, cond, ◌&&◌, false≢true}
use mathlib.Core.Logic.{⊎_elim}
use mathlib.Core.List.{List, [], ◌∷◌, Memᴰ}
use Prim.Native.Nat.{ℕ, zero, suc, ◌<◌}
use native.Mathlib.Nat.{le_of_suc-le-suc}
use native.Mathlib.Omega.{arith}
use borrow.Author.Tests.{ltb-true, lt-ltb, eqb-true, eq-eqb}
use lib.Dec.{ltb, eqb}
use lib.ListN.{length, get_or}
use Rattle.model.specs.Lists.{all, pairwise, earlier}
use Rattle.model.proofs.Bools.{and_left, and_right, and_intro, or_left, or_right, or_cases}
use Rattle.model.proofs.Lists.{Picks, done, pick, all-intro, mem-get_d}

-- ---- Two lists mixed

-- the one list's elements at the places that pass the test, and the other's at the others
abbrev pub mixed : (ℕ → Bool) → List ℕ → List ℕ → List ℕ
mixed test [] ys = []
mixed test (x ∷ xs) [] = []
mixed test (x ∷ xs) (y ∷ ys) = cond (test 0) x y ∷ mixed (λ (i : ℕ). test (suc i)) xs ys

pub mixed-at : (test : ℕ → Bool) (xs ys : List ℕ) (i : ℕ) → i < length xs → i < length ys → get_or (mixed test xs ys) i 0 ≡ cond (test i) (get_or xs i 0) (get_or ys i 0)
mixed-at test [] ys i h l = absurd (omega arith)
mixed-at test (x ∷ xs) [] i h l = absurd (omega arith)
mixed-at test (x ∷ xs) (y ∷ ys) zero h l = refl
mixed-at test (x ∷ xs) (y ∷ ys) (suc i) h l = mixed-at (λ (i : ℕ). test (suc i)) xs ys i (le_of_suc-le-suc h) (le_of_suc-le-suc l)

cond-mem : (b : Bool) {x y : ℕ} {xs : List ℕ} → Memᴰ x xs → Memᴰ y xs → Memᴰ (cond b x y) xs
cond-mem true m n = m
cond-mem false m n = n

pub mixed-picks : (test : ℕ → Bool) {xss : List (List ℕ)} {xs ys : List ℕ} → Picks xss xs → Picks xss ys → Picks xss (mixed test xs ys)
mixed-picks test done done = done
mixed-picks test (pick m p) (pick n q) = pick (cond-mem (test 0) m n) (mixed-picks (λ (i : ℕ). test (suc i)) p q)

cond-passes : (p : ℕ → Bool) (b : Bool) {x y : ℕ} → p x ≡ true → p y ≡ true → p (cond b x y) ≡ true
cond-passes p true e f = e
cond-passes p false e f = f

pub mixed-all : (test p : ℕ → Bool) (xs ys : List ℕ) → all p xs ≡ true → all p ys ≡ true → all p (mixed test xs ys) ≡ true
mixed-all test p [] ys e f = refl
mixed-all test p (x ∷ xs) [] e f = refl
mixed-all test p (x ∷ xs) (y ∷ ys) e f =
    and_intro
    (cond-passes p (test 0) (and_left (p x) (all p xs) e) (and_left (p y) (all p ys) f))
    (mixed-all (λ (i : ℕ). test (suc i)) p xs ys (and_right (p x) (all p xs) e) (and_right (p y) (all p ys) f))

-- ---- By places

-- every two elements are in the relation, if they are at every two places
pub pairwise-places : (r : ℕ → ℕ → Bool) (xs : List ℕ) → ((i k : ℕ) → i < k → k < length xs → r (get_or xs i 0) (get_or xs k 0) ≡ true) → pairwise r xs ≡ true
pairwise-places r [] h = refl
pairwise-places r (x ∷ xs) h =
    and_intro
    (all-intro (r x) xs (λ y m. let k = mem-get_d xs 0 m in subst (λ (z : ℕ). r x z ≡ true) k.2 (h 0 (suc k.0) (omega arith) (omega (arith, k.1)))))
    (pairwise-places r xs (λ i k l b. h (suc i) (suc k) (omega arith) (omega arith)))

-- Two lists are equal up to place k, and there the first is less.
pub record Sooner (xs ys : List ℕ) : Type 0 where
  pub at : ℕ
  pub within : at < length xs
  pub inside : at < length ys
  pub same : (i : ℕ) → i < at → get_or xs i 0 ≡ get_or ys i 0
  pub less : get_or xs at 0 < get_or ys at 0

pub earlier-at : (xs ys : List ℕ) → earlier xs ys ≡ true → Sooner xs ys
earlier-at [] ys e = absurd (false≢true e)
earlier-at (x ∷ xs) [] e = absurd (false≢true e)
earlier-at (x ∷ xs) (y ∷ ys) e =
    ⊎_elim
    (λ h. record { at = 0; within = omega arith; inside = omega arith; same = λ i l. absurd (omega arith); less = ltb-true x y h })
    (λ h.
    let s = earlier-at xs ys (and_right (eqb x y) (earlier xs ys) h) in
    record { at = suc s.at; within = omega (arith, s.within); inside = omega (arith, s.inside); same = equal s (eqb-true x y (and_left (eqb x y) (earlier xs ys) h)); less = s.less })
    (or_cases (ltb x y) (eqb x y && earlier xs ys) e)
  where
    equal : (s : Sooner xs ys) → x ≡ y → (i : ℕ) → i < suc s.at → get_or (x ∷ xs) i 0 ≡ get_or (y ∷ ys) i 0
    equal s q zero l = q
    equal s q (suc i) l = s.same i (le_of_suc-le-suc l)

pub at-earlier : (xs ys : List ℕ) (k : ℕ) → k < length xs → k < length ys → ((i : ℕ) → i < k → get_or xs i 0 ≡ get_or ys i 0) → get_or xs k 0 < get_or ys k 0 → earlier xs ys ≡ true
at-earlier [] ys k h l same less = absurd (omega arith)
at-earlier (x ∷ xs) [] k h l same less = absurd (omega arith)
at-earlier (x ∷ xs) (y ∷ ys) zero h l same less = or_left (eqb x y && earlier xs ys) (lt-ltb x y less)
at-earlier (x ∷ xs) (y ∷ ys) (suc k) h l same less =
    or_right (ltb x y) (and_intro (eq-eqb x y (same 0 (omega arith))) (at-earlier xs ys k (le_of_suc-le-suc h) (le_of_suc-le-suc l) (λ i b. same (suc i) (omega arith)) less))
