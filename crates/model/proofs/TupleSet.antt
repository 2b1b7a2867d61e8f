-- Laws of sets of tuples; and for any rule that more live tuples only help, `closure` is the largest consistent set.
use mathlib.Core.Path.{◌≡◌, refl, sym, ◌∙◌, ap, subst}
use mathlib.Core.Bool.{Bool, true, false, not, ◌&&◌, ◌||◌, cond, and-true, and-false, false≢true}
use mathlib.Core.List.{[], ◌∷◌}
use Prim.Native.Nat.{ℕ, zero, suc, ◌+◌, ◌≤◌, ◌<◌}
use native.Mathlib.Nat.{add-zero, zero-add, add-suc, suc-add, le_refl}
use native.Mathlib.Decide.{ℕ_discrete, dec_lt}
use native.Mathlib.Omega.{arith}
use lib.Dec.{eqb}
use lib.ListN.{length, get_or-eq_default}
use lib.Seq.{ext_get_or}
use borrow.Author.Tests.{eq-eqb, ne_eqb}
use Rattle.model.specs.Lists.{iterate}
use Rattle.model.specs.TupleSet.{TupleSet, has, count, restrict_from, restrict, without, Inside, Rule, Consistent, Largest, round, closure}
use Rattle.model.proofs.Bools.{and_left, and_right, and_intro, iff-eq}

-- ---- Membership

below_length : (S : TupleSet) (g : ℕ) → has S g ≡ true → Dec (g < length S) → g < length S
below_length S g e (yes h) = h
below_length S g e (no h) = absurd (false≢true (sym (get_or-eq_default S false (omega arith)) ∙ e))

pub has-below : (S : TupleSet) (g : ℕ) → has S g ≡ true → g < length S
has-below S g e = below_length S g e (dec_lt g (length S))

pub inside-eq : (S T : TupleSet) → length S ≡ length T → Inside S T → Inside T S → S ≡ T
inside-eq S T l f g = ext_get_or false S T l (λ i _. iff-eq (has S i) (has T i) (f i) (g i))

-- ---- Restriction

restrict_from-has : (i : ℕ) (p : ℕ → Bool) (S : TupleSet) (g : ℕ) → has (restrict_from i p S) g ≡ (has S g && p (i + g))
restrict_from-has i p [] g = refl
restrict_from-has i p (x ∷ S) zero = rw add-zero
restrict_from-has i p (x ∷ S) (suc g) = rw (add-suc, ← suc-add) (restrict_from-has (suc i) p S g)

pub restrict-has : (p : ℕ → Bool) (S : TupleSet) (g : ℕ) → has (restrict p S) g ≡ (has S g && p g)
restrict-has p S g = restrict_from-has 0 p S g ∙ ap (λ (k : ℕ). has S g && p k) (zero-add g)

restrict_from-length : (i : ℕ) (p : ℕ → Bool) (S : TupleSet) → length (restrict_from i p S) ≡ length S
restrict_from-length i p [] = refl
restrict_from-length i p (x ∷ S) = ap suc (restrict_from-length (suc i) p S)

pub restrict-length : (p : ℕ → Bool) (S : TupleSet) → length (restrict p S) ≡ length S
restrict-length p S = restrict_from-length 0 p S

pub restrict-inside : (p : ℕ → Bool) (S : TupleSet) → Inside (restrict p S) S
restrict-inside p S g h = and_left (has S g) (p g) (sym (restrict-has p S g) ∙ h)

pub restrict-test : (p : ℕ → Bool) (S : TupleSet) (g : ℕ) → has (restrict p S) g ≡ true → p g ≡ true
restrict-test p S g h = and_right (has S g) (p g) (sym (restrict-has p S g) ∙ h)

pub restrict-intro : (p : ℕ → Bool) (S : TupleSet) (g : ℕ) → has S g ≡ true → p g ≡ true → has (restrict p S) g ≡ true
restrict-intro p S g h k = restrict-has p S g ∙ and_intro h k

not-either : (x u t : Bool) → (x && not u && not t) ≡ (x && not (u || t))
not-either true true t = refl
not-either true false t = refl
not-either false u t = refl

pub without-length : (t : ℕ → Bool) (S : TupleSet) → length (without t S) ≡ length S
without-length t S = restrict-length (λ g. not (t g)) S

-- tests that say the same of the set's tuples remove the same
pub without-cong : (t u : ℕ → Bool) (S : TupleSet) → ((g : ℕ) → has S g ≡ true → t g ≡ u g) → without t S ≡ without u S
without-cong t u S f =
    ext_get_or false (without t S) (without u S) (without-length t S ∙ sym (without-length u S))
    (λ g _. restrict-has (λ g. not (t g)) S g ∙ same g (has S g) refl ∙ sym (restrict-has (λ g. not (u g)) S g))
  where
    same : (g : ℕ) (x : Bool) → has S g ≡ x → (x && not (t g)) ≡ (x && not (u g))
    same g true e = ap not (f g e)
    same g false e = refl

-- removing nothing changes nothing
pub without-none : (S : TupleSet) → without (λ (g : ℕ). false) S ≡ S
without-none S =
    ext_get_or false (without (λ (g : ℕ). false) S) S (without-length (λ (g : ℕ). false) S)
    (λ g _. restrict-has (λ g. true) S g ∙ and-true (has S g))

-- removing u and then t is removing both
-- a tuple that does not pass the test stays
pub without-stays : (t : ℕ → Bool) (S : TupleSet) (g : ℕ) → (has S g ≡ true → t g ≡ false) → has (without t S) g ≡ has S g
without-stays t S g f = restrict-has (λ h. not (t h)) S g ∙ go (has S g) refl
  where
    go : (b : Bool) → has S g ≡ b → (b && not (t g)) ≡ b
    go true e = ap not (f e)
    go false e = refl

pub without-without : (t u : ℕ → Bool) (S : TupleSet) → without t (without u S) ≡ without (λ (g : ℕ). u g || t g) S
without-without t u S =
    ext_get_or false (without t (without u S)) (without both S)
    (without-length t (without u S) ∙ without-length u S ∙ sym (without-length both S))
    (λ g _.
    restrict-has (λ g. not (t g)) (without u S) g
    ∙ ap (λ (x : Bool). x && not (t g)) (restrict-has (λ g. not (u g)) S g)
    ∙ not-either (has S g) (u g) (t g)
    ∙ sym (restrict-has (λ g. not (both g)) S g))
  where
    both : ℕ → Bool
    both g = u g || t g

-- ---- Counting

pub count-length : (S : TupleSet) → count S ≤ length S
count-length [] = le_refl 0
count-length (true ∷ S) = omega (arith, count-length S)
count-length (false ∷ S) = omega (arith, count-length S)

cons-inside : (x y : Bool) (S T : TupleSet) → (x ≡ true → y ≡ true) → count S ≤ count T → count (x ∷ S) ≤ count (y ∷ T)
cons-inside true true S T f h = omega arith
cons-inside true false S T f h = absurd (false≢true (f refl))
cons-inside false true S T f h = omega arith
cons-inside false false S T f h = h

-- a set has no more tuples than one that it is inside
pub count-inside : (S T : TupleSet) → Inside S T → count S ≤ count T
count-inside [] T f = omega arith
count-inside (x ∷ S) [] f = cons-inside x false S [] (f 0) (count-inside S [] (λ g. f (suc g)))
count-inside (x ∷ S) (y ∷ T) f = cons-inside x y S T (f 0) (count-inside S T (λ g. f (suc g)))

cons-count : (x b : Bool) (S' S : TupleSet) → count S' ≤ count S → count ((x && b) ∷ S') ≤ count (x ∷ S)
cons-count true true S' S h = omega arith
cons-count true false S' S h = omega arith
cons-count false b S' S h = h

restrict_from-count : (i : ℕ) (p : ℕ → Bool) (S : TupleSet) → count (restrict_from i p S) ≤ count S
restrict_from-count i p [] = le_refl 0
restrict_from-count i p (x ∷ S) = cons-count x (p i) (restrict_from (suc i) p S) S (restrict_from-count (suc i) p S)

cons_same : (x b : Bool) (S' S : TupleSet) → count S' ≤ count S → (count S' ≡ count S → S' ≡ S) → count ((x && b) ∷ S') ≡ count (x ∷ S) → ◌≡◌ {A = TupleSet} ((x && b) ∷ S') (x ∷ S)
cons_same true true S' S h f e = ap {B = TupleSet} (λ t. true ∷ t) (f (omega arith))
cons_same true false S' S h f e = absurd (omega arith)
cons_same false b S' S h f e = ap {B = TupleSet} (λ t. false ∷ t) (f e)

restrict_from-same : (i : ℕ) (p : ℕ → Bool) (S : TupleSet) → count (restrict_from i p S) ≡ count S → restrict_from i p S ≡ S
restrict_from-same i p [] e = refl
restrict_from-same i p (x ∷ S) e =
    cons_same x (p i) (restrict_from (suc i) p S) S (restrict_from-count (suc i) p S) (restrict_from-same (suc i) p S) e

cons-parts : (x y : Bool) (A B S : TupleSet) → count A + count B ≡ count S → count ((x && y) ∷ A) + count ((x && not y) ∷ B) ≡ count (x ∷ S)
cons-parts true true A B S e = omega arith
cons-parts true false A B S e = omega arith
cons-parts false y A B S e = e

parts-count : (i : ℕ) (p : ℕ → Bool) (S : TupleSet) → count (restrict_from i p S) + count (restrict_from i (λ (g : ℕ). not (p g)) S) ≡ count S
parts-count i p [] = refl
parts-count i p (x ∷ S) =
    cons-parts x (p i) (restrict_from (suc i) p S) (restrict_from (suc i) (λ (g : ℕ). not (p g)) S) S (parts-count (suc i) p S)

-- the tuples that pass a test, and those that do not
pub without-count : (t : ℕ → Bool) (S : TupleSet) → count (restrict t S) + count (without t S) ≡ count S
without-count t S = parts-count 0 t S

-- an id before i is not met
skipped-count : (i g : ℕ) (S : TupleSet) → g < i → count (restrict_from i (eqb g) S) ≡ 0
skipped-count i g [] h = refl
skipped-count i g (x ∷ S) h =
    ap (λ (b : Bool). count ((x && b) ∷ restrict_from (suc i) (eqb g) S)) (ne_eqb g i (λ e. omega arith))
    ∙ ap (λ (b : Bool). count (b ∷ restrict_from (suc i) (eqb g) S)) (and-false x)
    ∙ skipped-count (suc i) g S (omega arith)

met-count : (x : Bool) (S : TupleSet) → count S ≡ 0 → count ((x && true) ∷ S) ≡ cond x 1 0
met-count true S e = ap suc e
met-count false S e = e

one-count : (i k g : ℕ) (S : TupleSet) → g ≡ i + k → count (restrict_from i (eqb g) S) ≡ cond (has S k) 1 0
one-count i k g [] e = refl
one-count i zero g (x ∷ S) e =
    ap (λ (b : Bool). count ((x && b) ∷ restrict_from (suc i) (eqb g) S)) (eq-eqb g i (omega arith))
    ∙ met-count x (restrict_from (suc i) (eqb g) S) (skipped-count (suc i) g S (omega arith))
one-count i (suc k) g (x ∷ S) e =
    ap (λ (b : Bool). count ((x && b) ∷ restrict_from (suc i) (eqb g) S)) (ne_eqb g i (λ q. omega arith))
    ∙ ap (λ (b : Bool). count (b ∷ restrict_from (suc i) (eqb g) S)) (and-false x)
    ∙ one-count (suc i) k g S (omega arith)

-- the tuple with id g alone
pub count-one : (g : ℕ) (S : TupleSet) → count (restrict (eqb g) S) ≡ cond (has S g) 1 0
count-one g S = one-count 0 g g S (sym (zero-add g))

-- ---- Rounds

-- more live tuples only help
abbrev pub Monotone : Rule → Type 0
Monotone rule = (S T : TupleSet) → Inside S T → (g : ℕ) → rule S g ≡ true → rule T g ≡ true

module _ (rule : Rule) where
  rounds-count : (n : ℕ) (S : TupleSet) → count (iterate n (round rule) S) ≤ count S
  rounds-count zero S = omega arith
  rounds-count (suc n) S = omega (arith, rounds-count n (round rule S), restrict_from-count 0 (rule S) S)

  rounds-inside : (n : ℕ) (S : TupleSet) → Inside (iterate n (round rule) S) S
  rounds-inside zero S g h = h
  rounds-inside (suc n) S g h = restrict-inside (rule S) S g (rounds-inside n (round rule S) g h)

  rounds-length : (n : ℕ) (S : TupleSet) → length (iterate n (round rule) S) ≡ length S
  rounds-length zero S = refl
  rounds-length (suc n) S = rounds-length n (round rule S) ∙ restrict-length (rule S) S

  rounds-still : (n : ℕ) (S : TupleSet) → round rule S ≡ S → iterate n (round rule) S ≡ S
  rounds-still zero S e = refl
  rounds-still (suc n) S e = ap (iterate n (round rule)) e ∙ rounds-still n S e

  Still : ℕ → TupleSet → Type 0
  Still n S = round rule (iterate n (round rule) S) ≡ iterate n (round rule) S

  still-suc : (n : ℕ) (S : TupleSet) → count S ≤ suc n → ((X : TupleSet) → count X ≤ n → Still n X) → Dec (count (round rule S) ≡ count S) → Still (suc n) S
  unfolding Still
  still-suc n S h f (yes e) =
      let r : round rule S ≡ S = restrict_from-same 0 (rule S) S e in
      subst (λ (X : TupleSet). round rule X ≡ X) (sym (rounds-still (suc n) S r)) r
  still-suc n S h f (no d) = f (round rule S) (omega (arith, restrict_from-count 0 (rule S) S))

  -- after as many rounds as there are tuples, a round changes nothing
  still : (n : ℕ) (S : TupleSet) → count S ≤ n → Still n S
  unfolding Still
  still zero S h = restrict_from-same 0 (rule S) S (omega (arith, restrict_from-count 0 (rule S) S))
  still (suc n) S h = still-suc n S h (still n) (ℕ_discrete (count (round rule S)) (count S))

  -- ---- The closure

  pub closure-count : (S : TupleSet) → count (closure rule S) ≤ count S
  unfolding closure
  closure-count S = rounds-count (length S) S

  pub closure-inside : (S : TupleSet) → Inside (closure rule S) S
  unfolding closure
  closure-inside S = rounds-inside (length S) S

  pub closure-length : (S : TupleSet) → length (closure rule S) ≡ length S
  unfolding closure
  closure-length S = rounds-length (length S) S

  pub closure-consistent : (S : TupleSet) → Consistent rule (closure rule S)
  unfolding closure Still
  closure-consistent S g h =
      let X = iterate (length S) (round rule) S in
      restrict-test (rule X) X g (ap (λ (Y : TupleSet). has Y g) (still (length S) S (count-length S)) ∙ h)

  -- tuples that may stay whenever all of them live are kept
  module _ (K : ℕ → Type 0) (stay : (X : TupleSet) → ((g : ℕ) → K g → has X g ≡ true) → (g : ℕ) → K g → rule X g ≡ true) where
    rounds-keep : (n : ℕ) (S : TupleSet) → ((g : ℕ) → K g → has S g ≡ true) → (g : ℕ) → K g → has (iterate n (round rule) S) g ≡ true
    rounds-keep zero S h = h
    rounds-keep (suc n) S h = rounds-keep n (round rule S) (λ g k. restrict-intro (rule S) S g (h g k) (stay S h g k))

    pub closure-keeps : (S : TupleSet) → ((g : ℕ) → K g → has S g ≡ true) → (g : ℕ) → K g → has (closure rule S) g ≡ true
    unfolding closure
    closure-keeps S = rounds-keep (length S) S

  module _ (mono : Monotone rule) where
    pub closure-above : (S U : TupleSet) → Consistent rule U → Inside U S → Inside U (closure rule S)
    closure-above S U c h = closure-keeps (λ g. has U g ≡ true) (λ X k g e. mono U X k g (c g e)) S h

    pub closure-largest : (S : TupleSet) → Largest rule S (closure rule S)
    closure-largest S = record { consistent = closure-consistent S; inside = closure-inside S; above = closure-above S }

    -- there is one largest consistent set
    pub largest-unique : (S T : TupleSet) → length T ≡ length S → Largest rule S T → T ≡ closure rule S
    largest-unique S T l m =
        inside-eq T (closure rule S) (l ∙ sym (closure-length S)) (closure-above S T m.consistent m.inside)
        (m.above (closure rule S) (closure-consistent S) (closure-inside S))

    pub closure-mono : (S T : TupleSet) → Inside S T → Inside (closure rule S) (closure rule T)
    closure-mono S T h = closure-above T (closure rule S) (closure-consistent S) (λ g k. h g (closure-inside S g k))

    -- a consistent set is its own closure
    pub closure-of-consistent : (S : TupleSet) → Consistent rule S → closure rule S ≡ S
    closure-of-consistent S c =
        inside-eq (closure rule S) S (closure-length S) (closure-inside S) (closure-above S S c (λ g h. h))

    pub closure-closure : (S : TupleSet) → closure rule (closure rule S) ≡ closure rule S
    closure-closure S = closure-of-consistent (closure rule S) (closure-consistent S)

    -- to close, remove and close again is to remove and close once
    pub closure-without : (t : ℕ → Bool) (S : TupleSet) → closure rule (without t (closure rule S)) ≡ closure rule (without t S)
    closure-without t S =
        inside-eq (closure rule (without t (closure rule S))) (closure rule (without t S))
        (closure-length (without t (closure rule S)) ∙ without-length t (closure rule S) ∙ closure-length S ∙ sym (closure-length (without t S) ∙ without-length t S))
        (closure-mono (without t (closure rule S)) (without t S)
        (λ g h. restrict-intro p S g (closure-inside S g (restrict-inside p (closure rule S) g h)) (restrict-test p (closure rule S) g h)))
        (closure-above (without t (closure rule S)) (closure rule (without t S)) (closure-consistent (without t S))
        (λ g h. restrict-intro p (closure rule S) g (closure-mono (without t S) S (restrict-inside p S) g h) (restrict-test p S g (closure-inside (without t S) g h))))
      where
        p : ℕ → Bool
        p g = not (t g)
