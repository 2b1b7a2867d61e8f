-- Tests over lists against membership, the choices of one element from each list, sums over parts of a list, and lists written from the front.
use mathlib.Core.Path.{◌≡◌, refl, sym, ◌∙◌, ap, ap₂, subst}
use mathlib.Core.Bool.{Bool, true, false, ◌&&◌, ◌||◌, cond, false≢true, true≢false, and-false, and_assoc}
use mathlib.Core.Option
use mathlib.Core.Option.{Option, none, some, or_else, some-injective, none-ne-some, some-ne-none}
use mathlib.Core.List.Memᴰ
use mathlib.Core.List.{List, [], ◌∷◌, ◌++◌, map, map-map, map-append, append_assoc, head?, Memᴰ}
use mathlib.Core.Logic.{◌⊎◌, inl, inr, ⊎_elim}
use Prim.Native.Nat.{ℕ, zero, suc, ◌+◌, ◌*◌, ◌-◌, ◌≤◌, ◌<◌}
use native.Mathlib.Numerals.{add-one}
use native.Mathlib.Omega.{arith}
use native.Mathlib.Decide.{ℕ_discrete, dec_lt}
use native.Mathlib.Nat.{add-zero, zero-add, add-suc, suc-add, zero-mul, suc-mul, add-mul, mul-le-mul_right, le_of_suc-le-suc}
use lib.Dec.{ltb, eqb}
use lib.ListN.{length, get_or, set, take, drop, length-map, length-drop, length-append}
use lib.Seq.{get_or-set_same, get_or-set_other, take_all, length-take-le, take_at, drop-append-add, drop-append-le, take-append-le, drop-cons}
use borrow.Author.Tests.{eqb-true, eq-eqb, ltb-true, lt-ltb, ne_eqb, le-ltb}
use Rattle.model.specs.Lists.{all, any, elem, from, sum, select, keep_if, first_or, empty, Permutation, bare, ahead, swapped, further, pairwise, choices, prefixed, earlier, each, is_none, lesser, least}
use Rattle.model.proofs.Bools.{and_left, and_right, and_intro, or_left, or_right, or_cases, iff-eq, not-both}

module _ {ℓ} {A : Type ℓ} where
  pub here : {x : A} {xs : List A} → Memᴰ x (x ∷ xs)
  here = Memᴰ.head refl

  pub all_more : (p q : A → Bool) (xs : List A) → ((x : A) → p x ≡ true → q x ≡ true) → all p xs ≡ true → all q xs ≡ true
  all_more p q [] f e = refl
  all_more p q (x ∷ xs) f e = and_intro (f x (and_left (p x) (all p xs) e)) (all_more p q xs f (and_right (p x) (all p xs) e))

  pub any-more : (p q : A → Bool) (xs : List A) → ((x : A) → p x ≡ true → q x ≡ true) → any p xs ≡ true → any q xs ≡ true
  any-more p q [] f e = e
  any-more p q (x ∷ xs) f e = ⊎_elim (λ h. or_left (any q xs) (f x h)) (λ h. or_right (q x) (any-more p q xs f h)) (or_cases (p x) (any p xs) e)

  pub all-at : (p : A → Bool) {x : A} (xs : List A) → all p xs ≡ true → Memᴰ x xs → p x ≡ true
  all-at p [] e m = absurd (Memᴰ.not-nil m)
  all-at p {x} (y ∷ xs) e m =
      ⊎_elim (λ h. ap p h ∙ and_left (p y) (all p xs) e) (λ h. all-at p xs (and_right (p y) (all p xs) e) h) (Memᴰ.cases_cons m)

  pub all-intro : (p : A → Bool) (xs : List A) → ((x : A) → Memᴰ x xs → p x ≡ true) → all p xs ≡ true
  all-intro p [] f = refl
  all-intro p (x ∷ xs) f = and_intro (f x here) (all-intro p xs (λ y m. f y (Memᴰ.tail m)))

  pub all_get_d : (p : A → Bool) (xs : List A) (k : ℕ) (d : A) → all p xs ≡ true → k < length xs → p (get_or xs k d) ≡ true
  all_get_d p [] k d e h = absurd (omega arith)
  all_get_d p (x ∷ xs) zero d e h = and_left (p x) (all p xs) e
  all_get_d p (x ∷ xs) (suc k) d e h = all_get_d p xs k d (and_right (p x) (all p xs) e) (le_of_suc-le-suc h)

  -- what stands at a place is in the list
  pub get_d-mem : (xs : List A) (k : ℕ) (d : A) → k < length xs → Memᴰ (get_or xs k d) xs
  get_d-mem [] k d h = absurd (omega arith)
  get_d-mem (x ∷ xs) zero d h = here
  get_d-mem (x ∷ xs) (suc k) d h = Memᴰ.tail (get_d-mem xs k d (le_of_suc-le-suc h))

  -- what is in a list stands at some place
  pub mem-get_d : (xs : List A) {x : A} (d : A) → Memᴰ x xs → (k : ℕ) × (k < length xs) × (get_or xs k d ≡ x)
  mem-get_d [] d m = absurd (Memᴰ.not-nil m)
  mem-get_d (y ∷ xs) {x} d m =
      ⊎_elim
      {C = (k : ℕ) × (k < length (y ∷ xs)) × (get_or (y ∷ xs) k d ≡ x)}
      (λ e. (0, omega arith, sym e))
      (λ h. let r = mem-get_d xs d h in (suc r.0, omega (arith, r.1), r.2))
      (Memᴰ.cases_cons m)

  pub all_append : (p : A → Bool) (xs ys : List A) → all p xs ≡ true → all p ys ≡ true → all p (xs ++ ys) ≡ true
  all_append p [] ys e f = f
  all_append p (x ∷ xs) ys e f = and_intro (and_left (p x) (all p xs) e) (all_append p xs ys (and_right (p x) (all p xs) e) f)

  pub all-of-append : (p : A → Bool) (xs ys : List A) → all p (xs ++ ys) ≡ (all p xs && all p ys)
  all-of-append p [] ys = refl
  all-of-append p (x ∷ xs) ys = ap (λ (b : Bool). p x && b) (all-of-append p xs ys) ∙ sym (and_assoc (p x) (all p xs) (all p ys))

  pub any_at : (p : A → Bool) (xs : List A) → any p xs ≡ true → (x : A) × Memᴰ x xs × (p x ≡ true)
  any_at p [] e = absurd (false≢true e)
  any_at p (x ∷ xs) e = ⊎_elim (λ h. (x, here, h)) (λ h. let r = any_at p xs h in (r.0, Memᴰ.tail r.1, r.2)) (or_cases (p x) (any p xs) e)

  pub any-intro : (p : A → Bool) {x : A} (xs : List A) → Memᴰ x xs → p x ≡ true → any p xs ≡ true
  any-intro p [] m e = absurd (Memᴰ.not-nil m)
  any-intro p {x} (y ∷ xs) m e =
      ⊎_elim (λ h. or_left (any p xs) (sym (ap p h) ∙ e)) (λ h. or_right (p y) (any-intro p xs h e)) (Memᴰ.cases_cons m)

  -- where the test does not hold of all, it fails of one
  pub all-not : (p : A → Bool) (xs : List A) → all p xs ≡ false → (x : A) × Memᴰ x xs × (p x ≡ false)
  all-not p [] e = absurd (true≢false e)
  all-not p (x ∷ xs) e = either (p x) refl e (all-not p xs)
    where
      either : (b : Bool) → p x ≡ b → (b && all p xs) ≡ false → (all p xs ≡ false → (y : A) × Memᴰ y xs × (p y ≡ false)) → (y : A) × Memᴰ y (x ∷ xs) × (p y ≡ false)
      either true q e rest = let k = rest e in (k.0, Memᴰ.tail k.1, k.2)
      either false q e rest = (x, here, q)

  pub pairwise-intro : (r : A → A → Bool) (xs : List A) → ((x y : A) → Memᴰ x xs → Memᴰ y xs → r x y ≡ true) → pairwise r xs ≡ true
  pairwise-intro r [] f = refl
  pairwise-intro r (x ∷ xs) f = and_intro (all-intro (r x) xs (λ y m. f x y here (Memᴰ.tail m))) (pairwise-intro r xs (λ y z m n. f y z (Memᴰ.tail m) (Memᴰ.tail n)))

  pub pairwise_append : (r : A → A → Bool) (xs ys : List A) → pairwise r xs ≡ true → pairwise r ys ≡ true → ((x y : A) → Memᴰ x xs → Memᴰ y ys → r x y ≡ true) → pairwise r (xs ++ ys) ≡ true
  pairwise_append r [] ys p q f = q
  pairwise_append r (x ∷ xs) ys p q f =
      and_intro
      (all_append (r x) xs ys (and_left (all (r x) xs) (pairwise r xs) p) (all-intro (r x) ys (λ y m. f x y here m)))
      (pairwise_append r xs ys (and_right (all (r x) xs) (pairwise r xs) p) q (λ y z m n. f y z (Memᴰ.tail m) n))

  -- of two places, the earlier one's element is in the relation to the later one's
  pub pairwise-get_d : (r : A → A → Bool) (xs : List A) (i j : ℕ) (d : A) → pairwise r xs ≡ true → i < j → j < length xs → r (get_or xs i d) (get_or xs j d) ≡ true
  pairwise-get_d r [] i j d p h l = absurd (omega arith)
  pairwise-get_d r (x ∷ xs) i zero d p h l = absurd (omega arith)
  pairwise-get_d r (x ∷ xs) zero (suc j) d p h l = all_get_d (r x) xs j d (and_left (all (r x) xs) (pairwise r xs) p) (le_of_suc-le-suc l)
  pairwise-get_d r (x ∷ xs) (suc i) (suc j) d p h l = pairwise-get_d r xs i j d (and_right (all (r x) xs) (pairwise r xs) p) (le_of_suc-le-suc h) (le_of_suc-le-suc l)

  -- what stands before stands in the relation to all that stands after
  pub pairwise-after : (r : A → A → Bool) (xs : List A) (t : A) (ys : List A) → pairwise r (xs ++ (t ∷ ys)) ≡ true → all (r t) ys ≡ true
  pairwise-after r [] t ys p = and_left (all (r t) ys) (pairwise r ys) p
  pairwise-after r (x ∷ xs) t ys p = pairwise-after r xs t ys (and_right (all (r x) (xs ++ (t ∷ ys))) (pairwise r (xs ++ (t ∷ ys))) p)

  -- what stands in the first part is in the relation to what stands in the second
  pub pairwise-cross : (r : A → A → Bool) (xs ys : List A) {x y : A} → pairwise r (xs ++ ys) ≡ true → Memᴰ x xs → Memᴰ y ys → r x y ≡ true
  pairwise-cross r [] ys p m n = absurd (Memᴰ.not-nil m)
  pairwise-cross r (z ∷ xs) ys {y = y} p m n =
      ⊎_elim
      (λ e. ap (λ (x : A). r x y) e ∙ all-at (r z) (xs ++ ys) (and_left (all (r z) (xs ++ ys)) (pairwise r (xs ++ ys)) p) (Memᴰ.append_right xs n))
      (λ h. pairwise-cross r xs ys (and_right (all (r z) (xs ++ ys)) (pairwise r (xs ++ ys)) p) h n)
      (Memᴰ.cases_cons m)

  -- two different elements are in the relation, if it is symmetric
  pub pairwise-at : (r : A → A → Bool) → ((x y : A) → r x y ≡ r y x) → (xs : List A) {x y : A} → pairwise r xs ≡ true → Memᴰ x xs → Memᴰ y xs → (x ≡ y → ⊥) → r x y ≡ true
  pairwise-at r s [] p m n d = absurd (Memᴰ.not-nil m)
  pairwise-at r s (z ∷ xs) {x} {y} p m n d =
      let first = and_left (all (r z) xs) (pairwise r xs) p in
      ⊎_elim
      (λ ex. ⊎_elim (λ ey. absurd (d (ex ∙ sym ey))) (λ hy. ap (λ (w : A). r w y) ex ∙ all-at (r z) xs first hy) (Memᴰ.cases_cons n))
      (λ hx. ⊎_elim
      (λ ey. s x y ∙ ap (λ (w : A). r w x) ey ∙ all-at (r z) xs first hx)
      (λ hy. pairwise-at r s xs (and_right (all (r z) xs) (pairwise r xs) p) hx hy d)
      (Memᴰ.cases_cons n))
      (Memᴰ.cases_cons m)

  -- one element of each list
  pub data Picks : List (List A) → List A → Type ℓ where
    done : Picks [] []
    pick : {x : A} {xs : List A} {xss : List (List A)} {t : List A} → Memᴰ x xs → Picks xss t → Picks (xs ∷ xss) (x ∷ t)

  of-prefixed : (xs : List A) (ts : List (List A)) {t : List A} → Memᴰ t (prefixed xs ts) → (x : A) × (r : List A) × Memᴰ x xs × Memᴰ r ts × (x ∷ r ≡ t)
  of-prefixed [] ts m = absurd (Memᴰ.not-nil m)
  of-prefixed (x ∷ xs) ts m =
      ⊎_elim
      (λ h. let k = Memᴰ.of_map (λ (t : List A). x ∷ t) ts h in (x, k.0, here, k.1, k.2))
      (λ h. let k = of-prefixed xs ts h in (k.0, k.1, Memᴰ.tail k.2, k.3, k.4))
      (Memᴰ.append_cases (map (λ (t : List A). x ∷ t) ts) m)

  pub choices-picks : (xss : List (List A)) {t : List A} → Memᴰ t (choices xss) → Picks xss t
  choices-picks [] m = subst (Picks []) (sym (Memᴰ.eq_of_singleton m)) done
  choices-picks (xs ∷ xss) m = let k = of-prefixed xs (choices xss) m in subst (Picks (xs ∷ xss)) k.4 (pick k.2 (choices-picks xss k.3))

  in-prefixed : {x : A} {r : List A} (xs : List A) (ts : List (List A)) → Memᴰ x xs → Memᴰ r ts → Memᴰ (x ∷ r) (prefixed xs ts)
  in-prefixed [] ts m n = absurd (Memᴰ.not-nil m)
  in-prefixed {x} {r} (y ∷ xs) ts m n =
      ⊎_elim
      (λ h. Memᴰ.append_left (prefixed xs ts) (Memᴰ.cast (ap (λ (z : A). z ∷ r) h) (Memᴰ.map (λ (t : List A). y ∷ t) n)))
      (λ h. Memᴰ.append_right (map (λ (t : List A). y ∷ t) ts) (in-prefixed xs ts h n))
      (Memᴰ.cases_cons m)

  pub picks-choices : {xss : List (List A)} {t : List A} → Picks xss t → Memᴰ t (choices xss)
  picks-choices done = Memᴰ.head refl
  picks-choices (pick {xs} {xss} m p) = in-prefixed xs (choices xss) m (picks-choices p)

  pub picks-length : {xss : List (List A)} {t : List A} → Picks xss t → length t ≡ length xss
  picks-length done = refl
  picks-length (pick m p) = ap suc (picks-length p)

  -- the element at a place
  pub picks_at : {xss : List (List A)} {t : List A} → Picks xss t → (j : ℕ) (d : A) → j < length xss → Memᴰ (get_or t j d) t × Memᴰ (get_or t j d) (get_or xss j [])
  picks_at done j d h = absurd (omega arith)
  picks_at (pick m p) zero d h = (here, m)
  picks_at (pick m p) (suc j) d h = let k = picks_at p j d (le_of_suc-le-suc h) in (Memᴰ.tail k.0, k.1)

  pub picks-append : {xss yss : List (List A)} {t u : List A} → Picks xss t → Picks yss u → Picks (xss ++ yss) (t ++ u)
  picks-append done q = q
  picks-append (pick m p) q = pick m (picks-append p q)

-- ---- Permutations

or_swap : (a b c : Bool) → (a || (b || c)) ≡ (b || (a || c))
or_swap true true c = refl
or_swap true false c = refl
or_swap false b c = refl

and-swap : (a b c : Bool) → (a && (b && c)) ≡ (b && (a && c))
and-swap true b c = refl
and-swap false true c = refl
and-swap false false c = refl

-- tests do not look at the order
module _ {A : Type 0} where
  pub any-permuted : (p : A → Bool) {xs ys : List A} → Permutation xs ys → any p xs ≡ any p ys
  any-permuted p bare = refl
  any-permuted p (ahead {x} h) = ap (λ (b : Bool). p x || b) (any-permuted p h)
  any-permuted p (swapped {x} {y} {xs}) = or_swap (p x) (p y) (any p xs)
  any-permuted p (further h k) = any-permuted p h ∙ any-permuted p k

  pub all-permuted : (p : A → Bool) {xs ys : List A} → Permutation xs ys → all p xs ≡ all p ys
  all-permuted p bare = refl
  all-permuted p (ahead {x} h) = ap (λ (b : Bool). p x && b) (all-permuted p h)
  all-permuted p (swapped {x} {y} {xs}) = and-swap (p x) (p y) (all p xs)
  all-permuted p (further h k) = all-permuted p h ∙ all-permuted p k

  pub empty-permuted : {xs ys : List A} → Permutation xs ys → empty xs ≡ empty ys
  empty-permuted bare = refl
  empty-permuted (ahead h) = refl
  empty-permuted swapped = refl
  empty-permuted (further h k) = empty-permuted h ∙ empty-permuted k

-- ---- Selection

-- tests that say the same of the list's elements select the same
pub select-cong {ℓ} : {A : Type ℓ} (p q : A → Bool) (xs : List A) → ((x : A) → Memᴰ x xs → p x ≡ q x) → select p xs ≡ select q xs
select-cong p q [] f = refl
select-cong p q (x ∷ xs) f = ap (λ b. keep_if b x (select p xs)) (f x here) ∙ ap (keep_if (q x) x) (select-cong p q xs (λ y m. f y (Memᴰ.tail m)))

keep-map {ℓ κ} : {A : Type ℓ} {B : Type κ} (f : A → B) (b : Bool) (x : A) (xs : List A) → keep_if b (f x) (map f xs) ≡ map f (keep_if b x xs)
keep-map f true x xs = refl
keep-map f false x xs = refl

-- of images, those of the elements whose images pass
pub select-map {ℓ κ} : {A : Type ℓ} {B : Type κ} (p : B → Bool) (f : A → B) (xs : List A) → select p (map f xs) ≡ map f (select (λ (x : A). p (f x)) xs)
select-map p f [] = refl
select-map {A = A} p f (x ∷ xs) = ap (keep_if (p (f x)) (f x)) (select-map p f xs) ∙ keep-map f (p (f x)) x (select (λ (y : A). p (f y)) xs)

module _ {ℓ} {A : Type ℓ} where
  pub head-append : (xs ys : List A) → head? (xs ++ ys) ≡ or_else (head? xs) (head? ys)
  unfolding or_else
  head-append [] ys = refl
  head-append (x ∷ xs) ys = refl

  -- the first element is in the list, and where there is none, nothing is
  pub head-mem : (xs : List A) {x : A} → head? xs ≡ some x → Memᴰ x xs
  head-mem [] {x} e = absurd (none-ne-some x e)
  head-mem (y ∷ xs) {x} e = Memᴰ.head (sym (some-injective y x e))

  pub head-none : (xs : List A) {x : A} → head? xs ≡ none → Memᴰ x xs → ⊥
  head-none [] e m = Memᴰ.not-nil m
  head-none (y ∷ xs) e m = some-ne-none y e

  pub first_or-head : (d : A) (xs : List A) → first_or d xs ≡ Option.get_or (head? xs) d
  first_or-head d [] = refl
  first_or-head d (x ∷ xs) = refl

module _ {ℓ} {A : Type ℓ} (p : A → Bool) where
  keep_if-append : (b : Bool) (x : A) (xs ys : List A) → keep_if b x (xs ++ ys) ≡ keep_if b x xs ++ ys
  keep_if-append true x xs ys = refl
  keep_if-append false x xs ys = refl

  pub select-append : (xs ys : List A) → select p (xs ++ ys) ≡ select p xs ++ select p ys
  select-append [] ys = refl
  select-append (x ∷ xs) ys = ap (keep_if (p x) x) (select-append xs ys) ∙ keep_if-append (p x) x (select p xs) (select p ys)

  -- all is selected where all passes
  pub select-all : (xs : List A) → all p xs ≡ true → select p xs ≡ xs
  select-all [] e = refl
  select-all (x ∷ xs) e =
      ap (λ (b : Bool). keep_if b x (select p xs)) (and_left (p x) (all p xs) e)
      ∙ ap {B = List A} (λ t. x ∷ t) (select-all xs (and_right (p x) (all p xs) e))

  keep_if-mem : (y : A) (xs : List A) {x : A} → (Memᴰ x (select p xs) → Memᴰ x xs × (p x ≡ true)) → (v : Bool) → p y ≡ v → Memᴰ x (keep_if v y (select p xs)) → Memᴰ x (y ∷ xs) × (p x ≡ true)
  keep_if-mem y xs f true e m =
      ⊎_elim (λ q. (Memᴰ.head q, ap p q ∙ e)) (λ h. (Memᴰ.tail (f h).0, (f h).1)) (Memᴰ.cases_cons m)
  keep_if-mem y xs f false e m = (Memᴰ.tail (f m).0, (f m).1)

  -- what is selected is in the list and passes
  pub select-mem : (xs : List A) {x : A} → Memᴰ x (select p xs) → Memᴰ x xs × (p x ≡ true)
  select-mem [] m = absurd (Memᴰ.not-nil m)
  select-mem (y ∷ xs) m = keep_if-mem y xs (select-mem xs) (p y) refl m

  keep_if-more : (b : Bool) (y : A) {x : A} (ys : List A) → Memᴰ x ys → Memᴰ x (keep_if b y ys)
  keep_if-more true y ys m = Memᴰ.tail m
  keep_if-more false y ys m = m

  keep_if-here : (b : Bool) {x : A} (y : A) (ys : List A) → x ≡ y → b ≡ true → Memᴰ x (keep_if b y ys)
  keep_if-here true y ys q e = Memᴰ.head q
  keep_if-here false y ys q e = absurd (false≢true e)

  -- what is in the list and passes is selected
  pub mem-select : (xs : List A) {x : A} → Memᴰ x xs → p x ≡ true → Memᴰ x (select p xs)
  mem-select [] m e = absurd (Memᴰ.not-nil m)
  mem-select (y ∷ xs) m e =
      ⊎_elim
      (λ q. keep_if-here (p y) y (select p xs) q (sym (ap p q) ∙ e))
      (λ h. keep_if-more (p y) y (select p xs) (mem-select xs h e))
      (Memᴰ.cases_cons m)

  keep_if-none : (y : A) (ys : List A) (v : Bool) → (v ≡ true → ⊥) → ys ≡ [] → keep_if v y ys ≡ []
  keep_if-none y ys true f e = absurd (f refl)
  keep_if-none y ys false f e = e

  -- nothing is selected where nothing passes
  pub select-none : (xs : List A) → ((x : A) → Memᴰ x xs → p x ≡ true → ⊥) → select p xs ≡ []
  select-none [] f = refl
  select-none (y ∷ xs) f = keep_if-none y (select p xs) (p y) (f y here) (select-none xs (λ x m. f x (Memᴰ.tail m)))

  -- The list is cut at its first element that passes.
  pub record Cut (xs : List A) : Type ℓ where
    pub before : List A
    pub at : A
    pub after : List A
    pub whole : xs ≡ before ++ (at ∷ after)
    pub none_before : (x : A) → Memᴰ x before → p x ≡ false
    pub passes : p at ≡ true

  cut-keep : (y : A) (xs : List A) → (any p xs ≡ true → (c : Cut xs) × (select p xs ≡ c.at ∷ select p c.after)) → (v : Bool) → p y ≡ v → (v || any p xs) ≡ true → (c : Cut (y ∷ xs)) × (keep_if v y (select p xs) ≡ c.at ∷ select p c.after)
  cut-keep y xs f true e h =
      (record { before = []; at = y; after = xs; whole = refl; none_before = λ x m. absurd (Memᴰ.not-nil m); passes = e }, refl)
  cut-keep y xs f false e h =
      let k = f h in
      let c = k.0 in (
        record {
          before = y ∷ c.before;
          at = c.at;
          after = c.after;
          whole = ap {B = List A} (λ t. y ∷ t) c.whole;
          none_before = λ x m. ⊎_elim (λ q. ap p q ∙ e) (λ n. c.none_before x n) (Memᴰ.cases_cons m);
          passes = c.passes;
        },
        k.1,
      )

  -- the first element selected is the first that passes
  pub select-cut : (xs : List A) → any p xs ≡ true → (c : Cut xs) × (select p xs ≡ c.at ∷ select p c.after)
  select-cut [] h = absurd (false≢true h)
  select-cut (y ∷ xs) h = cut-keep y xs (select-cut xs) (p y) refl h

-- ---- Numbers

pub eqb-sym : (a b : ℕ) → eqb a b ≡ eqb b a
eqb-sym a b = iff-eq (eqb a b) (eqb b a) (λ h. eq-eqb b a (sym (eqb-true a b h))) (λ h. eq-eqb a b (sym (eqb-true b a h)))

pub elem_mem : (x : ℕ) (xs : List ℕ) → elem x xs ≡ true → Memᴰ x xs
elem_mem x xs e = let k = any_at (eqb x) xs e in Memᴰ.cast (eqb-true x k.0 k.2) k.1

pub mem-elem : {x : ℕ} (xs : List ℕ) → Memᴰ x xs → elem x xs ≡ true
mem-elem {x} xs m = any-intro (eqb x) xs m (eq-eqb x x refl)

-- ---- The least element

pub is_none-none : (o : Option ℕ) → is_none o ≡ true → o ≡ none
is_none-none none e = refl
is_none-none (some n) e = absurd (false≢true e)

pub is_none-some : (o : Option ℕ) → is_none o ≡ false → (n : ℕ) × (o ≡ some n)
is_none-some none e = absurd (true≢false e)
is_none-some (some n) e = (n, refl)

pub lesser-cases : (x : ℕ) (o : Option ℕ) → (lesser x o ≡ x) ⊎ (o ≡ some (lesser x o))
lesser-cases x none = inl refl
lesser-cases x (some y) = go (ltb y x)
  where
    go : (b : Bool) → (cond b y x ≡ x) ⊎ (some y ≡ some (cond b y x))
    go true = inr refl
    go false = inl refl

pub lesser-below : (x : ℕ) (o : Option ℕ) → (lesser x o ≤ x) × ((y : ℕ) → o ≡ some y → lesser x o ≤ y)
lesser-below x none = (omega arith, λ y e. absurd (none-ne-some _ e))
lesser-below x (some y) = go (dec_lt y x)
  where
    go : Dec (y < x) → (lesser x (some y) ≤ x) × ((z : ℕ) → some y ≡ some z → lesser x (some y) ≤ z)
    go (yes h) = rw (lt-ltb y x h) (omega arith, λ z e. let q = some-injective y z e in omega arith)
    go (no h) = rw (le-ltb y x (omega arith)) (omega arith, λ z e. let q = some-injective y z e in omega arith)

pub least-mem : (xs : List ℕ) {x : ℕ} → least xs ≡ some x → Memᴰ x xs
least-mem [] e = absurd (none-ne-some _ e)
least-mem (y ∷ xs) e =
    Memᴰ.cast (sym (some-injective _ _ e))
    (⊎_elim (λ q. Memᴰ.head q) (λ q. Memᴰ.tail (least-mem xs q)) (lesser-cases y (least xs)))

pub least-none : (xs : List ℕ) {x : ℕ} → least xs ≡ none → Memᴰ x xs → ⊥
least-none [] e m = Memᴰ.not-nil m
least-none (y ∷ xs) e m = some-ne-none _ e

pub least-below : (xs : List ℕ) {x y : ℕ} → least xs ≡ some x → Memᴰ y xs → x ≤ y
least-below [] e m = absurd (Memᴰ.not-nil m)
least-below (z ∷ xs) {x} {y} e m =
    ⊎_elim
    (λ q. omega (arith, q, some-injective _ _ e, (lesser-below z (least xs)).0))
    (λ n. tail (least xs) refl n (λ w q. least-below xs q n))
    (Memᴰ.cases_cons m)
  where
    tail : (o : Option ℕ) → least xs ≡ o → Memᴰ y xs → ((w : ℕ) → least xs ≡ some w → w ≤ y) → x ≤ y
    tail none q n below = absurd (least-none xs q n)
    tail (some w) q n below = omega (arith, some-injective _ _ e, (lesser-below z (least xs)).1 w q, below w q)

-- an element that no other is below is the least
pub least-is : (xs : List ℕ) (x : ℕ) → Memᴰ x xs → ((y : ℕ) → Memᴰ y xs → x ≤ y) → least xs ≡ some x
least-is xs x m f = go (least xs) refl
  where
    go : (o : Option ℕ) → least xs ≡ o → least xs ≡ some x
    go none e = absurd (least-none xs e m)
    go (some w) e = let q : w ≡ x = omega (arith, least-below xs e m, f w (least-mem xs e)) in e ∙ ap some q

pub none-least : (xs : List ℕ) → ((y : ℕ) → Memᴰ y xs → ⊥) → least xs ≡ none
none-least [] f = refl
none-least (x ∷ xs) f = absurd (f x here)

pub from-mem : (i n g : ℕ) → Memᴰ g (from i n) → (i ≤ g) × (g < i + n)
from-mem i zero g m = absurd (Memᴰ.not-nil m)
from-mem i (suc n) g m =
    ⊎_elim
    {C = (i ≤ g) × (g < i + suc n)}
    (λ e. omega arith)
    (λ h. let k = from-mem (suc i) n g h in omega arith)
    (Memᴰ.cases_cons m)

mem-from-suc : (i n g : ℕ) → i ≤ g → g < i + suc n → (suc i ≤ g → g < suc i + n → Memᴰ g (from (suc i) n)) → Dec (g ≡ i) → Memᴰ g (from i (suc n))
mem-from-suc i n g h k f (yes e) = Memᴰ.head e
mem-from-suc i n g h k f (no d) = Memᴰ.tail (f (omega arith) (omega arith))

pub mem-from : (i n g : ℕ) → i ≤ g → g < i + n → Memᴰ g (from i n)
mem-from i zero g h k = absurd (omega arith)
mem-from i (suc n) g h k = mem-from-suc i n g h k (mem-from (suc i) n g) (ℕ_discrete g i)

-- the numbers from i on and below end, by the first of them
pub from_cons : (i end : ℕ) → i < end → from i (end - i) ≡ i ∷ from (i + 1) (end - (i + 1))
from_cons i end h = let e : end - i ≡ suc (end - (i + 1)) = omega arith in rw (e, add-one)

pub length_from : (i n : ℕ) → length (from i n) ≡ n
length_from i zero = refl
length_from i (suc n) = ap suc (length_from (suc i) n)

pub from-append : (i m n : ℕ) → from i (m + n) ≡ from i m ++ from (i + m) n
from-append i zero n = simp (zero-add, add-zero)
from-append i (suc m) n =
    let e : suc i + m ≡ i + suc m = omega arith in
    rw suc-add (ap {B = List ℕ} (λ t. i ∷ t) (from-append (suc i) m n ∙ ap (λ (k : ℕ). from (suc i) m ++ from k n) e))

pub get_d-map-from {ℓ} : {A : Type ℓ} (f : ℕ → A) (i n k : ℕ) (d : A) → k < n → get_or (map f (from i n)) k d ≡ f (i + k)
get_d-map-from f i zero k d h = absurd (omega arith)
get_d-map-from f i (suc n) zero d h = rw add-zero
get_d-map-from f i (suc n) (suc k) d h = get_d-map-from f (suc i) n k d (le_of_suc-le-suc h) ∙ ap f (suc-add i k ∙ sym (add-suc i k))

pub from-shift : (a i n : ℕ) → from (a + i) n ≡ map (λ (j : ℕ). a + j) (from i n)
from-shift a i zero = refl
from-shift a i (suc n) = ap {B = List ℕ} (λ t. (a + i) ∷ t) (ap (λ (k : ℕ). from k n) (sym (add-suc a i)) ∙ from-shift a (suc i) n)

pub map-from-shift : {A : Type 0} (f : ℕ → A) (a i n : ℕ) → map f (from (a + i) n) ≡ map (λ (j : ℕ). f (a + j)) (from i n)
map-from-shift f a i n = ap (map f) (from-shift a i n) ∙ map-map f (λ (j : ℕ). a + j) (from i n)

-- functions that give the same on a range
pub map-from-same {ℓ} : {A : Type ℓ} (f g : ℕ → A) (i n : ℕ) → ((j : ℕ) → i ≤ j → j < i + n → f j ≡ g j) → map f (from i n) ≡ map g (from i n)
map-from-same f g i zero h = refl
map-from-same {A = A} f g i (suc n) h =
    ap {B = List A} (λ x. x ∷ map f (from (suc i) n)) (h i (omega arith) (omega arith))
    ∙ ap {B = List A} (λ t. g i ∷ t) (map-from-same f g (suc i) n (λ j a b. h j (omega arith) (omega arith)))

-- The first number from i on that passes, and end where none does.
pub record First (p : ℕ → Bool) (i end x : ℕ) : Type 0 where
  pub from-i : i ≤ x
  pub to_end : x ≤ end
  pub none_before : (k : ℕ) → i ≤ k → k < x → p k ≡ false
  pub passes : x < end → p x ≡ true

first-keep : (p : ℕ → Bool) (i n end x : ℕ) → end ≡ i + suc n → First p (suc i) end x → (b : Bool) → p i ≡ b → First p i end (first_or end (keep_if b i (x ∷ [])))
first-keep p i n end x e f true q =
    record { from-i = omega arith; to_end = omega arith; none_before = λ k h l. absurd (omega arith); passes = λ _. q }
first-keep p i n end x e f false q =
    record { from-i = omega (arith, f.from-i); to_end = f.to_end; none_before = λ k h l. before k h l (ℕ_discrete k i); passes = f.passes }
  where
    before : (k : ℕ) → i ≤ k → k < x → Dec (k ≡ i) → p k ≡ false
    before k h l (yes c) = ap p c ∙ q
    before k h l (no d) = f.none_before k (omega arith) l

first_or-keep_if : (b : Bool) (d i : ℕ) (xs : List ℕ) → first_or d (keep_if b i (first_or d xs ∷ [])) ≡ first_or d (keep_if b i xs)
first_or-keep_if true d i xs = refl
first_or-keep_if false d i xs = refl

-- the first number selected from a range is the first that passes
pub select-from : (p : ℕ → Bool) (i n end : ℕ) → end ≡ i + n → First p i end (first_or end (select p (from i n)))
select-from p i zero end e =
    record { from-i = omega arith; to_end = omega arith; none_before = λ k h l. absurd (omega arith); passes = λ h. absurd (omega arith) }
select-from p i (suc n) end e =
    subst (First p i end) (first_or-keep_if (p i) end i (select p (from (suc i) n)))
    (first-keep p i n end (first_or end (select p (from (suc i) n))) e (select-from p (suc i) n end (omega arith)) (p i) refl)

-- there is one such number
pub first-unique : (p : ℕ → Bool) (i end x y : ℕ) → First p i end x → First p i end y → x ≡ y
first-unique p i end x y f g = apart (dec_lt x y) (dec_lt y x)
  where
    apart : Dec (x < y) → Dec (y < x) → x ≡ y
    apart (yes h) l = absurd (not-both (f.passes (omega (arith, g.to_end))) (g.none_before x f.from-i h))
    apart (no h) (yes l) = absurd (not-both (g.passes (omega (arith, f.to_end))) (f.none_before y g.from-i l))
    apart (no h) (no l) = omega arith

-- the numbers that pass begin with it
pub select-first : (p : ℕ → Bool) (i end x : ℕ) → First p i end x → x < end → select p (from i (end - i)) ≡ x ∷ select p (from (x + 1) (end - (x + 1)))
select-first p i end x f h =
    let e : end - i ≡ (x - i) + (end - x) = omega (arith, f.from-i, f.to_end) in
    let e' : i + (x - i) ≡ x = omega (arith, f.from-i) in
    let rest = from (i + (x - i)) (end - x) in
    ap (λ (n : ℕ). select p (from i n)) e
    ∙ ap (select p) (from-append i (x - i) (end - x))
    ∙ select-append p (from i (x - i)) rest
    ∙ ap (λ (ys : List ℕ). ys ++ select p rest) (select-none p (from i (x - i)) (λ k m q. not-both q (f.none_before k (from-mem i (x - i) k m).0 (omega (arith, from-mem i (x - i) k m, f.from-i)))))
    ∙ ap (λ (k : ℕ). select p (from k (end - x))) e'
    ∙ ap (select p) (from_cons x end h)
    ∙ ap (λ (b : Bool). keep_if b x (select p (from (x + 1) (end - (x + 1))))) (f.passes h)

-- .. or there are none
pub select-past : (p : ℕ → Bool) (i end x : ℕ) → First p i end x → end ≤ x → select p (from i (end - i)) ≡ []
select-past p i end x f h =
    select-none p (from i (end - i)) (λ k m q. not-both q (f.none_before k (from-mem i (end - i) k m).0 (omega (arith, from-mem i (end - i) k m, f.from-i, f.to_end))))

-- some number of a range passes exactly if the first that passes lies in it
pub any-first : (p q : ℕ → Bool) (i n end x : ℕ) → end ≡ i + n → ((k : ℕ) → i ≤ k → k < end → q k ≡ p k) → First p i end x → any q (from i n) ≡ ltb x end
any-first p q i n end x e same f =
    iff-eq (any q (from i n)) (ltb x end)
    (λ h. let k = any_at q (from i n) h in let l = from-mem i n k.0 k.1 in lt-ltb x end (inside k.0 l.0 (omega arith) k.2 (dec_lt x end)))
    (λ h. let l = ltb-true x end h in any-intro q (from i n) (mem-from i n x f.from-i (omega arith)) (same x f.from-i l ∙ f.passes l))
  where
    inside : (k : ℕ) → i ≤ k → k < end → q k ≡ true → Dec (x < end) → x < end
    inside k a b c (yes h) = h
    inside k a b c (no h) = absurd (not-both c (same k a b ∙ f.none_before k a (omega arith)))

-- ---- Maps, and the order of choices

pub get_d-map-in {ℓ κ} : {A : Type ℓ} {B : Type κ} (f : A → B) (xs : List A) (j : ℕ) (d : A) (e : B) → j < length xs → get_or (map f xs) j e ≡ f (get_or xs j d)
get_d-map-in f [] j d e h = absurd (omega arith)
get_d-map-in f (x ∷ xs) zero d e h = refl
get_d-map-in f (x ∷ xs) (suc j) d e h = get_d-map-in f xs j d e (le_of_suc-le-suc h)

module _ {ℓ κ} {A : Type ℓ} {B : Type κ} (f : A → B) where
  pub all_map : (p : B → Bool) (xs : List A) → all p (map f xs) ≡ all (λ (x : A). p (f x)) xs
  all_map p [] = refl
  all_map p (x ∷ xs) = ap (λ (b : Bool). p (f x) && b) (all_map p xs)

  pub pairwise_map : (r : B → B → Bool) (xs : List A) → pairwise r (map f xs) ≡ pairwise (λ (x y : A). r (f x) (f y)) xs
  pairwise_map r [] = refl
  pairwise_map r (x ∷ xs) = ap (λ (b : Bool). b && pairwise r (map f xs)) (all_map (r (f x)) xs) ∙ ap (λ (b : Bool). all (λ (y : A). r (f x) (f y)) xs && b) (pairwise_map r xs)

  map-prefix : (x : A) (ts : List (List A)) → map (map f) (map (λ (t : List A). x ∷ t) ts) ≡ map (λ (t : List B). f x ∷ t) (map (map f) ts)
  map-prefix x [] = refl
  map-prefix x (t ∷ ts) = ap {B = List (List B)} (λ us. (f x ∷ map f t) ∷ us) (map-prefix x ts)

module _ {ℓ κ} {A : Type ℓ} {B : Type κ} (f : A → B) where
  map-prefixed : (xs : List A) (ts : List (List A)) → map (map f) (prefixed xs ts) ≡ prefixed (map f xs) (map (map f) ts)
  map-prefixed [] ts = refl
  map-prefixed (x ∷ xs) ts =
      map-append (map f) (map (λ (t : List A). x ∷ t) ts) (prefixed xs ts)
      ∙ ap (λ (us : List (List B)). us ++ map (map f) (prefixed xs ts)) (map-prefix f x ts)
      ∙ ap (λ (us : List (List B)). map (λ (t : List B). f x ∷ t) (map (map f) ts) ++ us) (map-prefixed xs ts)

  -- the choices of images are the images of the choices
  pub map-choices : (xss : List (List A)) → map (map f) (choices xss) ≡ choices (map (map f) xss)
  map-choices [] = refl
  map-choices (xs ∷ xss) = map-prefixed xs (choices xss) ∙ ap (prefixed (map f xs)) (map-choices xss)

earlier-same : (x : ℕ) (t u : List ℕ) → earlier t u ≡ true → earlier (x ∷ t) (x ∷ u) ≡ true
earlier-same x t u e = or_right (ltb x x) (and_intro (eq-eqb x x refl) e)

pub earlier-less : (x y : ℕ) (t u : List ℕ) → x < y → earlier (x ∷ t) (y ∷ u) ≡ true
earlier-less x y t u h = or_left (eqb x y && earlier t u) (lt-ltb x y h)

earlier-cons : (x y : ℕ) (xs ys : List ℕ) → x ≡ y → earlier (x ∷ xs) (y ∷ ys) ≡ earlier xs ys
earlier-cons x y xs ys e =
    ap (λ (b : Bool). b || (eqb x y && earlier xs ys)) (le-ltb x y (omega arith)) ∙ ap (λ (b : Bool). b && earlier xs ys) (eq-eqb x y e)

earlier_more : (x y : ℕ) (xs ys : List ℕ) → y < x → earlier (x ∷ xs) (y ∷ ys) ≡ false
earlier_more x y xs ys h =
    ap (λ (b : Bool). b || (eqb x y && earlier xs ys)) (le-ltb x y (omega arith)) ∙ ap (λ (b : Bool). b && earlier xs ys) (ne_eqb x y (λ e. omega arith))

-- the first elements of a list are not earlier than the list
pub earlier-take : (k : ℕ) (ys : List ℕ) → earlier (take k ys) ys ≡ false
earlier-take zero ys = refl
earlier-take (suc k) [] = refl
earlier-take (suc k) (y ∷ ys) = earlier-cons y y (take k ys) ys refl ∙ earlier-take k ys

-- equal up to place k, and there less, or more
pub earlier-below : (k x : ℕ) (ys : List ℕ) → k < length ys → x < get_or ys k 0 → earlier (take k ys ++ (x ∷ [])) ys ≡ true
earlier-below k x [] h l = absurd (omega arith)
earlier-below zero x (y ∷ ys) h l = or_left (eqb x y && false) (lt-ltb x y l)
earlier-below (suc k) x (y ∷ ys) h l = earlier-cons y y (take k ys ++ (x ∷ [])) ys refl ∙ earlier-below k x ys (le_of_suc-le-suc h) l

pub earlier-above : (k x : ℕ) (ys : List ℕ) → k < length ys → get_or ys k 0 < x → earlier ys (take k ys ++ (x ∷ [])) ≡ true
earlier-above k x [] h l = absurd (omega arith)
earlier-above zero x (y ∷ ys) h l = or_left (eqb y x && earlier ys []) (lt-ltb y x l)
earlier-above (suc k) x (y ∷ ys) h l = earlier-cons y y ys (take k ys ++ (x ∷ [])) refl ∙ earlier-above k x ys (le_of_suc-le-suc h) l

-- a list with a lower element put at a place is earlier
pub earlier-lower : (ys : List ℕ) (j x : ℕ) → j < length ys → x < get_or ys j 0 → earlier (set ys j x) ys ≡ true
earlier-lower [] j x h l = absurd (omega arith)
earlier-lower (y ∷ ys) zero x h l = earlier-less x y ys ys l
earlier-lower (y ∷ ys) (suc j) x h l = earlier-same y (set ys j x) ys (earlier-lower ys j x (le_of_suc-le-suc h) l)

-- the order looks no further than the first list's length
pub earlier-within : (xs ys : List ℕ) → earlier xs ys ≡ earlier xs (take (length xs) ys)
earlier-within [] ys = refl
earlier-within (x ∷ xs) [] = refl
earlier-within (x ∷ xs) (y ∷ ys) = ap (λ (b : Bool). ltb x y || (eqb x y && b)) (earlier-within xs ys)

-- what is nowhere less is not earlier
pub earlier-least : (xs ys : List ℕ) → ((j : ℕ) → j < length xs → get_or ys j 0 ≤ get_or xs j 0) → earlier xs ys ≡ false
earlier-least [] ys h = refl
earlier-least (x ∷ xs) [] h = refl
earlier-least (x ∷ xs) (y ∷ ys) h =
    let l = h 0 (omega arith) in
    ap (λ (b : Bool). b || (eqb x y && earlier xs ys)) (le-ltb x y l)
    ∙ ap (λ (b : Bool). eqb x y && b) (earlier-least xs ys (λ j k. h (suc j) (omega arith)))
    ∙ and-false (eqb x y)

-- what is later by its first elements is later, however it goes on
pub later-append : (xs t ys : List ℕ) → earlier ys xs ≡ true → earlier ys (xs ++ t) ≡ true
later-append xs t [] e = absurd (false≢true e)
later-append [] t (y ∷ ys) e = absurd (false≢true e)
later-append (x ∷ xs) t (y ∷ ys) e =
    ⊎_elim
    (λ h. or_left (eqb y x && earlier ys (xs ++ t)) h)
    (λ h. or_right (ltb y x) (and_intro (and_left (eqb y x) (earlier ys xs) h) (later-append xs t ys (and_right (eqb y x) (earlier ys xs) h))))
    (or_cases (ltb y x) (eqb y x && earlier ys xs) e)

pub later-earlier : (xs ys : List ℕ) → earlier ys xs ≡ true → earlier xs ys ≡ false
later-earlier xs [] e = absurd (false≢true e)
later-earlier [] (y ∷ ys) e = refl
later-earlier (x ∷ xs) (y ∷ ys) e =
    ⊎_elim
    (λ h. earlier_more x y xs ys (ltb-true y x h))
    (λ h. earlier-cons x y xs ys (sym (eqb-true y x (and_left (eqb y x) (earlier ys xs) h))) ∙ later-earlier xs ys (and_right (eqb y x) (earlier ys xs) h))
    (or_cases (ltb y x) (eqb y x && earlier ys xs) e)

-- what is earlier by its first elements is earlier, however it goes on
pub earlier-append : (xs t ys : List ℕ) → earlier xs ys ≡ true → earlier (xs ++ t) ys ≡ true
earlier-append [] t ys e = absurd (false≢true e)
earlier-append (x ∷ xs) t [] e = absurd (false≢true e)
earlier-append (x ∷ xs) t (y ∷ ys) e =
    ⊎_elim
    (λ h. or_left (eqb x y && earlier (xs ++ t) ys) h)
    (λ h. or_right (ltb x y) (and_intro (and_left (eqb x y) (earlier xs ys) h) (earlier-append xs t ys (and_right (eqb x y) (earlier xs ys) h))))
    (or_cases (ltb x y) (eqb x y && earlier xs ys) e)

pub prefix-earlier : (x : ℕ) (ts : List (List ℕ)) → pairwise earlier ts ≡ true → pairwise earlier (map (λ (t : List ℕ). x ∷ t) ts) ≡ true
prefix-earlier x [] e = refl
prefix-earlier x (t ∷ ts) e =
    and_intro
    (all_map (λ (t : List ℕ). x ∷ t) (earlier (x ∷ t)) ts ∙ all_more (earlier t) (λ (u : List ℕ). earlier (x ∷ t) (x ∷ u)) ts (λ u k. earlier-same x t u k) (and_left (all (earlier t) ts) (pairwise earlier ts) e))
    (prefix-earlier x ts (and_right (all (earlier t) ts) (pairwise earlier ts) e))

prefixed-earlier : (xs : List ℕ) (ts : List (List ℕ)) → pairwise ltb xs ≡ true → pairwise earlier ts ≡ true → pairwise earlier (prefixed xs ts) ≡ true
prefixed-earlier [] ts e f = refl
prefixed-earlier (x ∷ xs) ts e f =
    pairwise_append earlier (map (λ (t : List ℕ). x ∷ t) ts) (prefixed xs ts) (prefix-earlier x ts f) (prefixed-earlier xs ts (and_right (all (ltb x) xs) (pairwise ltb xs) e) f)
    (λ t u m n.
    let a = Memᴰ.of_map (λ (t : List ℕ). x ∷ t) ts m in
    let b = of-prefixed xs ts n in
    subst (λ (v : List ℕ). earlier t v ≡ true) b.4 (subst (λ (v : List ℕ). earlier v (b.0 ∷ b.1) ≡ true) a.2
    (earlier-less x b.0 a.0 b.1 (ltb-true x b.0 (all-at (ltb x) xs (and_left (all (ltb x) xs) (pairwise ltb xs) e) b.2)))))

-- the choices of rising lists stand in lexicographic order
pub choices-earlier : (xss : List (List ℕ)) → all (pairwise ltb) xss ≡ true → pairwise earlier (choices xss) ≡ true
choices-earlier [] e = refl
choices-earlier (xs ∷ xss) e =
    prefixed-earlier xs (choices xss) (and_left (pairwise ltb xs) (all (pairwise ltb) xss) e)
    (choices-earlier xss (and_right (pairwise ltb xs) (all (pairwise ltb) xss) e))

pub from-rises : (i n : ℕ) → pairwise ltb (from i n) ≡ true
from-rises i zero = refl
from-rises i (suc n) =
    and_intro (all-intro (ltb i) (from (suc i) n) (λ x m. lt-ltb i x (omega (arith, from-mem (suc i) n x m)))) (from-rises (suc i) n)

-- f of the first n elements from place i on, by places
pub map-places {ℓ} : {A : Type ℓ} (f : ℕ → A) (xs : List ℕ) (n i : ℕ) → i + n ≤ length xs → map (λ (k : ℕ). f (get_or xs k 0)) (from i n) ≡ map f (take n (drop i xs))
map-places f xs zero i h = refl
map-places {A = A} f xs (suc n) i h =
    ap {B = List A} (λ t. f (get_or xs i 0) ∷ t) (map-places f xs n (suc i) (omega arith))
    ∙ ap (λ (t : List ℕ). map f (take (suc n) t)) (sym (drop-cons xs i 0 (omega arith)))

-- ---- An element put at a place

-- what holds of the first i numbers of a list holds of one more, which is stored
pub first-set : (P : ℕ → ℕ → Type 0) (xs : List ℕ) (i v : ℕ) → i < length xs → ((j : ℕ) → j < i → P j (get_or xs j 0)) → P i v → (j : ℕ) → j < i + 1 → P j (get_or (set xs i v) j 0)
first-set P xs i v h f p j l = go (ℕ_discrete j i)
  where
    go : Dec (j ≡ i) → P j (get_or (set xs i v) j 0)
    go (yes e) = subst (λ (k : ℕ). P k (get_or (set xs i v) k 0)) (sym e) (subst (P i) (sym (get_or-set_same xs i v 0 h)) p)
    go (no d) = subst (P j) (sym (get_or-set_other xs i j v 0 d)) (f j (omega arith))

module _ {ℓ} {A : Type ℓ} where
  pub set-mem : (xs : List A) (j : ℕ) (a : A) → j < length xs → Memᴰ a (set xs j a)
  set-mem [] j a h = absurd (omega arith)
  set-mem (x ∷ xs) zero a h = here
  set-mem (x ∷ xs) (suc j) a h = Memᴰ.tail (set-mem xs j a (le_of_suc-le-suc h))

  pub all_set : (p : A → Bool) (xs : List A) (j : ℕ) (a : A) → all p xs ≡ true → p a ≡ true → all p (set xs j a) ≡ true
  all_set p [] j a e f = refl
  all_set p (x ∷ xs) zero a e f = and_intro f (and_right (p x) (all p xs) e)
  all_set p (x ∷ xs) (suc j) a e f = and_intro (and_left (p x) (all p xs) e) (all_set p xs j a (and_right (p x) (all p xs) e) f)

  -- every two elements are in the relation, if the one put in is to each of the others
  pub pairwise-set : (r : A → A → Bool) (xs : List A) (j : ℕ) (a d : A) → pairwise r xs ≡ true → ((i : ℕ) → i < j → i < length xs → r (get_or xs i d) a ≡ true) → ((i : ℕ) → j < i → i < length xs → r a (get_or xs i d) ≡ true) → pairwise r (set xs j a) ≡ true
  pairwise-set r [] j a d p f g = refl
  pairwise-set r (x ∷ xs) zero a d p f g =
      and_intro (all-places (r a) xs d (λ i h. g (suc i) (omega arith) (omega arith))) (and_right (all (r x) xs) (pairwise r xs) p)
    where
      all-places : (q : A → Bool) (ys : List A) (d : A) → ((i : ℕ) → i < length ys → q (get_or ys i d) ≡ true) → all q ys ≡ true
      all-places q [] d h = refl
      all-places q (y ∷ ys) d h = and_intro (h 0 (omega arith)) (all-places q ys d (λ i l. h (suc i) (omega arith)))
  pairwise-set r (x ∷ xs) (suc j) a d p f g =
      and_intro
      (all_set (r x) xs j a (and_left (all (r x) xs) (pairwise r xs) p) (f 0 (omega arith) (omega arith)))
      (pairwise-set r xs j a d (and_right (all (r x) xs) (pairwise r xs) p) (λ i l h. f (suc i) (omega arith) (omega arith)) (λ i l h. g (suc i) (omega arith) (omega arith)))

  pub picks-set : {xss : List (List A)} {t : List A} → Picks xss t → (j : ℕ) (a : A) → Memᴰ a (get_or xss j []) → Picks xss (set t j a)
  picks-set done j a k = done
  picks-set (pick m p) zero a k = pick k p
  picks-set (pick m p) (suc j) a k = pick m (picks-set p j a k)

pub map-set {ℓ κ} : {A : Type ℓ} {B : Type κ} (f : A → B) (xs : List A) (j : ℕ) (a : A) → map f (set xs j a) ≡ set (map f xs) j (f a)
map-set f [] j a = refl
map-set f (x ∷ xs) zero a = refl
map-set {B = B} f (x ∷ xs) (suc j) a = ap {B = List B} (λ t. f x ∷ t) (map-set f xs j a)

-- two lists stand in the same order, whether both have the one's element at a place or both the other's
pub earlier-set : (xs ys : List ℕ) (j : ℕ) → j < length xs → j < length ys → earlier xs (set ys j (get_or xs j 0)) ≡ earlier (set xs j (get_or ys j 0)) ys
earlier-set [] ys j h l = absurd (omega arith)
earlier-set (x ∷ xs) [] j h l = absurd (omega arith)
earlier-set (x ∷ xs) (y ∷ ys) zero h l = earlier-cons x x xs ys refl ∙ sym (earlier-cons y y xs ys refl)
earlier-set (x ∷ xs) (y ∷ ys) (suc j) h l = ap (λ (b : Bool). ltb x y || (eqb x y && b)) (earlier-set xs ys j (le_of_suc-le-suc h) (le_of_suc-le-suc l))

-- ---- Lists laid end to end

module _ {A : Type 0} where
  pub each_append : {B : Type 0} (f : A → List B) (xs ys : List A) → each f (xs ++ ys) ≡ each f xs ++ each f ys
  each_append f [] ys = refl
  each_append {B} f (x ∷ xs) ys = ap (λ (t : List B). f x ++ t) (each_append f xs ys) ∙ sym (append_assoc (f x) (each f xs) (each f ys))

  pub each-cong : {B : Type 0} (f g : A → List B) (xs : List A) → ((x : A) → Memᴰ x xs → f x ≡ g x) → each f xs ≡ each g xs
  each-cong f g [] h = refl
  each-cong {B} f g (x ∷ xs) h = ap (λ (t : List B). t ++ each f xs) (h x here) ∙ ap (λ (t : List B). g x ++ t) (each-cong f g xs (λ y m. h y (Memᴰ.tail m)))

  pub each_map : {B C : Type 0} (f : A → List B) (h : C → A) (xs : List C) → each f (map h xs) ≡ each (λ (x : C). f (h x)) xs
  each_map f h [] = refl
  each_map {B} f h (x ∷ xs) = ap (λ (t : List B). f (h x) ++ t) (each_map f h xs)

pub each-from-shift : {B : Type 0} (f : ℕ → List B) (a i n : ℕ) → each f (from (a + i) n) ≡ each (λ (j : ℕ). f (a + j)) (from i n)
each-from-shift f a i n = ap (each f) (from-shift a i n) ∙ each_map f (λ (j : ℕ). a + j) (from i n)

-- ---- Pieces of one length

module _ {A : Type 0} where
  -- k pieces of n elements each, that stand end to end
  abbrev pub pieces : ℕ → ℕ → List A → List (List A)
  pieces k n xs = map (λ (i : ℕ). take n (drop (i * n) xs)) (from 0 k)

  pub pieces-length : (k n : ℕ) (xs : List A) → length (pieces k n xs) ≡ k
  pieces-length k n xs = length-map (from 0 k) (λ (i : ℕ). take n (drop (i * n) xs)) ∙ length_from 0 k

  -- what stands behind n elements
  pub drop-behind : (xs ys : List A) (n k : ℕ) → length xs ≡ n → drop (n + k) (xs ++ ys) ≡ drop k ys
  drop-behind xs ys n k e = ap (λ (i : ℕ). drop (i + k) (xs ++ ys)) (sym e) ∙ drop-append-add xs ys k

  -- a piece before others
  pub pieces-cons : (k n : ℕ) (xs ys : List A) → length xs ≡ n → pieces (suc k) n (xs ++ ys) ≡ xs ∷ pieces k n ys
  pieces-cons k n xs ys e =
      ap₂ {C = List (List A)} (λ t ts. t ∷ ts)
      (ap (λ (i : ℕ). take n (drop i (xs ++ ys))) (zero-mul n) ∙ take_at xs ys n e)
      (map-from-shift (λ (i : ℕ). take n (drop (i * n) (xs ++ ys))) 1 0 k
      ∙ map-from-same (λ (i : ℕ). take n (drop ((1 + i) * n) (xs ++ ys))) (λ (i : ℕ). take n (drop (i * n) ys)) 0 k (λ j h l. next j))
    where
      next : (j : ℕ) → take n (drop ((1 + j) * n) (xs ++ ys)) ≡ take n (drop (j * n) ys)
      next j =
          let l : (1 + j) * n ≡ n + j * n = omega (arith, add-mul 1 j n) in
          ap (λ (i : ℕ). take n (drop i (xs ++ ys))) l ∙ ap (take n) (drop-behind xs ys n (j * n) e)

  -- the pieces of the front
  pub pieces-front : (k n : ℕ) (xs ys : List A) → length xs ≡ k * n → pieces k n (xs ++ ys) ≡ pieces k n xs
  pieces-front k n xs ys e =
      map-from-same (λ (i : ℕ). take n (drop (i * n) (xs ++ ys))) (λ (i : ℕ). take n (drop (i * n) xs)) 0 k
      (λ j h l.
      let p : j * n + n ≤ length xs = omega (arith, suc-mul j n, mul-le-mul_right {m = suc j} {n = k} n (omega arith)) in
      ap (take n) (drop-append-le (j * n) xs ys (omega arith))
      ∙ take-append-le n (drop (j * n) xs) ys (omega (arith, length-drop (j * n) xs)))

-- ---- Sums

module _ {ℓ} {A : Type ℓ} (f : A → ℕ) where
  -- one element more
  pub sum-take-suc : (d : A) (xs : List A) (k : ℕ) → k < length xs → sum (map f (take (suc k) xs)) ≡ sum (map f (take k xs)) + f (get_or xs k d)
  sum-take-suc d [] k h = absurd (omega arith)
  sum-take-suc d (x ∷ xs) zero h = omega arith
  sum-take-suc d (x ∷ xs) (suc k) h = let e = sum-take-suc d xs k (le_of_suc-le-suc h) in omega arith

  pub sum-take-le : (xs : List A) (k : ℕ) → sum (map f (take k xs)) ≤ sum (map f xs)
  sum-take-le [] zero = omega arith
  sum-take-le [] (suc k) = omega arith
  sum-take-le (x ∷ xs) zero = omega arith
  sum-take-le (x ∷ xs) (suc k) = let e = sum-take-le xs k in omega arith

-- ---- A list written from the front

module _ (f : ℕ → ℕ) where
  -- the first i entries of ys are f of those of xs
  abbrev pub overlaid : List ℕ → List ℕ → ℕ → List ℕ
  overlaid xs ys i = map f (take i xs) ++ drop i ys

  set_next : (xs ys : List ℕ) (i : ℕ) → i < length xs → i < length ys → set (overlaid xs ys i) i (f (get_or xs i 0)) ≡ overlaid xs ys (suc i)
  set_next [] ys i h k = absurd (omega arith)
  set_next (x ∷ xs) [] i h k = absurd (omega arith)
  set_next (x ∷ xs) (y ∷ ys) zero h k = refl
  set_next (x ∷ xs) (y ∷ ys) (suc i) h k = ap {B = List ℕ} (λ zs. f x ∷ zs) (set_next xs ys i (omega arith) (omega arith))

  -- one entry more
  pub overlaid-next : (xs ys : List ℕ) (i : ℕ) → i < length xs → i < length ys → set (overlaid xs ys i) i (f (get_or xs i 0)) ≡ overlaid xs ys (i + 1)
  overlaid-next xs ys i h k = rw add-one (set_next xs ys i h k)

  pub overlaid-all : (xs ys : List ℕ) (i : ℕ) → i ≡ length xs → overlaid xs ys i ≡ map f xs ++ drop (length xs) ys
  overlaid-all xs ys i e = rw (e, take_all (length xs) xs (omega arith))

  pub overlaid-length : (xs ys : List ℕ) (i : ℕ) → i ≤ length xs → i ≤ length ys → length (overlaid xs ys i) ≡ length ys
  overlaid-length xs ys i h k =
      omega (arith, length-append (map f (take i xs)) (drop i ys), length-map (take i xs) f, length-take-le i xs h, length-drop i ys)
