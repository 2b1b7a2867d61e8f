-- Several choices at once: two values for three, pairs added one after the other, and that the values kept remove what the pairs remove.
-- From the laws of values that fit, and of lists read from a place on.
use mathlib.Core.Path.{◌≡◌, refl, sym, ap, ap₂, subst, ◌∙◌}
use mathlib.Core.Bool.{Bool, true, false, not, ◌&&◌, ◌||◌, and-true, and-false, and_assoc, and_comm, or-false}
use mathlib.Core.List.{List, [], ◌∷◌, Memᴰ}
use mathlib.Core.Logic.{◌⊎◌, inl, inr, ⊎_elim}
use Prim.Native.Nat.{ℕ, suc, ◌+◌, ◌-◌, ◌≤◌, ◌<◌, min}
use native.Mathlib.Numerals.{add-one}
use native.Mathlib.Decide.{dec_lt, ℕ_discrete}
use native.Mathlib.Omega.{arith}
use lib.Dec.{leb, ltb, eqb}
use lib.ListN.{length, get_or, set, drop, replicate, length-set, length-drop, get_or-replicate, drop_of_length-le}
use lib.Seq.{drop-cons, get_or-set_same, get_or-set_other}
use borrow.Author.Tests.{ltb-true, le-leb, eq-eqb, ne_eqb, eqb-true, not-true, not-false}
use Rattle.model.specs.Limits.{max_tuples, variable_count, any_value}
use Rattle.model.specs.Lists.{from, all, any}
use Rattle.model.specs.Network.{Network, total}
use Rattle.model.specs.Agreement.{Cell, is_any, fit, cells, cells_of}
use Rattle.model.specs.LiveWords.{is_live}
use Rattle.model.specs.Request.{choose, choose_several, unlike, removes}
use Rattle.model.specs.Fault.{first_fault, refusal, all_variables, change_faults}
use Rattle.model.proofs.Bools.{and_left, and_right, and_intro, or_left, or_right, or_cases, or-false-left, or-false-right, iff-eq, false-intro, not-both}
use Rattle.model.proofs.Lists.{here, all-at, any_at, any-intro, from-mem, mem-from}
use Rattle.model.proofs.Fault.{no-fault-at, refusal-none}
use Rattle.model.proofs.LiveWords.{none-is_live}
use Rattle.model.proofs.Agreement.{fit-sym, fit-any, fit-common, cells-all}
use Rattle.combination.specs.Proper.{below}
use Rattle.live.specs.Words.{WordArray}
use Rattle.request.specs.declared.choices.Both.{Both}
use Rattle.request.specs.declared.choices.Choices.{Choices}
use Rattle.request.specs.Checks.{choices_refusal}
use Rattle.request.specs.Removal.{above, Holds, Added, removed_by}
use Rattle.request.specs.Choices.{Joins, fits_kept, fits_pair, ChoiceAdded, ChoicesOf, removes_kept, removed_by_kept}
use Rattle.request.proofs.Removed.{blank-full, above-leb}
use Rattle.request.proofs.Openings.{ltb-not-leb}

-- ---- Two values for three

any-first : (f s w : Bool) → f ≡ true → (w && s) ≡ (f && s && w)
any-first f s w e = and_comm w s ∙ ap (λ (b : Bool). b && s && w) (sym e)

same-third : (f s w : Bool) → (f ≡ true → w ≡ true) → (f && s) ≡ (f && s && w)
same-third true s w h = sym (and-true s) ∙ ap (λ (b : Bool). s && b) (sym (h refl))
same-third false s w h = refl

no_second : (f s w : Bool) → (f ≡ true → w ≡ true → s ≡ true) → (f && w) ≡ (f && s && w)
no_second true s true h = sym (ap (λ (b : Bool). b && true) (h refl refl))
no_second true true false h = refl
no_second true false false h = refl
no_second false s w h = refl

module _ (first second v : ℕ) where
  -- the first is any, and so v takes its place
  pub joins_any : is_any first ≡ true → Joins (record { first = v; second = second }) first second v
  joins_any e a = any-first (fit a first) (fit a second) (fit a v) (fit-sym a first ∙ fit-any first a e)

  module _ (d : is_any first ≡ false) where
    -- it is v, or v is any
    pub joins-fit : fit first v ≡ true → Joins (record { first = first; second = second }) first second v
    joins-fit e a = same-third (fit a first) (fit a second) (fit a v) (λ f. fit-common a v first d f (fit-sym v first ∙ e))

    -- v is another, and what fits both is any
    pub joins-other : fit first v ≡ false → Joins (record { first = first; second = v }) first second v
    joins-other e a = no_second (fit a first) (fit a second) (fit a v) (λ f g. go f g (is_any a) refl)
      where
        go : fit a first ≡ true → fit a v ≡ true → (b : Bool) → is_any a ≡ b → fit a second ≡ true
        go f g true n = fit-any a second n
        go f g false n = absurd (not-both (fit-common first v a n (fit-sym first a ∙ f) (fit-sym v a ∙ g)) e)

-- ---- One pair more

module _ (firsts seconds : List ℕ) (x v : ℕ) where
  other-pair : (y a : ℕ) → (y ≡ x → ⊥) → (b : Bool) → b ≡ (b && fits_pair y a (x, v))
  other-pair y a d b = sym (ap (λ (c : Bool). b && (not c || fit a v)) (ne_eqb x y (λ e. d (sym e))) ∙ and-true b)

  choice-stored : (r : Both) → x < length firsts → x < length seconds → Joins r (get_or firsts x 0) (get_or seconds x 0) v → ChoiceAdded firsts seconds x v (set firsts x r.first) (set seconds x r.second)
  choice-stored r h l join =
      record {
        first-long = length-set firsts x r.first;
        second-long = length-set seconds x r.second;
        fits = λ y a _. at y a (ℕ_discrete y x);
      }
    where
      at : (y a : ℕ) → Dec (y ≡ x) → fits_kept (set firsts x r.first) (set seconds x r.second) y a ≡ (fits_kept firsts seconds y a && fits_pair y a (x, v))
      at y a (yes e) =
          subst (λ (z : ℕ). fits_kept (set firsts x r.first) (set seconds x r.second) z a ≡ (fits_kept firsts seconds z a && fits_pair z a (x, v))) (sym e)
          (ap₂ (λ (f s : ℕ). fit a f && fit a s) (get_or-set_same firsts x r.first 0 h) (get_or-set_same seconds x r.second 0 l)
          ∙ join a
          ∙ ap (λ (b : Bool). fits_kept firsts seconds x a && (not b || fit a v)) (sym (eq-eqb x x refl)))
      at y a (no d) =
          ap₂ (λ (f s : ℕ). fit a f && fit a s) (get_or-set_other firsts x y r.first 0 d) (get_or-set_other seconds x y r.second 0 d)
          ∙ other-pair y a d (fits_kept firsts seconds y a)

  -- .. at a place that is the variable's
  pub choice-kept : (k : ℕ) (r : Both) (f s : List ℕ) → k ≡ x → k < length firsts → k < length seconds → Joins r (get_or firsts k 0) (get_or seconds k 0) v → f ≡ set firsts k r.first → s ≡ set seconds k r.second → ChoiceAdded firsts seconds x v f s
  choice-kept k r f s e h l j p q =
      subst (λ (fs : List ℕ). ChoiceAdded firsts seconds x v fs s) (sym (p ∙ ap (λ (k : ℕ). set firsts k r.first) e))
      (subst (λ (ss : List ℕ). ChoiceAdded firsts seconds x v (set firsts x r.first) ss) (sym (q ∙ ap (λ (k : ℕ). set seconds k r.second) e))
      (choice-stored r (omega arith) (omega arith) (subst (λ (k : ℕ). Joins r (get_or firsts k 0) (get_or seconds k 0) v) e j)))

  -- what is no variable is not kept
  pub choice-outside : (f s : List ℕ) → variable_count ≤ x → f ≡ firsts → s ≡ seconds → ChoiceAdded firsts seconds x v f s
  choice-outside f s h p q =
      record {
        first-long = ap length p;
        second-long = ap length q;
        fits = λ y a l. ap₂ (λ (fs ss : List ℕ). fits_kept fs ss y a) p q ∙ other-pair y a (λ e. omega arith) (fits_kept firsts seconds y a);
      }

-- ---- The pairs of two lists

-- The values and the bound are those of the pairs before place i, and with those from there on of all.
pub record Paired (xs vs firsts seconds : List ℕ) (bound i : ℕ) : Type 0 where
  pub first-place : i ≤ length xs
  pub second-place : i ≤ length vs
  pub first-long : length firsts ≡ 64
  pub second-long : length seconds ≡ 64
  pub rest : (x a : ℕ) → x < variable_count → (fits_kept firsts seconds x a && all (fits_pair x a) (cells (drop i xs) (drop i vs))) ≡ all (fits_pair x a) (cells xs vs)
  pub high : (n : ℕ) → (leb bound n && below n (drop i xs)) ≡ below n xs

-- past the lesser of two lengths one of the lists has ended
ended : (a b i : ℕ) → min a b ≤ i → (a ≤ i) ⊎ (b ≤ i)
ended a b i h = go (dec_lt a b)
  where
    go : Dec (a < b) → (a ≤ i) ⊎ (b ≤ i)
    go (yes l) = inl (omega arith)
    go (no l) = inr (omega arith)

cells-short : (xs : List ℕ) → cells xs [] ≡ []
cells-short [] = refl
cells-short (x ∷ xs) = refl

-- what a list begins with from place k on stands at k
pub front : (xs : List ℕ) (k x : ℕ) (rest : List ℕ) → drop k xs ≡ x ∷ rest → (k < length xs) × (x ≡ get_or xs k 0) × (rest ≡ drop (k + 1) xs)
front xs k x rest e =
    let h : k < length xs = omega (arith, ap length e, length-drop k xs) in
    let d : drop k xs ≡ get_or xs k 0 ∷ drop (k + 1) xs = rw add-one (drop-cons xs k 0 h) in
    (h, (cc), cc)

module _ (xs vs : List ℕ) where
  pub paired-start : Paired xs vs (replicate 64 any_value) (replicate 64 any_value) 0 0
  unfolding is_any
  paired-start =
      record {
        first-place = omega arith;
        second-place = omega arith;
        first-long = refl;
        second-long = refl;
        rest = λ x a h.
            let at = get_or-replicate {A = ℕ} 64 x any_value 0 h in
            let f : fit a (get_or (replicate 64 any_value) x 0) ≡ true = ap (fit a) at ∙ fit-sym a any_value ∙ fit-any any_value a refl in
            ap (λ (b : Bool). b && b && all (fits_pair x a) (cells xs vs)) f;
        high = λ n. ap (λ (b : Bool). b && below n xs) (le-leb 0 n (omega arith));
      }

  module _ (firsts seconds : List ℕ) (bound i : ℕ) (f : Paired xs vs firsts seconds bound i) where
    -- the pair at place i
    module _ (h : i < length xs) (l : i < length vs) where
      next : (x a : ℕ) → (fits_pair x a (get_or xs i 0, get_or vs i 0) && all (fits_pair x a) (cells (drop (i + 1) xs) (drop (i + 1) vs))) ≡ all (fits_pair x a) (cells (drop i xs) (drop i vs))
      next x a = rw (drop-cons xs i 0 h, drop-cons vs i 0 l, add-one)

      next-below : (n : ℕ) → (ltb (get_or xs i 0) n && below n (drop (i + 1) xs)) ≡ below n (drop i xs)
      next-below n = rw (drop-cons xs i 0 h, add-one)

      paired-here : (firsts' seconds' : List ℕ) (higher : ℕ) → ChoiceAdded firsts seconds (get_or xs i 0) (get_or vs i 0) firsts' seconds' → higher ≡ above bound (get_or xs i 0) → Paired xs vs firsts' seconds' higher (i + 1)
      paired-here firsts' seconds' higher added e =
          record {
            first-place = omega arith;
            second-place = omega arith;
            first-long = added.first-long ∙ f.first-long;
            second-long = added.second-long ∙ f.second-long;
            rest =
                λ x a k.
                let later = all (fits_pair x a) (cells (drop (i + 1) xs) (drop (i + 1) vs)) in
                ap (λ (b : Bool). b && later) (added.fits x a k)
                ∙ and_assoc (fits_kept firsts seconds x a) (fits_pair x a (get_or xs i 0, get_or vs i 0)) later
                ∙ ap (λ (b : Bool). fits_kept firsts seconds x a && b) (next x a)
                ∙ f.rest x a k;
            high =
                λ n.
                ap (λ (m : ℕ). leb m n && below n (drop (i + 1) xs)) e
                ∙ ap (λ (b : Bool). b && below n (drop (i + 1) xs)) (above-leb bound (get_or xs i 0) n)
                ∙ and_assoc (leb bound n) (ltb (get_or xs i 0) n) (below n (drop (i + 1) xs))
                ∙ ap (λ (b : Bool). leb bound n && b) (next-below n)
                ∙ f.high n;
          }

      pub paired-next : (firsts' seconds' : List ℕ) (higher x v : ℕ) → x ≡ get_or xs i 0 → v ≡ get_or vs i 0 → ChoiceAdded firsts seconds x v firsts' seconds' → higher ≡ above bound x → Paired xs vs firsts' seconds' higher (i + 1)
      paired-next firsts' seconds' higher x v e f added k =
          paired-here firsts' seconds' higher
          (subst (λ (y : ℕ). ChoiceAdded firsts seconds y (get_or vs i 0) firsts' seconds') e (subst (λ (w : ℕ). ChoiceAdded firsts seconds x w firsts' seconds') f added))
          (k ∙ ap (above bound) e)

    -- no pair is left
    none_left : (length xs ≤ i) ⊎ (length vs ≤ i) → cells (drop i xs) (drop i vs) ≡ []
    none_left (inl h) = ap (λ (ys : List ℕ). cells ys (drop i vs)) (drop_of_length-le xs h)
    none_left (inr h) = ap (cells (drop i xs)) (drop_of_length-le vs h) ∙ cells-short (drop i xs)

    pub paired-end : min (length xs) (length vs) ≤ i → ChoicesOf (record { variables = length xs; values = length vs; bound = bound; firsts = firsts; seconds = seconds }) xs vs
    paired-end past =
        let none = none_left (ended (length xs) (length vs) i past) in
        record {
          variables = refl;
          values = refl;
          highest =
              λ e n.
              let all_read : length xs ≤ i = ⊎_elim (λ h. h) (λ h. omega arith) (ended (length xs) (length vs) i past) in
              let none_more : drop i xs ≡ [] = drop_of_length-le xs {i = i} all_read in
              sym (and-true (leb bound n)) ∙ ap (λ (ys : List ℕ). leb bound n && below n ys) (sym none_more) ∙ f.high n;
          fits =
              λ x a h.
              sym (and-true (fits_kept firsts seconds x a))
              ∙ ap (λ (ps : List Cell). fits_kept firsts seconds x a && all (fits_pair x a) ps) (sym none)
              ∙ f.rest x a h;
        }

-- ---- What they remove

module _ (N : Network) (g : ℕ) where
  -- a value that does not fit
  unlike-at : (x v : ℕ) → unlike N g (x, v) ≡ true → (a : ℕ) × Memᴰ (x, a) (cells_of N g) × (fit a v ≡ false)
  unlike-at x v e =
      let k = any_at (λ (c : Cell). eqb c.0 x && not (fit c.1 v)) (cells_of N g) e in
      let c = k.0 in
      let same : c ≡ (x, c.1) = λ i. (eqb-true c.0 x (and_left (eqb c.0 x) (not (fit c.1 v)) k.2) i, c.1) in
      (c.1, subst (λ (d : Cell). Memᴰ d (cells_of N g)) same k.1, not-true (fit c.1 v) (and_right (eqb c.0 x) (not (fit c.1 v)) k.2))

  at-unlike : (x v a : ℕ) → Memᴰ (x, a) (cells_of N g) → fit a v ≡ false → unlike N g (x, v) ≡ true
  at-unlike x v a m e = any-intro (λ (c : Cell). eqb c.0 x && not (fit c.1 v)) (cells_of N g) m (and_intro (eq-eqb x x refl) (ap not e))

  module _ (r : Choices) (xs vs : List ℕ) (lists : ChoicesOf r xs vs) (low : all_variables xs ≡ true) where
    abbrev kept : ℕ → ℕ → Bool
    kept x a = fits_kept r.firsts r.seconds x a

    abbrev pairs : List Cell
    pairs = cells xs vs

    -- a value that does not fit all of the pairs' does not fit that of one
    some_pair : (ps : List Cell) (x a : ℕ) → all (fits_pair x a) ps ≡ false → (p : Cell) × Memᴰ p ps × (p.0 ≡ x) × (fit a p.1 ≡ false)
    some_pair [] x a e = absurd (not-both refl e)
    some_pair (p ∷ ps) x a e = go (some_pair ps x a) (fits_pair x a p) refl e
      where
        go : (all (fits_pair x a) ps ≡ false → (q : Cell) × Memᴰ q ps × (q.0 ≡ x) × (fit a q.1 ≡ false)) → (b : Bool) → fits_pair x a p ≡ b → (b && all (fits_pair x a) ps) ≡ false → (q : Cell) × Memᴰ q (p ∷ ps) × (q.0 ≡ x) × (fit a q.1 ≡ false)
        go later true f e = let k = later e in (k.0, Memᴰ.tail k.1, k.2, k.3)
        go later false f e = (p, here, eqb-true p.0 x (not-false (eqb p.0 x) (or-false-left (not (eqb p.0 x)) (fit a p.1) f)), or-false-right (not (eqb p.0 x)) (fit a p.1) f)

    unkept-pair : (x a : ℕ) → x < variable_count → Memᴰ (x, a) (cells_of N g) → kept x a ≡ false → any (unlike N g) pairs ≡ true
    unkept-pair x a h m e =
        let k = some_pair pairs x a (sym (lists.fits x a h) ∙ e) in
        any-intro (unlike N g) pairs k.1 (at-unlike k.0.0 k.0.1 a (subst (λ (y : ℕ). Memᴰ (y, a) (cells_of N g)) (sym k.2) m) k.3)

    from-kept : any (removes_kept N r.firsts r.seconds g) (from 0 variable_count) ≡ true → any (unlike N g) pairs ≡ true
    unfolding removes
    from-kept e =
        let k = any_at (removes_kept N r.firsts r.seconds g) (from 0 variable_count) e in
        let x = k.0 in
        let h : x < variable_count = omega (arith, from-mem 0 variable_count x k.1) in
        let first = get_or r.firsts x 0 in
        let second = get_or r.seconds x 0 in
        ⊎_elim
        (λ f. let u = unlike-at x first f in unkept-pair x u.0 h u.1 (ap (λ (b : Bool). b && fit u.0 second) u.2))
        (λ f. let u = unlike-at x second f in unkept-pair x u.0 h u.1 (ap (λ (b : Bool). fit u.0 first && b) u.2 ∙ and-false (fit u.0 first)))
        (or_cases (unlike N g (x, first)) (unlike N g (x, second)) k.2)

    pair-kept : any (unlike N g) pairs ≡ true → any (removes_kept N r.firsts r.seconds g) (from 0 variable_count) ≡ true
    unfolding removes
    pair-kept e =
        let k = any_at (unlike N g) pairs e in
        let x = k.0.0 in
        let v = k.0.1 in
        let u = unlike-at x v k.2 in
        let a = u.0 in
        let h : x < variable_count = ltb-true x variable_count (all-at (λ (c : Cell). ltb c.0 variable_count) pairs (cells-all (λ (x : ℕ). ltb x variable_count) xs vs low) k.1) in
        let not-this : fits_pair x a (x, v) ≡ false = ap₂ (λ (b c : Bool). not b || c) (eq-eqb x x refl) u.2 in
        let not-kept : kept x a ≡ false = lists.fits x a h ∙ false-intro (all (fits_pair x a) pairs) (λ t. not-both (all-at (fits_pair x a) pairs t k.1) not-this) in
        any-intro (removes_kept N r.firsts r.seconds g) (from 0 variable_count) (mem-from 0 variable_count x (omega arith) (omega arith))
        (one_of (get_or r.firsts x 0) (get_or r.seconds x 0) x a u.1 not-kept)
      where
        one_of : (first second x a : ℕ) → Memᴰ (x, a) (cells_of N g) → (fit a first && fit a second) ≡ false → (unlike N g (x, first) || unlike N g (x, second)) ≡ true
        one_of first second x a m e = go (fit a first) refl
          where
            go : (b : Bool) → fit a first ≡ b → (unlike N g (x, first) || unlike N g (x, second)) ≡ true
            go true f = or_right (unlike N g (x, first)) (at-unlike x second a m (ap (λ (b : Bool). b && fit a second) (sym f) ∙ e))
            go false f = or_left (unlike N g (x, second)) (at-unlike x first a m f)

    pub kept-removes : any (removes_kept N r.firsts r.seconds g) (from 0 variable_count) ≡ removes N (choose_several xs vs) g
    unfolding removes
    kept-removes = iff-eq _ _ from-kept pair-kept

-- ---- .. in words

-- The words hold what the variables before x remove, and with those from there on all that is removed.
pub record Gathered (N : Network) (firsts seconds ws : List ℕ) (x : ℕ) : Type 0 where
  pub few : x ≤ variable_count
  pub full : WordArray ws
  pub rest : (g : ℕ) → g < max_tuples → (is_live ws g || ltb g (total N) && any (removes_kept N firsts seconds g) (from x (variable_count - x))) ≡ removed_by_kept N firsts seconds g

step : (w t p q r : Bool) → (w || t && p || t && q || t && r) ≡ (w || t && (p || q || r))
step true t p q r = refl
step false true p q r = refl
step false false p q r = refl

module _ (N : Network) (firsts seconds : List ℕ) where
  pub gathered-start : Gathered N firsts seconds (replicate 64 0) 0
  gathered-start =
      record {
        few = omega arith;
        full = blank-full;
        rest = λ g h. ap (λ (b : Bool). b || removed_by_kept N firsts seconds g) (none-is_live 64 g);
      }

  module _ (ws : List ℕ) (x : ℕ) (c : Gathered N firsts seconds ws x) where
    pub gathered_next : (us vs : List ℕ) → x < variable_count → Added ws us (removed_by N (choose x (get_or firsts x 0))) → Added us vs (removed_by N (choose x (get_or seconds x 0))) → Gathered N firsts seconds vs (x + 1)
    gathered_next us vs h one two =
        record {
          few = omega arith;
          full = two.full;
          rest =
              λ g l.
              let t = ltb g (total N) in
              let p = removes N (choose x (get_or firsts x 0)) g in
              let q = removes N (choose x (get_or seconds x 0)) g in
              let later = any (removes_kept N firsts seconds g) (from (x + 1) (variable_count - (x + 1))) in
              let e : variable_count - x ≡ suc (variable_count - (x + 1)) = omega arith in
              ap (λ (b : Bool). b || t && later) (two.bits g l ∙ ap (λ (b : Bool). b || t && q) (one.bits g l))
              ∙ step (is_live ws g) t p q later
              ∙ ap (λ (k : ℕ). is_live ws g || t && (p || q || any (removes_kept N firsts seconds g) (from k (variable_count - (x + 1))))) (add-one x)
              ∙ sym (ap (λ (k : ℕ). is_live ws g || t && any (removes_kept N firsts seconds g) (from x k)) e)
              ∙ c.rest g l;
        }

    pub gathered-end : variable_count ≤ x → Holds ws (removed_by_kept N firsts seconds)
    gathered-end past g h =
        let e : variable_count - x ≡ 0 = omega arith in
        sym (or-false (is_live ws g))
        ∙ ap (λ (b : Bool). is_live ws g || b) (sym (and-false (ltb g (total N))))
        ∙ sym (ap (λ (k : ℕ). is_live ws g || ltb g (total N) && any (removes_kept N firsts seconds g) (from x k)) e)
        ∙ c.rest g h

-- .. and so what the pairs remove
pub kept-holds : (N : Network) (ws : List ℕ) (r : Choices) (xs vs : List ℕ) → ChoicesOf r xs vs → all_variables xs ≡ true → Holds ws (removed_by_kept N r.firsts r.seconds) → Holds ws (removed_by N (choose_several xs vs))
kept-holds N ws r xs vs lists low holds g h = holds g h ∙ ap (λ (b : Bool). ltb g (total N) && b) (kept-removes N g r xs vs lists low)

-- ---- Their faults

module _ (N : Network) (r : Choices) (xs vs : List ℕ) (lists : ChoicesOf r xs vs) where
  -- 19, and where the lists are as long 14 by the least number above all variables
  own-faults : (b : Bool) → eqb (length xs) (length vs) ≡ b → refusal (first_fault ((19, not b) ∷ (14, ltb variable_count r.bound) ∷ [])) ≡ refusal (first_fault ((19, not b) ∷ (14, not (all_variables xs)) ∷ []))
  own-faults true e =
      ap (λ (c : Bool). refusal (first_fault ((14, c) ∷ [])))
      (ltb-not-leb variable_count r.bound ∙ ap not (lists.highest (eqb-true (length xs) (length vs) e) variable_count))
  own-faults false e = refl

  pub choices-refusal : choices_refusal r.variables r.values r.bound ≡ refusal (first_fault (change_faults N (choose_several xs vs)))
  choices-refusal =
      let b = eqb (length xs) (length vs) in
      ap₂ (λ (m n : ℕ). choices_refusal m n r.bound) lists.variables lists.values
      ∙ own-faults b refl

  -- without them every number listed is a variable
  pub choices-low : choices_refusal r.variables r.values r.bound ≡ 0 → all_variables xs ≡ true
  choices-low z =
      not-false (all_variables xs)
      (no-fault-at (change_faults N (choose_several xs vs)) (refusal-none (change_faults N (choose_several xs vs)) refl (sym choices-refusal ∙ z)) (Memᴰ.tail here))
