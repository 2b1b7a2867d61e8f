-- Laws of combinations: where each stands in the list, how many numbers their supports need, and when one is connected.
-- From the definitions, and what a network without faults has; for combinations of any number of members.
use mathlib.Core.Path.{◌≡◌, refl, sym, ◌∙◌, ap, ap₂, subst}
use mathlib.Core.Bool.{Bool, true, false, not, ◌||◌, true≢false}
use mathlib.Core.List.Memᴰ
use mathlib.Core.List.{List, [], ◌∷◌, ◌++◌, map, Memᴰ}
use mathlib.Core.Logic.{◌⊎◌, inl, inr, ⊎_elim}
use Prim.Native.Nat.{ℕ, zero, suc, ◌+◌, ◌*◌, ◌/◌, ◌%◌, ◌≤◌, ◌<◌}
use native.Mathlib.Nat.{zero-mul, suc-mul, add-mul, zero-add, add_comm, div-mul-le_self, div-add-mod', mul-le-mul_right, mod-lt, div-lt_iff_lt-mul, div-eq_of_lt-le, mul-div_cancel}
use native.Mathlib.Omega.{arith}
use lib.Dec.{leb}
use lib.ListN.{length, get_or, take, drop, length-map, length-drop}
use lib.Seq.{take_all, take-add, drop-drop, drop-cons, get_or-take, get_or-drop, length-take-le}
use borrow.Author.Tests.{leb-true, not-true}
use Rattle.model.specs.Limits.{max_width}
use Rattle.model.specs.Lists.{from, sum, all, any, select, keep_if, empty, elem}
use Rattle.model.specs.Network.{Network, no_relation, width, size, variables_in, before, scope_of}
use Rattle.model.specs.Agreement.{share}
use Rattle.model.specs.Combination.{Combination, combinations, pair_combination, pair_member, Division, add_to_either, divisions, connected}
use Rattle.model.specs.Consistency.{needed}
use Rattle.model.specs.Fault.{proper_width}
use Rattle.model.proofs.Bools.{and_left, or_cases, not-both}
use Rattle.model.proofs.Lists.{here, all-at, all-intro, all_get_d, mem-get_d, any_at, any-intro, select-mem, mem-select, elem_mem, mem-elem, from-mem, length_from, get_d-map-from, get_d-mem, pieces}
use Rattle.model.proofs.Network.{before-within}
use Rattle.model.proofs.Fault.{Faultless}

-- ---- The list of combinations

module _ (m : ℕ) (list : List ℕ) where
  pub combination-count : length (combinations m list) ≡ length list / m
  unfolding combinations
  combination-count = length-map (from 0 (length list / m)) (λ (k : ℕ). take m (drop (k * m) list)) ∙ length_from 0 (length list / m)

  pub combination-at : (k : ℕ) → k < length list / m → get_or (combinations m list) k [] ≡ take m (drop (k * m) list)
  unfolding combinations
  combination-at k h =
      get_d-map-from (λ (k : ℕ). take m (drop (k * m) list)) 0 (length list / m) k [] h
      ∙ ap (λ (i : ℕ). take m (drop (i * m) list)) (zero-add k)

  pub combinations-pieces : (k : ℕ) → 0 < m → length list ≡ k * m → combinations m list ≡ pieces k m list
  unfolding combinations
  combinations-pieces k pos e = ap (λ (n : ℕ). pieces n m list) (ap (λ (l : ℕ). l / m) e ∙ mul-div_cancel k pos)

  -- the next one begins within the list
  pub combination-within : (k : ℕ) → k < length list / m → k * m + m ≤ length list
  combination-within k h = omega (arith, suc-mul k m, mul-le-mul_right {m = suc k} m h, div-mul-le_self (length list) m)

  -- each has m members
  pub combination-length : {c : Combination} → Memᴰ c (combinations m list) → length c ≡ m
  unfolding combinations
  combination-length n =
      let a = Memᴰ.of_map (λ (k : ℕ). take m (drop (k * m) list)) (from 0 (length list / m)) n in
      let b = combination-within a.0 (omega (arith, from-mem 0 (length list / m) a.0 a.1)) in
      sym (ap length a.2) ∙ length-take-le m (drop (a.0 * m) list) (omega (arith, length-drop (a.0 * m) list))

  -- ---- Pairs of combination and member

  -- each member of each combination is some pair's
  pub pair_of : {c : Combination} {r : ℕ} → 0 < m → Memᴰ c (combinations m list) → Memᴰ r c → (p : ℕ) × (p < length list) × (pair_combination m list p ≡ c) × (pair_member list p ≡ r)
  unfolding combinations
  pair_of {c} {r} pos n k =
      let a = Memᴰ.of_map (λ (k : ℕ). take m (drop (k * m) list)) (from 0 (length list / m)) n in
      let i = a.0 in
      let b = combination-within i (omega (arith, from-mem 0 (length list / m) i a.1)) in
      let part = take m (drop (i * m) list) in
      let l : length part ≡ m = length-take-le m (drop (i * m) list) (omega (arith, length-drop (i * m) list)) in
      let f = mem-get_d part 0 (subst (Memᴰ r) (sym a.2) k) in
      let j = f.0 in
      let p = i * m + j in
      let q : p / m ≡ i = div-eq_of_lt-le m (omega arith) (omega (arith, f.1)) in (
        p,
        omega (arith, f.1),
        ap (λ (x : ℕ). take m (drop (x * m) list)) q ∙ a.2,
        sym (get_or-take m (drop (i * m) list) j 0 (omega (arith, f.1)) ∙ get_or-drop (i * m) list j 0) ∙ f.2,
      )

  -- a pair of a list of whole combinations
  module _ (pos : 0 < m) (whole : length list / m * m ≡ length list) (p : ℕ) (h : p < length list) where
    listed : p / m < length list / m
    listed = (div-lt_iff_lt-mul pos).1 (subst (λ (n : ℕ). p < n) (sym whole) h)

    -- its combination lies within the list
    pub pair-within : p / m * m + m ≤ length list
    pair-within = combination-within (p / m) listed

    pub pair-length : length (pair_combination m list p) ≡ m
    pair-length = length-take-le m (drop (p / m * m) list) (omega (arith, length-drop (p / m * m) list, pair-within))

    -- and is one of the combinations
    pub pair-listed : Memᴰ (pair_combination m list p) (combinations m list)
    pair-listed =
        Memᴰ.cast (sym (combination-at (p / m) listed))
        (get_d-mem (combinations m list) (p / m) [] (subst (λ (n : ℕ). p / m < n) (sym combination-count) listed))

    -- with the pair's member in its place
    pub pair_place : get_or (pair_combination m list p) (p % m) 0 ≡ pair_member list p
    pair_place =
        get_or-take m (drop (p / m * m) list) (p % m) 0 (mod-lt p pos)
        ∙ get_or-drop (p / m * m) list (p % m) 0
        ∙ ap (λ (k : ℕ). get_or list k 0) (div-add-mod' p m)

    pub pair-member : Memᴰ (pair_member list p) (pair_combination m list p)
    pair-member =
        Memᴰ.cast (sym pair_place)
        (get_d-mem (pair_combination m list p) (p % m) 0 (subst (λ (n : ℕ). p % m < n) (sym pair-length) (mod-lt p pos)))

  -- a list of whole combinations
  module _ (whole : length list % m ≡ 0) where
    -- what holds of every combination's members holds of the list's
    pub members-all : (p : ℕ → Bool) → 0 < m → all (all p) (combinations m list) ≡ true → (i : ℕ) → i < length list → p (get_or list i 0) ≡ true
    members-all p pos e i h =
        let k = i / m in
        let n = length list / m in
        let below : k < n = (div-lt_iff_lt-mul pos).1 (omega (arith, div-add-mod' (length list) m)) in
        let c : all p (take m (drop (k * m) list)) ≡ true =
        sym (ap (all p) (combination-at k below)) ∙ all_get_d (all p) (combinations m list) k [] e (subst (λ (x : ℕ). k < x) (sym combination-count) below)
        in
        let r = mod-lt i pos in
        let l : m ≤ length (drop (k * m) list) = omega (arith, length-drop (k * m) list, combination-within k below) in
        let g = all_get_d p (take m (drop (k * m) list)) (i % m) 0 c (omega (arith, length-take-le m (drop (k * m) list) l)) in
        sym (ap p (get_or-take m (drop (k * m) list) (i % m) 0 r ∙ get_or-drop (k * m) list (i % m) 0 ∙ ap (λ (x : ℕ). get_or list x 0) (div-add-mod' i m))) ∙ g

-- ---- How many numbers the supports need

sum-append : (xs ys : List ℕ) (f : ℕ → ℕ) → sum (map f (xs ++ ys)) ≡ sum (map f xs) + sum (map f ys)
sum-append [] ys f = sym (zero-add (sum (map f ys)))
sum-append (x ∷ xs) ys f = omega (arith, sum-append xs ys f)

module _ (f : ℕ → ℕ) (m : ℕ) (list : List ℕ) where
  -- of the n combinations from the i-th on
  sum-parts : (i n : ℕ) → (i + n) * m ≤ length list → sum (map (λ (c : Combination). sum (map f c) * length c) (map (λ (k : ℕ). take m (drop (k * m) list)) (from i n))) ≡ sum (map f (take (n * m) (drop (i * m) list))) * m
  sum-parts i zero h =
      sym (ap (λ (k : ℕ). sum (map f (take k (drop (i * m) list))) * m) (zero-mul m) ∙ zero-mul m)
  sum-parts i (suc n) h =
      let rest = drop (i * m) list in
      let e : (i + suc n) * m ≡ i * m + (n * m + m) = add-mul i (suc n) m ∙ ap (λ (x : ℕ). i * m + x) (suc-mul n m) in
      let e' : (suc i + n) * m ≡ i * m + m + n * m = add-mul (suc i) n m ∙ ap (λ (x : ℕ). x + n * m) (suc-mul i m) in
      let l : length (take m rest) ≡ m = length-take-le m rest (omega (arith, length-drop (i * m) list)) in
      let r = sum-parts (suc i) n (omega arith) in
      let d : drop (suc i * m) list ≡ drop m rest = ap (λ (x : ℕ). drop x list) (suc-mul i m) ∙ sym (drop-drop m (i * m) list) in
      let q : suc n * m ≡ m + n * m = suc-mul n m ∙ add_comm (n * m) m in
      let s : take (suc n * m) rest ≡ take m rest ++ take (n * m) (drop m rest) = ap (λ (x : ℕ). take x rest) q ∙ take-add m (n * m) rest in
      ap₂ (λ (a b : ℕ). sum (map f (take m rest)) * a + b) l (r ∙ ap (λ (ys : List ℕ). sum (map f (take (n * m) ys)) * m) d)
      ∙ sym (ap (λ (ys : List ℕ). sum (map f ys) * m) s ∙ ap (λ (x : ℕ). x * m) (sum-append (take m rest) (take (n * m) (drop m rest)) f) ∙ add-mul (sum (map f (take m rest))) (sum (map f (take (n * m) (drop m rest)))) m)

-- of whole combinations: m for each tuple of each member in the list
pub needed-whole : (N : Network) (m : ℕ) (list : List ℕ) → length list % m ≡ 0 → needed N (combinations m list) ≡ sum (map (size N) list) * m
unfolding needed combinations
needed-whole N m list whole =
    let n = length list / m in
    let e : n * m ≡ length list = omega (arith, div-add-mod' (length list) m) in
    sum-parts (size N) m list 0 n (omega (arith, ap (λ (x : ℕ). x * m) (zero-add n)))
    ∙ ap (λ (xs : List ℕ). sum (map (size N) xs) * m) (ap₂ (λ (a b : ℕ). take a (drop b list)) e (zero-mul m) ∙ take_all (length list) list (omega arith))

-- ---- Divisions

-- Every member is in one group.
data Divides : Combination → List ℕ → List ℕ → Type 0 where
  none : Divides [] [] []
  left : {r : ℕ} {c xs ys : List ℕ} → Divides c xs ys → Divides (r ∷ c) (r ∷ xs) ys
  right : {r : ℕ} {c xs ys : List ℕ} → Divides c xs ys → Divides (r ∷ c) xs (r ∷ ys)

abbrev DividesBy : Combination → Division → Type 0
DividesBy c d = Divides c d.0 d.1

of_either : (r : ℕ) (c : Combination) (ds : List Division) {e : Division} → ((d : Division) → Memᴰ d ds → DividesBy c d) → Memᴰ e (add_to_either r ds) → DividesBy (r ∷ c) e
of_either r c [] f m = absurd (Memᴰ.not-nil m)
of_either r c (d ∷ ds) {e} f m =
    ⊎_elim
    (λ q. subst (DividesBy (r ∷ c)) (sym q) (left (f d here)))
    (λ k. ⊎_elim
    (λ q. subst (DividesBy (r ∷ c)) (sym q) (right (f d here)))
    (λ l. of_either r c ds (λ b n. f b (Memᴰ.tail n)) l)
    (Memᴰ.cases_cons k))
    (Memᴰ.cases_cons m)

division-divides : (c : Combination) {d : Division} → Memᴰ d (divisions c) → DividesBy c d
division-divides [] m = subst (DividesBy []) (sym (Memᴰ.eq_of_singleton m)) none
division-divides (r ∷ c) m = of_either r c (divisions c) (λ d n. division-divides c n) m

in_either : (r : ℕ) {d : Division} (ds : List Division) → Memᴰ d ds → Memᴰ (r ∷ d.0, d.1) (add_to_either r ds) × Memᴰ (d.0, r ∷ d.1) (add_to_either r ds)
in_either r [] m = absurd (Memᴰ.not-nil m)
in_either r (e ∷ ds) m =
    ⊎_elim
    (λ q. (Memᴰ.head (ap {B = Division} (λ b. (r ∷ b.0, b.1)) q), Memᴰ.tail (Memᴰ.head (ap {B = Division} (λ b. (b.0, r ∷ b.1)) q))))
    (λ k. let l = in_either r ds k in (Memᴰ.tail (Memᴰ.tail l.0), Memᴰ.tail (Memᴰ.tail l.1)))
    (Memᴰ.cases_cons m)

keep-either : (b : Bool) (r : ℕ) (c : Combination) (xs ys : List ℕ) → Memᴰ (xs, ys) (divisions c) → Memᴰ (keep_if b r xs, keep_if (not b) r ys) (divisions (r ∷ c))
keep-either true r c xs ys m = (in_either r (divisions c) m).0
keep-either false r c xs ys m = (in_either r (divisions c) m).1

-- the members that pass a test, and the rest
division-by : (p : ℕ → Bool) (c : Combination) → Memᴰ (select p c, select (λ (r : ℕ). not (p r)) c) (divisions c)
division-by p [] = here
division-by p (r ∷ c) = keep-either (p r) r c (select p c) (select (λ (s : ℕ). not (p s)) c) (division-by p c)

divides-cases : {c xs ys : List ℕ} {t : ℕ} → Divides c xs ys → Memᴰ t c → Memᴰ t xs ⊎ Memᴰ t ys
divides-cases none m = absurd (Memᴰ.not-nil m)
divides-cases (left d) m =
    ⊎_elim (λ q. inl (Memᴰ.head q)) (λ k. ⊎_elim (λ l. inl (Memᴰ.tail l)) (λ l. inr l) (divides-cases d k)) (Memᴰ.cases_cons m)
divides-cases (right d) m =
    ⊎_elim (λ q. inr (Memᴰ.head q)) (λ k. ⊎_elim (λ l. inl l) (λ l. inr (Memᴰ.tail l)) (divides-cases d k)) (Memᴰ.cases_cons m)

divides-left : {c xs ys : List ℕ} {t : ℕ} → Divides c xs ys → Memᴰ t xs → Memᴰ t c
divides-left none m = m
divides-left (left d) m = ⊎_elim (λ q. Memᴰ.head q) (λ k. Memᴰ.tail (divides-left d k)) (Memᴰ.cases_cons m)
divides-left (right d) m = Memᴰ.tail (divides-left d m)

divides-turned : {c xs ys : List ℕ} → Divides c xs ys → Divides c ys xs
divides-turned none = none
divides-turned (left d) = right (divides-turned d)
divides-turned (right d) = left (divides-turned d)

-- ---- Connected combinations, for any relation between members that is shared

module _ (share : ℕ → ℕ → Bool) where
  abbrev joined_by : Division → Bool
  joined_by d = any (λ (r : ℕ). any (share r) d.1) d.0

  abbrev undivided : Division → Bool
  undivided d = empty d.0 || empty d.1 || joined_by d

  abbrev pub connected_by : Combination → Bool
  connected_by c = all undivided (divisions c)

  joined-intro : (xs ys : List ℕ) {s t : ℕ} → Memᴰ s xs → Memᴰ t ys → share s t ≡ true → joined_by (xs, ys) ≡ true
  joined-intro xs ys {s} {t} m n e = any-intro (λ (r : ℕ). any (share r) ys) xs m (any-intro (share s) ys n e)

  joined_at : (xs ys : List ℕ) → joined_by (xs, ys) ≡ true → (s t : ℕ) × Memᴰ s xs × Memᴰ t ys × (share s t ≡ true)
  joined_at xs ys e =
      let k = any_at (λ (r : ℕ). any (share r) ys) xs e in
      let l = any_at (share k.0) ys k.2 in
      (k.0, l.0, k.1, l.1, l.2)

  empty-none : (xs : List ℕ) {x : ℕ} → empty xs ≡ true → Memᴰ x xs → ⊥
  empty-none [] e m = Memᴰ.not-nil m
  empty-none (y ∷ xs) e m = true≢false (sym e)

  -- a test that goes over from member to member where they share, and that one member passes, all pass
  pub connected-all : (c : Combination) (p : ℕ → Bool) {r : ℕ} → connected_by c ≡ true → ((s t : ℕ) → Memᴰ s c → Memᴰ t c → p s ≡ true → share s t ≡ true → p t ≡ true) → Memᴰ r c → p r ≡ true → all p c ≡ true
  connected-all c p e over m h =
      ⊎_elim
      (λ k. ⊎_elim
      (λ l. absurd (empty-none xs l (mem-select p c m h)))
      (λ l. all-intro p c (λ x n. passes x (p x) refl l n))
      (or_cases (empty xs) (empty ys) k))
      (λ k.
      let j = joined_at xs ys k in
      let a = select-mem p c j.2 in
      let b = select-mem (λ (x : ℕ). not (p x)) c j.3 in
      absurd (not-both (over j.0 j.1 a.0 b.0 a.1 j.4) (not-true _ b.1)))
      (or_cases (empty xs || empty ys) (joined_by (xs, ys)) (all-at undivided (divisions c) e (division-by p c)))
    where
      xs : List ℕ
      xs = select p c

      ys : List ℕ
      ys = select (λ (x : ℕ). not (p x)) c

      passes : (x : ℕ) (b : Bool) → p x ≡ b → empty ys ≡ true → Memᴰ x c → p x ≡ true
      passes x true q l n = q
      passes x false q l n = absurd (empty-none ys l (mem-select (λ (x : ℕ). not (p x)) c n (ap not q)))

  -- From member r member t is reached: by steps from member to member, each sharing with the next.
  pub data Reaches (c : Combination) (r : ℕ) : ℕ → Type 0 where
    start : Reaches c r r
    step : {s t : ℕ} → Reaches c r s → Memᴰ t c → share s t ≡ true → Reaches c r t

  pub reaches-on : {c : Combination} {r s t : ℕ} → Reaches c r s → Reaches c s t → Reaches c r t
  reaches-on v start = v
  reaches-on v (step w n e) = step (reaches-on v w) n e

  -- .. in a combination with more members too
  pub reaches_more : {c d : Combination} {r t : ℕ} → ((s : ℕ) → Memᴰ s c → Memᴰ s d) → Reaches c r t → Reaches d r t
  reaches_more f start = start
  reaches_more f (step {s} {t} w n e) = step (reaches_more f w) (f t n) e

  -- what is reached from a member is one
  pub reaches-member : {c : Combination} {r t : ℕ} → Memᴰ r c → Reaches c r t → Memᴰ t c
  reaches-member m start = m
  reaches-member m (step w n e) = n

  -- what is reached from one group is in it, or the groups are joined
  crossing : {c xs ys : List ℕ} {r t : ℕ} → Divides c xs ys → Memᴰ r xs → Reaches c r t → Memᴰ t xs ⊎ (joined_by (xs, ys) ≡ true)
  crossing d m start = inl m
  crossing {xs} {ys} d m (step w n e) =
      ⊎_elim
      (λ k. ⊎_elim (λ l. inl l) (λ l. inr (joined-intro xs ys k l e)) (divides-cases d n))
      (λ j. inr j)
      (crossing d m w)

  undivided-intro : (xs ys : List ℕ) → ((s t : ℕ) → Memᴰ s xs → Memᴰ t ys → joined_by (xs, ys) ≡ true) → undivided (xs, ys) ≡ true
  undivided-intro [] ys f = refl
  undivided-intro (x ∷ xs) [] f = refl
  undivided-intro (x ∷ xs) (y ∷ ys) f = f x y here here

  module _ (symmetric : (s t : ℕ) → share s t ≡ true → share t s ≡ true) where
    -- .. and reaches it
    pub reaches-back : {c : Combination} {r t : ℕ} → Memᴰ r c → Reaches c r t → Reaches c t r
    reaches-back m start = start
    reaches-back m (step {s} {t} w n e) = reaches-on (step start (reaches-member m w) (symmetric s t e)) (reaches-back m w)

    joined-turned : (xs ys : List ℕ) → joined_by (ys, xs) ≡ true → joined_by (xs, ys) ≡ true
    joined-turned xs ys e = let j = joined_at ys xs e in joined-intro xs ys j.3 j.2 (symmetric j.0 j.1 j.4)

    -- a combination is connected if one member reaches all, and each shares with itself
    pub reached-connected : (c : Combination) {r : ℕ} → Memᴰ r c → ((t : ℕ) → Memᴰ t c → share t t ≡ true) → ((t : ℕ) → Memᴰ t c → Reaches c r t) → connected_by c ≡ true
    reached-connected c m self reach =
        all-intro undivided (divisions c)
        (λ d n.
        let xs = d.0 in
        let ys = d.1 in
        let div = division-divides c n in
        undivided-intro xs ys
        (λ s t ms mt.
        ⊎_elim
        (λ k. ⊎_elim
        (λ l. joined-intro xs ys l mt (self t (divides-left div l)))
        (λ j. j)
        (crossing div k (reach t (divides-left (divides-turned div) mt))))
        (λ k. ⊎_elim
        (λ l. joined-intro xs ys ms l (self s (divides-left div ms)))
        (λ j. joined-turned xs ys j)
        (crossing (divides-turned div) k (reach s (divides-left div ms))))
        (divides-cases div m)))

    -- groups of which the first has member s of a connected combination c are joined, if all that they have beyond c shares with s
    group-joined : (c d xs ys : List ℕ) {r s b : ℕ} → connected_by c ≡ true → ((t : ℕ) → Memᴰ t d → (t ≡ r) ⊎ Memᴰ t c) → ((t : ℕ) → Memᴰ t c → Memᴰ t d) → Memᴰ s c → share s r ≡ true → ((t : ℕ) → Memᴰ t d → share t t ≡ true) → Divides d xs ys → Memᴰ s xs → Memᴰ b ys → (x : Bool) → joined_by (xs, ys) ≡ x → joined_by (xs, ys) ≡ true
    group-joined c d xs ys e of into ms shares self div m n true j = j
    group-joined c d xs ys {r} {s} {b} e of into ms shares self div m n false j =
        let within = divides-left (divides-turned div) n in
        let one_side = connected-all c (λ (t : ℕ). elem t xs) e over ms (mem-elem xs m) in
        ⊎_elim
        (λ q. joined-intro xs ys m n (subst (λ (t : ℕ). share s t ≡ true) (sym q) shares))
        (λ k. joined-intro xs ys (elem_mem b xs (all-at (λ (t : ℕ). elem t xs) c one_side k)) n (self b within))
        (of b within)
      where
        over : (u v : ℕ) → Memᴰ u c → Memᴰ v c → elem u xs ≡ true → share u v ≡ true → elem v xs ≡ true
        over u v mu mv p h =
            ⊎_elim (λ k. mem-elem xs k) (λ k. absurd (not-both (joined-intro xs ys (elem_mem u xs p) k h) j)) (divides-cases div (into v mv))

    -- a connected combination and one relation more, which shares with a member
    pub joined-connected : (c d : Combination) {r s : ℕ} → connected_by c ≡ true → ((t : ℕ) → Memᴰ t d → (t ≡ r) ⊎ Memᴰ t c) → ((t : ℕ) → Memᴰ t c → Memᴰ t d) → Memᴰ s c → share s r ≡ true → ((t : ℕ) → Memᴰ t d → share t t ≡ true) → connected_by d ≡ true
    joined-connected c d {s = s} e of into ms shares self =
        all-intro undivided (divisions d)
        (λ x n.
        let xs = x.0 in
        let ys = x.1 in
        let div = division-divides d n in
        undivided-intro xs ys
        (λ a b ma mb.
        ⊎_elim
        (λ k. group-joined c d xs ys e of into ms shares self div k mb (joined_by (xs, ys)) refl)
        (λ k. joined-turned xs ys (group-joined c d ys xs e of into ms shares self (divides-turned div) k ma (joined_by (ys, xs)) refl))
        (divides-cases div (into s ms))))

-- ---- Scopes

module _ (N : Network) where
  pub connected-by : (c : Combination) → connected N c ≡ connected_by (share N) c
  unfolding connected
  connected-by c = refl

  pub share-intro : (r s x : ℕ) → elem x (scope_of N r) ≡ true → elem x (scope_of N s) ≡ true → share N r s ≡ true
  unfolding share
  share-intro r s x e f = any-intro (λ (x : ℕ). elem x (scope_of N s)) (scope_of N r) (elem_mem x (scope_of N r) e) f

  pub share-at : (r s : ℕ) → share N r s ≡ true → (x : ℕ) × (elem x (scope_of N r) ≡ true) × (elem x (scope_of N s) ≡ true)
  unfolding share
  share-at r s e = let k = any_at (λ (x : ℕ). elem x (scope_of N s)) (scope_of N r) e in (k.0, mem-elem (scope_of N r) k.1, k.2)

  pub share-sym : (r s : ℕ) → share N r s ≡ true → share N s r ≡ true
  share-sym r s e = let k = share-at r s e in share-intro s r k.0 k.2 k.1

  module _ (ok : Faultless N) (r : ℕ) (h : r < length N.relations) where
    width_some : 1 ≤ width N r
    width_some =
        let w = width N r in
        leb-true 1 w (and_left (leb 1 w) (leb w max_width) (all_get_d proper_width N.relations r no_relation ok.widths h))

    first_of : (w : ℕ) (x : ℕ) (xs : List ℕ) → 1 ≤ w → elem x (take w (x ∷ xs)) ≡ true
    first_of zero x xs l = absurd (omega arith)
    first_of (suc w) x xs l = mem-elem (x ∷ take w xs) here

    -- the scope's first variable
    pub scope-some : (x : ℕ) × (elem x (scope_of N r) ≡ true)
    unfolding scope_of
    scope-some =
        let b = before variables_in N.relations r in
        let w = width N r in
        let l : b < length N.variables = omega (arith, before-within variables_in N.relations r h, ok.variables, width_some) in
        let x = get_or N.variables b 0 in
        (x, subst (λ (ys : List ℕ). elem x (take w ys) ≡ true) (sym (drop-cons N.variables b 0 l)) (first_of w x (drop (suc b) N.variables) width_some))

    pub share-self : share N r r ≡ true
    share-self = let k = scope-some in share-intro r r k.0 k.1 k.1
