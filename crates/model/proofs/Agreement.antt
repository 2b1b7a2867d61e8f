-- Laws of agreement: where two tuples clash, and that they agree exactly if no cell of the one, at whatever place, clashes with a cell
-- of the other. From the definitions alone; the laws of `fit` and `clash` are all that code needs to know of when values fit.
use mathlib.Core.Path.{◌≡◌, refl, sym, ◌∙◌, ap, ap₂, subst}
use mathlib.Core.Bool.{Bool, true, false, not, ◌&&◌, ◌||◌, or-false, or_comm, false≢true}
use mathlib.Core.Option.{Option, none, some}
use mathlib.Core.List.Memᴰ
use mathlib.Core.List.{List, [], ◌∷◌, Memᴰ}
use mathlib.Core.Logic.{⊎_elim}
use Prim.Native.Nat.{ℕ, zero, suc, ◌+◌, ◌<◌}
use native.Mathlib.Nat.{le_of_suc-le-suc}
use native.Mathlib.Omega.{arith}
use lib.Dec.{ltb, eqb}
use lib.ListN.{length, get_or}
use borrow.Author.Tests.{ltb-true, eq-eqb, ne_eqb, eqb-true, not-true}
use Rattle.model.specs.Limits.{variable_count, no_variable}
use Rattle.model.specs.Lists.{from, all, any, pairwise, elem, select, keep_if, is_none}
use Rattle.model.specs.Network.{Network, size, total, first_id, relation_of, scope_of, values_at, tuple_of}
use Rattle.model.specs.Agreement.{Cell, is_any, fit, cells, clash, clashes, first_clashing, agreeing, under, cells_of, first_clash, agree, clash_number}
use Rattle.model.specs.Fault.{different, proper_scope}
use Rattle.model.proofs.Bools.{and_left, and_right, and_intro, or_left, or_right, iff-eq, not-both, false-intro}
use Rattle.model.proofs.Lists.{here, all-at, all_get_d, any_at, any-intro, select-mem, mem-select, get_d-mem, mem-elem, eqb-sym, mem-from, is_none-none, least-mem, least-none, none-least}
use Rattle.model.proofs.Network.{ids-relation_of, relation_of-at, index_of-at}
use Rattle.model.proofs.Fault.{different-unique, Faultless}

-- ---- When values fit

pub fit-sym : (a b : ℕ) → fit a b ≡ fit b a
unfolding fit
fit-sym a b = ap₂ (λ (x y : Bool). x || y) (eqb-sym a b) (or_comm (is_any a) (is_any b))

-- any fits every value
pub fit-any : (a b : ℕ) → is_any a ≡ true → fit a b ≡ true
unfolding fit
fit-any a b e = or_right (eqb a b) (or_left (is_any b) e)

-- other values fit only if equal
pub fit-equal : (a b : ℕ) → is_any a ≡ false → is_any b ≡ false → fit a b ≡ true → a ≡ b
unfolding fit
fit-equal a b u v e = eqb-true a b (sym (or-false (eqb a b)) ∙ ap (λ (x : Bool). eqb a b || x) (sym (ap₂ (λ (x y : Bool). x || y) u v)) ∙ e)

-- values that fit one value other than any fit each other
pub fit-common : (u v w : ℕ) → is_any w ≡ false → fit u w ≡ true → fit v w ≡ true → fit u v ≡ true
fit-common u v w d e f = go (is_any u) (is_any v) refl refl
  where
    go : (x y : Bool) → is_any u ≡ x → is_any v ≡ y → fit u v ≡ true
    go true y p q = fit-any u v p
    go false true p q = fit-sym u v ∙ fit-any v u q
    go false false p q = subst (λ (z : ℕ). fit u z ≡ true) (sym (fit-equal v w q d f)) e

-- ---- When cells clash

clash-case : (x y : Cell) (b : Bool) → eqb x.0 y.0 ≡ b → (x.0 ≡ y.0 → fit x.1 y.1 ≡ true) → (b && not (fit x.1 y.1)) ≡ false
clash-case x y true e f = ap not (f (eqb-true x.0 y.0 e))
clash-case x y false e f = refl

-- cells whose values fit where they have the same variable do not clash
pub clash-none : (x y : Cell) → (x.0 ≡ y.0 → fit x.1 y.1 ≡ true) → clash x y ≡ false
unfolding clash
clash-none x y f = clash-case x y (eqb x.0 y.0) refl f

pub clash-other-variable : (x y : Cell) → (x.0 ≡ y.0 → ⊥) → clash x y ≡ false
clash-other-variable x y d = clash-none x y (λ e. absurd (d e))

pub clash-unfit : (x y : Cell) → x.0 ≡ y.0 → fit x.1 y.1 ≡ false → clash x y ≡ true
unfolding clash
clash-unfit x y e d = ap₂ (λ (a b : Bool). a && not b) (eq-eqb x.0 y.0 e) d

clash-both : (b c : Bool) → (b && not c) ≡ true → (b ≡ true) × (c ≡ false)
clash-both true c e = (refl, not-true c e)
clash-both false c e = absurd (false≢true e)

-- cells that clash have the same variable, and values that do not fit
pub clash-is : (x y : Cell) → clash x y ≡ true → (x.0 ≡ y.0) × (fit x.1 y.1 ≡ false)
unfolding clash
clash-is x y e = let b = clash-both (eqb x.0 y.0) (fit x.1 y.1) e in (eqb-true x.0 y.0 b.0, b.1)

pub clash-sym : (x y : Cell) → clash x y ≡ clash y x
unfolding clash
clash-sym x y = ap₂ (λ (a b : Bool). a && not b) (eqb-sym x.0 y.0) (fit-sym x.1 y.1)

-- ---- Where cells clash

module _ (xs ys : List Cell) where
  pub mem-clashes : {x y : Cell} → Memᴰ x xs → Memᴰ y ys → clash x y ≡ true → Memᴰ x.0 (clashes xs ys)
  unfolding clashes
  mem-clashes {x} mx my e =
      Memᴰ.map (λ (z : Cell). z.0) (mem-select (λ (z : Cell). any (clash z) ys) xs mx (any-intro (clash x) ys my e))

  pub clashes-mem : {v : ℕ} → Memᴰ v (clashes xs ys) → (x : Cell) × (y : Cell) × Memᴰ x xs × Memᴰ y ys × (x.0 ≡ v) × (clash x y ≡ true)
  unfolding clashes
  clashes-mem m =
      let k = Memᴰ.of_map (λ (z : Cell). z.0) (select (λ (z : Cell). any (clash z) ys) xs) m in
      let s = select-mem (λ (z : Cell). any (clash z) ys) xs k.1 in
      let l = any_at (clash k.0) ys s.1 in
      (k.0, l.0, s.0, l.1, k.2, l.2)

  -- no two cells clash
  pub agreeing-intro : ((x y : Cell) → Memᴰ x xs → Memᴰ y ys → clash x y ≡ false) → agreeing xs ys ≡ true
  unfolding agreeing
  agreeing-intro f =
      ap is_none (none-least (clashes xs ys) (λ v m. let k = clashes-mem m in not-both k.5 (f k.0 k.1 k.2 k.3)))

  pub agreeing-at : {x y : Cell} → agreeing xs ys ≡ true → Memᴰ x xs → Memᴰ y ys → clash x y ≡ false
  unfolding agreeing
  agreeing-at {x} {y} e mx my =
      false-intro (clash x y) (λ c. least-none (clashes xs ys) (is_none-none (first_clashing xs ys) e) (mem-clashes mx my c))

-- ---- Cells by places

-- the cell at place k of a scope and its values
abbrev pub cell_at : List ℕ → List ℕ → ℕ → Cell
cell_at xs vs k = (get_or xs k 0, get_or vs k 0)

-- what holds of all variables holds of those of the cells
pub cells-all : (p : ℕ → Bool) (xs vs : List ℕ) → all p xs ≡ true → all (λ (c : Cell). p c.0) (cells xs vs) ≡ true
cells-all p [] vs e = refl
cells-all p (x ∷ xs) [] e = refl
cells-all p (x ∷ xs) (v ∷ vs) e = and_intro (and_left (p x) (all p xs) e) (cells-all p xs vs (and_right (p x) (all p xs) e))

-- it is one of the cells
pub mem-cells : (xs vs : List ℕ) (k : ℕ) → length xs ≡ length vs → k < length xs → Memᴰ (cell_at xs vs k) (cells xs vs)
mem-cells [] vs k l h = absurd (omega arith)
mem-cells (x ∷ xs) [] k l h = absurd (omega arith)
mem-cells (x ∷ xs) (v ∷ vs) zero l h = here
mem-cells (x ∷ xs) (v ∷ vs) (suc k) l h = Memᴰ.tail (mem-cells xs vs k (omega arith) (le_of_suc-le-suc h))

-- .. and every cell stands at some place
pub cells-mem : (xs vs : List ℕ) {x : Cell} → Memᴰ x (cells xs vs) → (k : ℕ) × (k < length xs) × (x ≡ cell_at xs vs k)
cells-mem [] vs m = absurd (Memᴰ.not-nil m)
cells-mem (x ∷ xs) [] m = absurd (Memᴰ.not-nil m)
cells-mem (y ∷ xs) (v ∷ vs) {x} m =
    ⊎_elim
    {C = (k : ℕ) × (k < length (y ∷ xs)) × (x ≡ cell_at (y ∷ xs) (v ∷ vs) k)}
    (λ e. (0, omega arith, e))
    (λ n. let r = cells-mem xs vs n in (suc r.0, omega (arith, r.1), r.2))
    (Memᴰ.cases_cons m)

-- a test that no place passes
pub cells-none : (p : Cell → Bool) (xs vs : List ℕ) → ((k : ℕ) → k < length xs → p (cell_at xs vs k) ≡ false) → any p (cells xs vs) ≡ false
cells-none p [] vs f = refl
cells-none p (x ∷ xs) [] f = refl
cells-none p (x ∷ xs) (v ∷ vs) f =
    ap (λ (b : Bool). b || any p (cells xs vs)) (f 0 (omega arith)) ∙ cells-none p xs vs (λ k h. f (suc k) (omega arith))

-- a test that no place but k passes
pub cells-one : (p : Cell → Bool) (xs vs : List ℕ) (k : ℕ) → length xs ≡ length vs → k < length xs → ((j : ℕ) → j < length xs → (j ≡ k → ⊥) → p (cell_at xs vs j) ≡ false) → any p (cells xs vs) ≡ p (cell_at xs vs k)
cells-one p [] vs k l h f = absurd (omega arith)
cells-one p (x ∷ xs) [] k l h f = absurd (omega arith)
cells-one p (x ∷ xs) (v ∷ vs) zero l h f =
    ap (λ (b : Bool). p (x, v) || b) (cells-none p xs vs (λ j m. f (suc j) (omega arith) (λ e. omega arith))) ∙ or-false (p (x, v))
cells-one p (x ∷ xs) (v ∷ vs) (suc k) l h f =
    ap (λ (b : Bool). b || any p (cells xs vs)) (f 0 (omega arith) (λ e. omega arith))
    ∙ cells-one p xs vs k (omega arith) (le_of_suc-le-suc h) (λ j m d. f (suc j) (omega arith) (λ e. d (omega arith)))

-- places k and l clash
pub agreeing-clash : (xs vs ys ws : List ℕ) (k l : ℕ) → length xs ≡ length vs → length ys ≡ length ws → k < length xs → l < length ys → clash (cell_at xs vs k) (cell_at ys ws l) ≡ true → agreeing (cells xs vs) (cells ys ws) ≡ false
agreeing-clash xs vs ys ws k l ex ey hk hl e =
    false-intro (agreeing (cells xs vs) (cells ys ws))
    (λ t. not-both e (agreeing-at (cells xs vs) (cells ys ws) t (mem-cells xs vs k ex hk) (mem-cells ys ws l ey hl)))

-- variables below 64 clash below 64
pub first_clashing-below : (xs vs : List ℕ) (ys : List Cell) → all (λ (x : ℕ). ltb x variable_count) xs ≡ true → (v : ℕ) → first_clashing (cells xs vs) ys ≡ some v → v < variable_count
first_clashing-below xs vs ys low v e =
    let m = clashes-mem (cells xs vs) ys (least-mem (clashes (cells xs vs) ys) e) in
    let k = cells-mem xs vs m.2 in
    let below = ltb-true (get_or xs k.0 0) variable_count (all_get_d (λ (x : ℕ). ltb x variable_count) xs k.0 0 low k.1) in
    omega (arith, below, m.4, ap (λ (x : Cell). x.0) k.2)

-- .. so that the number of a clash tells whether there is one
pub clash_number-is_none : (o : Option ℕ) → ((v : ℕ) → o ≡ some v → v < variable_count) → eqb (clash_number o) no_variable ≡ is_none o
clash_number-is_none none low = refl
clash_number-is_none (some v) low = ne_eqb v no_variable (λ e. omega (arith, low v refl, e))

pub clash_number-none : (o : Option ℕ) → ((v : ℕ) → o ≡ some v → v < variable_count) → clash_number o ≡ no_variable → o ≡ none
clash_number-none o low e = is_none-none o (sym (clash_number-is_none o low) ∙ eq-eqb (clash_number o) no_variable e)

pub clash_number-some : (o : Option ℕ) (n : ℕ) → clash_number o ≡ n → (n ≡ no_variable → ⊥) → o ≡ some n
clash_number-some none n e d = absurd (d (sym e))
clash_number-some (some v) n e d = ap some e

-- ---- Cells under some of the variables

-- values that are equal in every column whose variable passes the test
pub cells-under : (test : ℕ → Bool) (xs vs ws : List ℕ) → length xs ≡ length vs → length xs ≡ length ws → ((k : ℕ) → k < length xs → test (get_or xs k 0) ≡ true → get_or vs k 0 ≡ get_or ws k 0) → under test (cells xs vs) ≡ under test (cells xs ws)
cells-under test [] vs ws l m f = refl
cells-under test (x ∷ xs) [] ws l m f = absurd (omega arith)
cells-under test (x ∷ xs) (v ∷ vs) [] l m f = absurd (omega arith)
cells-under test (x ∷ xs) (v ∷ vs) (w ∷ ws) l m f =
    same (test x) (f 0 (omega arith)) ∙ ap (keep_if (test x) (x, w)) (cells-under test xs vs ws (omega arith) (omega arith) (λ k h. f (suc k) (omega arith)))
  where
    same : (b : Bool) → (b ≡ true → v ≡ w) → keep_if b (x, v) (under test (cells xs vs)) ≡ keep_if b (x, w) (under test (cells xs vs))
    same true e = ap {B = List Cell} (λ u. (x, u) ∷ under test (cells xs vs)) (e refl)
    same false e = refl

-- ---- Agreement of tuples

pub agree-cells : (N : Network) (g h : ℕ) → agree N g h ≡ agreeing (cells_of N g) (cells_of N h)
unfolding agree first_clash agreeing
agree-cells N g h = refl

agreeing-turned : (xs ys : List Cell) → agreeing xs ys ≡ true → agreeing ys xs ≡ true
agreeing-turned xs ys e = agreeing-intro ys xs (λ y x my mx. clash-sym y x ∙ agreeing-at xs ys e mx my)

pub agree-sym : (N : Network) (g h : ℕ) → agree N g h ≡ agree N h g
agree-sym N g h =
    agree-cells N g h
    ∙ iff-eq (agreeing (cells_of N g) (cells_of N h)) (agreeing (cells_of N h) (cells_of N g))
    (agreeing-turned (cells_of N g) (cells_of N h)) (agreeing-turned (cells_of N h) (cells_of N g))
    ∙ sym (agree-cells N h g)

-- it looks at those cells only whose variable the other tuple has
pub agreeing-under : (test : ℕ → Bool) (xs : List Cell) (ys ws : List ℕ) → ((v : ℕ) → elem v ys ≡ true → test v ≡ true) → agreeing (under test xs) (cells ys ws) ≡ agreeing xs (cells ys ws)
agreeing-under test xs ys ws covers =
    let zs = cells ys ws in
    iff-eq (agreeing (under test xs) zs) (agreeing xs zs)
    (λ e. agreeing-intro xs zs (λ x y mx my. passes (test x.0) refl e mx my))
    (λ e. agreeing-intro (under test xs) zs (λ x y mx my. agreeing-at xs zs e (select-mem (λ (z : Cell). test z.0) xs mx).0 my))
  where
    passes : {x y : Cell} (b : Bool) → test x.0 ≡ b → agreeing (under test xs) (cells ys ws) ≡ true → Memᴰ x xs → Memᴰ y (cells ys ws) → clash x y ≡ false
    passes true q e mx my = agreeing-at (under test xs) (cells ys ws) e (mem-select (λ (z : Cell). test z.0) xs mx q) my
    passes {x} {y} false q e mx my =
        let k = cells-mem ys ws my in
        clash-other-variable x y
        (λ p. not-both (covers x.0 (mem-elem ys (Memᴰ.cast (p ∙ ap (λ (z : Cell). z.0) k.2) (get_d-mem ys k.0 0 k.1)))) q)

-- the cells of the tuple at index x of relation r
pub cells_of-at : (N : Network) (r x : ℕ) → x < size N r → cells_of N (first_id N r + x) ≡ cells (scope_of N r) (values_at N r x)
unfolding cells_of tuple_of
cells_of-at N r x h = rw (relation_of-at N r x h, index_of-at N r x h)

-- by relation and index
pub first_clash-at : (N : Network) (r x s y : ℕ) → x < size N r → y < size N s → first_clash N (first_id N r + x) (first_id N s + y) ≡ first_clashing (cells (scope_of N r) (values_at N r x)) (cells (scope_of N s) (values_at N s y))
unfolding first_clash
first_clash-at N r x s y hx hy = ap₂ (λ (xs ys : List Cell). first_clashing xs ys) (cells_of-at N r x hx) (cells_of-at N s y hy)

-- ---- In a network without fault

module _ (N : Network) (sound : Faultless N) (g : ℕ) (below : g < total N) where
  scope-proper : proper_scope (scope_of N (relation_of N g)) ≡ true
  scope-proper =
      let exists = (ids-relation_of N g below).0 in
      all-at (λ (r : ℕ). proper_scope (scope_of N r)) (from 0 (length N.relations)) sound.scopes (mem-from 0 (length N.relations) (relation_of N g) (omega arith) (omega (arith, exists)))

  scope-low : all (λ (x : ℕ). ltb x variable_count) (scope_of N (relation_of N g)) ≡ true
  scope-low =
      let scope = scope_of N (relation_of N g) in
      and_left (all (λ (x : ℕ). ltb x variable_count) scope) (pairwise different scope) scope-proper

  -- a tuple's variables are below 64
  pub cell-low : {x : Cell} → Memᴰ x (cells_of N g) → x.0 < variable_count
  unfolding cells_of
  cell-low m =
      let scope = scope_of N (relation_of N g) in
      let k = cells-mem scope (tuple_of N g) m in
      omega (arith, ap (λ (x : Cell). x.0) k.2, ltb-true (get_or scope k.0 0) variable_count (all_get_d (λ (x : ℕ). ltb x variable_count) scope k.0 0 scope-low k.1))

  scope-different : pairwise different (scope_of N (relation_of N g)) ≡ true
  scope-different =
      let scope = scope_of N (relation_of N g) in
      and_right (all (λ (x : ℕ). ltb x variable_count) scope) (pairwise different scope) scope-proper

  -- a variable has one value
  pub cell-unique : {x y : Cell} → Memᴰ x (cells_of N g) → Memᴰ y (cells_of N g) → x.0 ≡ y.0 → x.1 ≡ y.1
  unfolding cells_of
  cell-unique mx my e =
      let scope = scope_of N (relation_of N g) in
      let vs = tuple_of N g in
      let k = cells-mem scope vs mx in
      let l = cells-mem scope vs my in
      let same = different-unique scope k.0 l.0 scope-different k.1 l.1 (sym (ap (λ (z : Cell). z.0) k.2) ∙ e ∙ ap (λ (z : Cell). z.0) l.2) in
      ap (λ (z : Cell). z.1) k.2 ∙ ap (λ (j : ℕ). get_or vs j 0) same ∙ sym (ap (λ (z : Cell). z.1) l.2)

-- .. so that tuples clash below 64
pub first_clash-low : (N : Network) → Faultless N → (g h : ℕ) → g < total N → (v : ℕ) → first_clash N g h ≡ some v → v < variable_count
unfolding first_clash cells_of
first_clash-low N sound g h below = first_clashing-below (scope_of N (relation_of N g)) (tuple_of N g) (cells_of N h) (scope-low N sound g below)

-- ---- By relation and index

pub agree_at : (N : Network) (r x s y : ℕ) → x < size N r → y < size N s → agree N (first_id N r + x) (first_id N s + y) ≡ agreeing (cells (scope_of N r) (values_at N r x)) (cells (scope_of N s) (values_at N s y))
agree_at N r x s y hx hy = agree-cells N (first_id N r + x) (first_id N s + y) ∙ ap₂ agreeing (cells_of-at N r x hx) (cells_of-at N s y hy)

-- tuples with the same values under the variables of relation s agree with the same tuples of it
pub agree-alike : (N : Network) (test : ℕ → Bool) (g h s z : ℕ) → z < size N s → ((v : ℕ) → elem v (scope_of N s) ≡ true → test v ≡ true) → under test (cells_of N g) ≡ under test (cells_of N h) → agree N g (first_id N s + z) ≡ agree N h (first_id N s + z)
agree-alike N test g h s z l covers same =
    let zs = cells (scope_of N s) (values_at N s z) in
    agree-cells N g (first_id N s + z)
    ∙ ap (agreeing (cells_of N g)) (cells_of-at N s z l)
    ∙ sym (agreeing-under test (cells_of N g) (scope_of N s) (values_at N s z) covers)
    ∙ ap (λ (xs : List Cell). agreeing xs zs) same
    ∙ agreeing-under test (cells_of N h) (scope_of N s) (values_at N s z) covers
    ∙ ap (agreeing (cells_of N h)) (sym (cells_of-at N s z l))
    ∙ sym (agree-cells N h (first_id N s + z))
