-- Moves: what a move answers, that a move and the move back leave the same network, and that the moved network means the same.
-- From the definitions, the order of the faults, and the law that replies depend on agreement and removal alone.
use mathlib.Core.Path.{◌≡◌, refl, sym, ◌∙◌, ap, ap₂}
use mathlib.Core.Bool.{Bool, true, false, not, ◌&&◌, ◌||◌, false≢true}
use mathlib.Core.Option.{Option, none, some}
use mathlib.Core.List.{List, [], ◌∷◌, ◌++◌, map}
use Prim.Native.Nat.{ℕ, zero, suc, ◌+◌, ◌*◌, ◌≤◌, ◌<◌}
use native.Mathlib.Omega.{arith}
use lib.Dec.{leb, ltb, eqb}
use lib.ListN.{length, take, drop, length-map, length-append, length-drop}
use lib.Seq.{take_at}
use borrow.Author.Tests.{eq-eqb, ne_eqb, eqb-true, eqb-false, le-leb, leb-true, lt-ltb, lt-leb, ltb-true, ltb-false, le-ltb}
use Rattle.model.specs.Limits.{any_value}
use Rattle.model.specs.Lists.{all, any, select, keep_if, is_none, least}
use Rattle.model.specs.Network.{Network, width, values_in, before, scope_of, relation_of, index_of, values_at, tuple_of}
use Rattle.model.specs.Agreement.{Cell, is_any, fit, cells, clash, clashes, cells_of, first_clash, agree}
use Rattle.model.specs.Request.{Change, filter, withdraw, choose, choose_several, unlike, removes}
use Rattle.model.specs.Fault.{Fault, all_variables, network_faults, change_faults, first_fault}
use Rattle.model.specs.Moves.{old_any, widened, narrowed, too_wide, Move, widen, narrow, moved, too_wide_faults, move_faults, MoveReply, move_to, move_reply, MoveAnswered, with_values, moved_network, values_to, Returns, fit_by, clash_by, first_clash_by, agree_by, unlike_by, removes_by, widened_change, value_to, widened_network, SameMeaning}
use Rattle.model.proofs.Bools.{and_left, and_right, and_intro, or-false-left, or-false-right, not-both}
use Rattle.model.proofs.Fault.{no-fault-at, none-first_fault, first_fault-some, first_fault-append-none, first_fault-front, first_fault-back, no-fault-here}
use Rattle.model.proofs.Meaning.{network_faults-values, reply-same}

-- ---- What a move answers

module _ (d : Move) (N : Network) (target : List ℕ) where
  abbrev tests : List Fault
  tests = move_faults d N (length target)

  abbrev values : List ℕ
  values = map (moved d) N.values

  reply-by : (o : Option ℕ) → first_fault tests ≡ o → move_reply d N target ≡ move_to o values target
  unfolding move_reply
  reply-by o e = ap (λ (p : Option ℕ). move_to p values target) e

  -- a done one has no fault
  pub done_none : (o : Option ℕ) → first_fault tests ≡ o → (move_reply d N target).answer ≡ (0, 0) → first_fault tests ≡ none
  done_none none e a = e
  done_none (some f) e a =
      let two : ◌≡◌ {A = ℕ} 2 0 = ap (λ (n : ℕ × ℕ). n.0) (sym (ap (λ (p : MoveReply). p.answer) (reply-by (some f) e)) ∙ a) in
      absurd (omega arith)

  -- the list is long enough
  pub room-enough : first_fault tests ≡ none → length N.values ≤ length target
  room-enough e =
      let behind = first_fault-back (network_faults N) (too_wide_faults d N.values ++ ((24, ltb (length target) (length N.values)) ∷ [])) e in
      let last = first_fault-back (too_wide_faults d N.values) ((24, ltb (length target) (length N.values)) ∷ []) behind in
      ltb-false (length target) (length N.values) (no-fault-here (24, ltb (length target) (length N.values)) [] last)

  long-by : (o : Option ℕ) → first_fault tests ≡ o → length (move_to o values target).target ≡ length target
  long-by (some f) e = refl
  long-by none e =
      omega (arith, length-append values (drop (length values) target), length-drop (length values) target, length-map N.values (moved d), room-enough e)

  pub move-answered : MoveAnswered d N target (move_reply d N target)
  move-answered =
      record {
        done = λ none_of. reply-by none (none-first_fault tests none_of);
        done-only = λ a f m. no-fault-at tests (done_none (first_fault tests) refl a) m;
        first = λ n f. reply-by (some n) (ap first_fault f.2 ∙ first_fault-some f.0 f.1 n f.3);
        long = ap (λ (p : MoveReply). length p.target) (reply-by (first_fault tests) refl) ∙ long-by (first_fault tests) refl;
      }

-- ---- There and back

narrowed-widened : (v : ℕ) → v ≤ old_any → (narrowed (widened v) ≡ v) × (too_wide (widened v) ≡ false)
unfolding widened narrowed is_any
narrowed-widened v h = go (eqb v old_any) refl
  where
    go : (b : Bool) → eqb v old_any ≡ b → (narrowed (widened v) ≡ v) × (too_wide (widened v) ≡ false)
    go true e = rw e (sym (eqb-true v old_any e), refl)
    go false e =
        let less : v < old_any = let d = eqb-false v old_any e in omega (arith, d) in
        rw (e, ne_eqb v any_value (λ (k : v ≡ any_value). omega arith), lt-leb old_any v less) (refl, refl)

widened-narrowed : (v : ℕ) → v ≤ any_value → too_wide v ≡ false → widened (narrowed v) ≡ v
unfolding widened narrowed is_any
widened-narrowed v h w = go (eqb v any_value) refl
  where
    go : (b : Bool) → eqb v any_value ≡ b → widened (narrowed v) ≡ v
    go true e = rw e (sym (eqb-true v any_value e))
    go false e =
        let d = eqb-false v any_value e in
        let other : eqb v old_any ≡ false = ne_eqb v old_any (λ (k : v ≡ old_any). not-both (and_intro (le-leb old_any v (omega arith)) (lt-ltb v any_value (omega arith))) w) in
        rw (e, other) refl

-- a value that is neither any nor too wide
pub not_wide : (v : ℕ) → too_wide v ≡ false → is_any v ≡ false → v ≤ any_value → v < old_any
unfolding is_any
not_wide v w d h = go (ltb v old_any) refl
  where
    go : (b : Bool) → ltb v old_any ≡ b → v < old_any
    go true e = ltb-true v old_any e
    go false e =
        let k = ltb-false v old_any e in
        absurd (not-both (and_intro (le-leb old_any v k) (lt-ltb v any_value (omega (arith, eqb-false v any_value d)))) w)

module _ (N : Network) where
  all_back : (xs : List ℕ) → all (λ (v : ℕ). leb v old_any) xs ≡ true → (map narrowed (map widened xs) ≡ xs) × (any too_wide (map widened xs) ≡ false)
  all_back [] h = (refl, refl)
  all_back (x ∷ xs) h =
      let a = narrowed-widened x (leb-true x old_any (and_left (leb x old_any) (all (λ (v : ℕ). leb v old_any) xs) h)) in
      let b = all_back xs (and_right (leb x old_any) (all (λ (v : ℕ). leb v old_any) xs) h) in
      (ap₂ {C = List ℕ} (λ y ys. y ∷ ys) a.0 b.0, ap₂ (λ (p q : Bool). p || q) a.1 b.1)

  all-forth : (xs : List ℕ) → all (λ (v : ℕ). leb v any_value) xs ≡ true → any too_wide xs ≡ false → map widened (map narrowed xs) ≡ xs
  all-forth [] h w = refl
  all-forth (x ∷ xs) h w =
      ap₂ {C = List ℕ} (λ y ys. y ∷ ys)
      (widened-narrowed x (leb-true x any_value (and_left (leb x any_value) (all (λ (v : ℕ). leb v any_value) xs) h)) (or-false-left (too_wide x) (any too_wide xs) w))
      (all-forth xs (and_right (leb x any_value) (all (λ (v : ℕ). leb v any_value) xs) h) (or-false-right (too_wide x) (any too_wide xs) w))

  -- a move and the move back, where that gives the values again
  module _ (there back : Move) (same : map (moved back) (map (moved there) N.values) ≡ N.values) (fits : first_fault (too_wide_faults back (map (moved there) N.values)) ≡ none) where
    pub returns : (target : List ℕ) → Returns there back N target
    returns target a other enough =
        let vs = N.values in
        let us = map (moved there) vs in
        let n = length-map vs (moved there) in
        let e = done_none there N target (first_fault (move_faults there N (length target))) refl a in
        let stands : take (length vs) (move_reply there N target).target ≡ us =
        ap (λ (p : MoveReply). take (length vs) p.target) (reply-by there N target none e) ∙ take_at us (drop (length us) target) (length vs) n
        in
        let M = with_values N us in
        let is : moved_network N (move_reply there N target) ≡ M = ap (with_values N) stands in
        let faults : first_fault (network_faults M) ≡ none =
        ap first_fault (network_faults-values N us vs n) ∙ first_fault-front (network_faults N) (too_wide_faults there vs ++ ((24, ltb (length target) (length vs)) ∷ [])) e
        in
        let room : ltb (length other) (length us) ≡ false = le-ltb (length other) (length us) (omega (arith, leb-true (length vs) (length other) enough, n)) in
        let free : first_fault (move_faults back M (length other)) ≡ none =
        first_fault-append-none (network_faults M) (too_wide_faults back us ++ ((24, ltb (length other) (length us)) ∷ [])) faults
        ∙ first_fault-append-none (too_wide_faults back us) ((24, ltb (length other) (length us)) ∷ []) fits
        ∙ rw room refl
        in
        let done = ap (λ (K : Network). move_reply back K other) is ∙ reply-by back M other none free in
        let again : take (length vs) (map (moved back) us ++ drop (length (map (moved back) us)) other) ≡ vs =
        take_at (map (moved back) us) (drop (length (map (moved back) us)) other) (length vs) (ap length same) ∙ same
        in
        (ap (λ (p : MoveReply). p.answer) done, ap (λ (p : MoveReply). moved_network N p) done ∙ ap (with_values N) again)

-- an old network moves to the new form and back to the same network
pub widen-returns : (N : Network) (target : List ℕ) → values_to old_any N ≡ true → Returns widen narrow N target
widen-returns N target small =
    let b = all_back N N.values small in
    returns N widen narrow b.0 (rw b.1 refl) target

-- a new one that moves back, and forth again, too
pub narrow_returns : (N : Network) (target : List ℕ) → values_to any_value N ≡ true → Returns narrow widen N target
narrow_returns N target small a other enough =
    let vs = N.values in
    let e = done_none narrow N target (first_fault (move_faults narrow N (length target))) refl a in
    let none-wide = no-fault-here (23, any too_wide vs) ((24, ltb (length target) (length vs)) ∷ []) (first_fault-back (network_faults N) ((23, any too_wide vs) ∷ (24, ltb (length target) (length vs)) ∷ []) e) in
    returns N narrow widen (all-forth N vs small none-wide) refl target a other enough

-- ---- The same meaning

-- with any for w these are the meanings in force
pub first_clash_by-any : (N : Network) (g h : ℕ) → first_clash_by any_value N g h ≡ first_clash N g h
unfolding first_clash clashes clash fit is_any
first_clash_by-any N g h = refl

pub agree_by-any : (N : Network) (g h : ℕ) → agree_by any_value N g h ≡ agree N g h
unfolding agree first_clash clashes clash fit is_any
agree_by-any N g h = refl

pub removes_by-any : (N : Network) (change : Change) (g : ℕ) → removes_by any_value N change g ≡ removes N change g
unfolding removes fit is_any
removes_by-any N filter g = refl
removes_by-any N (withdraw ids) g = refl
removes_by-any N (choose x v) g = refl
removes_by-any N (choose_several xs vs) g = refl

-- an old value is any in the new form exactly if it was any, and no two old values become one
widened-any : (v : ℕ) → v ≤ old_any → is_any (widened v) ≡ eqb v old_any
unfolding widened is_any
widened-any v h = go (eqb v old_any) refl
  where
    go : (b : Bool) → eqb v old_any ≡ b → eqb (widened v) any_value ≡ eqb v old_any
    go true e = rw e refl
    go false e = rw e (ne_eqb v any_value (λ (k : v ≡ any_value). omega arith))

widened-eqb : (a b : ℕ) → a ≤ old_any → b ≤ old_any → eqb (widened a) (widened b) ≡ eqb a b
widened-eqb a b h k = go (eqb a b) refl
  where
    go : (x : Bool) → eqb a b ≡ x → eqb (widened a) (widened b) ≡ x
    go true e = eq-eqb (widened a) (widened b) (ap widened (eqb-true a b e))
    go false e =
        ne_eqb (widened a) (widened b)
        (λ (s : widened a ≡ widened b). eqb-false a b e (sym (narrowed-widened a h).0 ∙ ap narrowed s ∙ (narrowed-widened b k).0))

fit-widened : (a b : ℕ) → a ≤ old_any → b ≤ old_any → fit (widened a) (widened b) ≡ fit_by old_any a b
unfolding fit
fit-widened a b h k = rw (widened-eqb a b h k, widened-any a h, widened-any b k) refl

-- ---- Cells

abbrev wide : Cell → Cell
wide x = (x.0, widened x.1)

abbrev old : Cell → Bool
old x = leb x.1 old_any

cells-widened : (xs vs : List ℕ) → cells xs (map widened vs) ≡ map wide (cells xs vs)
cells-widened [] vs = refl
cells-widened (x ∷ xs) [] = refl
cells-widened (x ∷ xs) (v ∷ vs) = ap {B = List Cell} (λ cs. (x, widened v) ∷ cs) (cells-widened xs vs)

cells-old : (xs vs : List ℕ) → all (λ (v : ℕ). leb v old_any) vs ≡ true → all old (cells xs vs) ≡ true
cells-old [] vs h = refl
cells-old (x ∷ xs) [] h = refl
cells-old (x ∷ xs) (v ∷ vs) h =
    and_intro (and_left (leb v old_any) (all (λ (u : ℕ). leb u old_any) vs) h) (cells-old xs vs (and_right (leb v old_any) (all (λ (u : ℕ). leb u old_any) vs) h))

map-take : (n : ℕ) (vs : List ℕ) → take n (map widened vs) ≡ map widened (take n vs)
map-take zero vs = refl
map-take (suc n) [] = refl
map-take (suc n) (v ∷ vs) = ap {B = List ℕ} (λ us. widened v ∷ us) (map-take n vs)

map-drop : (n : ℕ) (vs : List ℕ) → drop n (map widened vs) ≡ map widened (drop n vs)
map-drop zero vs = refl
map-drop (suc n) [] = refl
map-drop (suc n) (v ∷ vs) = map-drop n vs

module _ (p : ℕ → Bool) where
  all_take : (n : ℕ) (vs : List ℕ) → all p vs ≡ true → all p (take n vs) ≡ true
  all_take zero vs h = refl
  all_take (suc n) [] h = refl
  all_take (suc n) (v ∷ vs) h = and_intro (and_left (p v) (all p vs) h) (all_take n vs (and_right (p v) (all p vs) h))

  all_drop : (n : ℕ) (vs : List ℕ) → all p vs ≡ true → all p (drop n vs) ≡ true
  all_drop zero vs h = h
  all_drop (suc n) [] h = refl
  all_drop (suc n) (v ∷ vs) h = all_drop n vs (and_right (p v) (all p vs) h)

-- a test of each cell, and of each cell in the new form
any-widened : (p q : Cell → Bool) (xs : List Cell) → ((x : Cell) → old x ≡ true → p (wide x) ≡ q x) → all old xs ≡ true → any p (map wide xs) ≡ any q xs
any-widened p q [] f h = refl
any-widened p q (x ∷ xs) f h =
    ap₂ (λ (a b : Bool). a || b) (f x (and_left (old x) (all old xs) h)) (any-widened p q xs f (and_right (old x) (all old xs) h))

abbrev first : List Cell → List ℕ
first = map (λ (x : Cell). x.0)

select_widened : (p q : Cell → Bool) (xs : List Cell) → ((x : Cell) → old x ≡ true → p (wide x) ≡ q x) → all old xs ≡ true → first (select p (map wide xs)) ≡ first (select q xs)
select_widened p q [] f h = refl
select_widened p q (x ∷ xs) f h = go (p (wide x)) (q x) (f x (and_left (old x) (all old xs) h)) (select_widened p q xs f (and_right (old x) (all old xs) h))
  where
    go : (a b : Bool) → a ≡ b → first (select p (map wide xs)) ≡ first (select q xs) → first (keep_if a (wide x) (select p (map wide xs))) ≡ first (keep_if b x (select q xs))
    go true true e s = ap {B = List ℕ} (λ ys. x.0 ∷ ys) s
    go false false e s = s
    go true false e s = absurd (false≢true (sym e))
    go false true e s = absurd (false≢true e)

clash-widened : (x y : Cell) → old x ≡ true → old y ≡ true → clash (wide x) (wide y) ≡ clash_by old_any x y
unfolding clash
clash-widened x y h k =
    ap (λ (b : Bool). eqb x.0 y.0 && not b) (fit-widened x.1 y.1 (leb-true x.1 old_any h) (leb-true y.1 old_any k))

-- ---- A network

module _ (N : Network) (small : values_to old_any N ≡ true) where
  abbrev W : Network
  W = widened_network N

  -- where the values of tuple g begin
  abbrev begins : ℕ → ℕ
  begins g = before values_in N.relations (relation_of N g) + index_of N g * width N (relation_of N g)

  cells_of-widened : (g : ℕ) → cells_of W g ≡ map wide (cells_of N g)
  unfolding cells_of tuple_of values_at index_of relation_of scope_of
  cells_of-widened g =
      let r = relation_of N g in
      let k = begins g in
      ap (cells (scope_of N r)) (ap (take (width N r)) (map-drop k N.values) ∙ map-take (width N r) (drop k N.values)) ∙ cells-widened (scope_of N r) (tuple_of N g)

  cells_of-old : (g : ℕ) → all old (cells_of N g) ≡ true
  unfolding cells_of tuple_of values_at
  cells_of-old g =
      let r = relation_of N g in
      let k = begins g in
      cells-old (scope_of N r) (tuple_of N g) (all_take (λ (v : ℕ). leb v old_any) (width N r) (drop k N.values) (all_drop (λ (v : ℕ). leb v old_any) k N.values small))

  clashes-widened : (g h : ℕ) → first_clash W g h ≡ first_clash_by old_any N g h
  unfolding first_clash clashes
  clashes-widened g h =
      let xs = cells_of N g in
      let ys = cells_of N h in
      ap₂ (λ (us vs : List Cell). least (map (λ (x : Cell). x.0) (select (λ (x : Cell). any (clash x) vs) us))) (cells_of-widened g) (cells_of-widened h)
      ∙ ap least
      (select_widened (λ (x : Cell). any (clash x) (map wide ys)) (λ (x : Cell). any (clash_by old_any x) ys) xs
      (λ x o. any-widened (clash (wide x)) (clash_by old_any x) ys (λ y p. clash-widened x y o p) (cells_of-old h))
      (cells_of-old g))

  agrees-widened : (g h : ℕ) → agree W g h ≡ agree_by old_any N g h
  unfolding agree
  agrees-widened g h = ap is_none (clashes-widened g h)

  unlike-widened : (p : Cell) → old p ≡ true → (g : ℕ) → unlike W g (wide p) ≡ unlike_by old_any N g p
  unlike-widened p h g =
      ap (any (λ (c : Cell). eqb c.0 p.0 && not (fit c.1 (widened p.1)))) (cells_of-widened g)
      ∙ any-widened (λ (c : Cell). eqb c.0 p.0 && not (fit c.1 (widened p.1))) (λ (c : Cell). eqb c.0 p.0 && not (fit_by old_any c.1 p.1)) (cells_of N g)
      (λ c o. ap (λ (b : Bool). eqb c.0 p.0 && not b) (fit-widened c.1 p.1 (leb-true c.1 old_any o) (leb-true p.1 old_any h)))
      (cells_of-old g)

  removes-widened : (change : Change) → value_to old_any change ≡ true → (g : ℕ) → removes W (widened_change change) g ≡ removes_by old_any N change g
  unfolding removes
  removes-widened filter h g = refl
  removes-widened (withdraw ids) h g = refl
  removes-widened (choose x v) h g = unlike-widened (x, v) h g
  removes-widened (choose_several xs vs) h g =
      ap (any (unlike W g)) (cells-widened xs vs)
      ∙ any-widened (unlike W g) (unlike_by old_any N g) (cells xs vs) (λ p o. unlike-widened p o g) (cells-old xs vs h)

  change_faults-widened : (change : Change) → change_faults N (widened_change change) ≡ change_faults N change
  change_faults-widened filter = refl
  change_faults-widened (withdraw ids) = refl
  change_faults-widened (choose x v) = refl
  change_faults-widened (choose_several xs vs) =
      ap (λ (n : ℕ). (19, not (eqb (length xs) n)) ∷ (14, not (all_variables xs)) ∷ []) (length-map vs widened)

  -- In the new form the network means what it meant.
  pub same-meaning : SameMeaning N
  same-meaning =
      record {
        clashes = clashes-widened;
        agrees = agrees-widened;
        removed = removes-widened;
        replies = λ values change meant long value agreement removal tests m members words supports counts.
            reply-same N (map widened N.values) values (λ g h. agrees-widened g h ∙ sym (agreement g h)) (length-map N.values widened ∙ sym long) m members words supports counts (widened_change change) meant
            (change_faults-widened change ∙ sym tests) (λ g. removes-widened change value g ∙ sym (removal g));
      }
