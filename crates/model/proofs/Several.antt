-- Choosing several at once: it leaves what choosing the pairs one by one leaves, in any order; of two contrary values no tuple is left but
-- with any; and without pairs it only filters. From the strike rule's step from call to call, and the laws of faults.
use mathlib.Core.Path.{◌≡◌, refl, sym, ◌∙◌, ap, subst, fun_ext}
use mathlib.Core.Bool.{Bool, true, false, not, ◌&&◌, ◌||◌, cond, or-false, or_assoc, true≢false}
use mathlib.Core.Option.{Option, none, some, some-injective}
use mathlib.Core.Logic.{⊎_elim}
use mathlib.Core.List.Memᴰ
use mathlib.Core.List.{List, [], ◌∷◌, ◌++◌, Memᴰ}
use Prim.Native.Nat.{ℕ, ◌-◌}
use native.Mathlib.Omega.{arith}
use borrow.Author.Tests.{eq-eqb, not-false}
use lib.Dec.{ltb, eqb}
use lib.ListN.{length, drop, length-append, length-drop}
use lib.Seq.{drop_at}
use Rattle.model.specs.Limits.{variable_count}
use Rattle.model.specs.Lists.{all, any, empty, Permutation}
use Rattle.model.specs.TupleSet.{TupleSet, count, restrict, without}
use Rattle.model.specs.Network.{Network, total}
use Rattle.model.specs.Agreement.{Cell, is_any, fit, cells, cells_of}
use Rattle.model.specs.Combination.{Combination}
use Rattle.model.specs.Consistency.{filtered, support_list, needed}
use Rattle.model.specs.LiveWords.{living}
use Rattle.model.specs.Request.{Change, filter, choose, choose_several, Instance, combinations_of, Request, unlike, removes}
use Rattle.model.specs.Fault.{first_fault, all_variables, change_faults, list_faults, faults_on, faults, untrue, accepts}
use Rattle.model.specs.Reply.{Reply, remainder, counts_for, leaving, accepted, reply_to, reply, request, Keeps}
use Rattle.model.specs.Calls.{Marks, Call, marks_in, call_request, Made, is_accepted, State, start, after, after_all, AllKeep, Singly, supports_after}
use Rattle.model.specs.Promises.{marks_of, LeaveAlike}
use Rattle.model.proofs.Bools.{and_left, and_right, and_intro, not-both}
use Rattle.model.proofs.Lists.{here, any-permuted, all-permuted, empty-permuted, any-intro}
use Rattle.model.proofs.Agreement.{fit-equal, cells-all}
use Rattle.model.proofs.LiveWords.{written-length}
use Rattle.model.proofs.LiveCounts.{untrue-written}
use Rattle.model.proofs.Consistency.{support_list-length}
use Rattle.model.proofs.Fault.{no-fault-at, accepts-own, accepts-choice, accepts-true, accepts-supports}
use Rattle.model.proofs.Reply.{reply-accepted}
use Rattle.model.proofs.Calls.{rest, rest-length, shared, After, after_first, after_next, accepts-accepted}

-- ---- One by one

module _ (q : Request) (ok : accepts q ≡ true) where
  abbrev I : Instance
  I = q.given

  abbrev N : Network
  N = I.network

  abbrev cs : List Combination
  cs = combinations_of I

  abbrev s : Marks
  s = marks_of q

  -- the supports while the starting tuples without those of t are left
  abbrev numbers : (ℕ → Bool) → List ℕ
  numbers t = support_list N cs (rest I s t) ++ drop (needed N cs) q.supports

  numbers-length : (t : ℕ → Bool) → length (numbers t) ≡ length q.supports
  numbers-length t =
      omega (arith, length-append (support_list N cs (rest I s t)) (drop (needed N cs) q.supports), support_list-length N cs (rest I s t), length-drop (needed N cs) q.supports, (accepts-supports q ok).1)

  numbers-drop : (t : ℕ → Bool) → drop (needed N cs) (numbers t) ≡ drop (needed N cs) q.supports
  numbers-drop t = drop_at (support_list N cs (rest I s t)) (drop (needed N cs) q.supports) (needed N cs) (support_list-length N cs (rest I s t))

  -- The state and the supports once the tuples of t are removed.
  record Chosen (t : ℕ → Bool) (st : State) (supports : List ℕ) : Type 0 where
    so_far : After I s t st
    list : supports ≡ numbers t

  module _ (t : ℕ → Bool) (st : State) (supports : List ℕ) (x v : ℕ) (p : Reply) where
    abbrev call : Call
    call = shared I s supports (choose x v)

    abbrev Done : (ℕ → Bool) → Type 0
    Done u = (is_accepted (call, p) ≡ true) × Chosen u (after st (call, p)) p.supports

    -- what an accepted choice leaves in the supports lent to it
    left-numbers : is_accepted (call, p) ≡ true → After I s t (after st (call, p)) → drop (needed N cs) supports ≡ drop (needed N cs) q.supports → p.supports ≡ numbers t
    unfolding leaving
    left-numbers a so_far same =
        let made = some-injective _ _ (sym (ap {B = Option Made} (λ b. cond b (some (call, p)) st.last) a) ∙ so_far.last) in
        ap (λ (c : Made). c.1.supports) made
        ∙ ap (λ (ss : List ℕ). support_list N cs (rest I s t) ++ drop (needed N cs) ss) (sym (ap (λ (c : Made). c.0.supports) made))
        ∙ ap (λ (ss : List ℕ). support_list N cs (rest I s t) ++ ss) same

  module _ (st : State) (supports : List ℕ) (x v : ℕ) (p : Reply) (low : ltb x variable_count ≡ true) (keep : Keeps (call_request st.marks (shared I s supports (choose x v))) p) where
    -- the first choice
    choice-first : st.marks ≡ s → st.gone ≡ 0 → supports ≡ q.supports → Done (λ (g : ℕ). unlike N g (x, v)) st supports x v p (λ (g : ℕ). unlike N g (x, v))
    unfolding removes
    choice-first m z e =
        let k = shared I s supports (choose x v) in
        let a = accepts-accepted (call_request st.marks k) k p keep
        (accepts-choice q ok st.marks.words supports st.marks.counts (ap (λ (m : Marks). length m.words) m) (ap length e) (ap (λ (m : Marks). untrue N m.words m.counts) m ∙ accepts-true q ok) x v low) in
        let so_far = after_first I s st supports (choose x v) p m z keep a in
        (a, record { so_far = so_far; list = left-numbers (λ (g : ℕ). unlike N g (x, v)) st supports x v p a so_far (ap (drop (needed N cs)) e) })

    -- one more
    choice-next : (t : ℕ → Bool) → Chosen t st supports → Done t st supports x v p (λ (g : ℕ). t g || unlike N g (x, v))
    unfolding removes
    choice-next t c =
        let k = shared I s supports (choose x v) in
        let m = c.so_far.marks in
        let L = rest I s t in
        let a = accepts-accepted (call_request st.marks k) k p keep
        (accepts-choice q ok st.marks.words supports st.marks.counts (ap (λ (m : Marks). length m.words) m ∙ written-length (total N) L q.words) (ap length c.list ∙ numbers-length t) (ap (λ (m : Marks). untrue N m.words m.counts) m ∙ untrue-written N L q.words (rest-length I s t) c.so_far.enough) x v low) in
        let so_far = after_next I s t st supports (choose x v) p c.so_far keep a in
        (a, record { so_far = so_far; list = left-numbers (λ (g : ℕ). t g || unlike N g (x, v)) st supports x v p a so_far (ap (drop (needed N cs)) c.list ∙ numbers-drop t) })

  -- the variables of the pairs
  abbrev low : List Cell → Bool
  low pairs = all (λ (c : Cell). ltb c.0 variable_count) pairs

  abbrev AllAccepted : List Made → Type 0
  AllAccepted made = (c : Made) → Memᴰ c made → is_accepted c ≡ true

  accepted-cons : (c : Made) (made : List Made) → is_accepted c ≡ true → AllAccepted made → AllAccepted (c ∷ made)
  accepted-cons c made a f d m = ⊎_elim (λ e. ap is_accepted e ∙ a) (f d) (Memᴰ.cases_cons m)

  -- choices after others
  choices-next : (pairs : List Cell) (t : ℕ → Bool) (st : State) (supports : List ℕ) (made : List Made) → low pairs ≡ true → Chosen t st supports → Singly I supports pairs made → AllKeep st made → AllAccepted made × Chosen (λ (g : ℕ). t g || any (unlike N g) pairs) (after_all st made) (supports_after supports made)
  choices-next [] t st supports [] l c e keep =
      (λ d m. absurd (Memᴰ.not-nil m), subst (λ (u : ℕ → Bool). Chosen u st supports) (fun_ext (λ g. sym (or-false (t g)))) c)
  choices-next [] t st supports (d ∷ made) l c e keep = absurd e
  choices-next (p ∷ pairs) t st supports [] l c e keep = absurd e
  choices-next (p ∷ pairs) t st supports (d ∷ made) l c e keep =
      let both : ℕ → Bool = λ g. t g || unlike N g p in
      let one = choice-next st supports p.0 p.1 d.1 (and_left (ltb p.0 variable_count) (low pairs) l) (subst (λ (k : Call). Keeps (call_request st.marks k) d.1) e.0 keep.0) t c in
      let then = choices-next pairs both (after st d) d.1.supports made (and_right (ltb p.0 variable_count) (low pairs) l)
      (subst (λ (k : Call). Chosen both (after st (k, d.1)) d.1.supports) (sym e.0) one.1) e.1 keep.1 in
      (accepted-cons d made one.0 then.0, subst (λ (u : ℕ → Bool). Chosen u (after_all (after st d) made) (supports_after d.1.supports made)) (fun_ext (λ g. or_assoc (t g) (unlike N g p) (any (unlike N g) pairs))) then.1)

  -- choices from the start
  choices : (pairs : List Cell) (made : List Made) → empty pairs ≡ false → low pairs ≡ true → Singly I q.supports pairs made → AllKeep (start s) made → AllAccepted made × Chosen (λ (g : ℕ). any (unlike N g) pairs) (after_all (start s) made) (supports_after q.supports made)
  choices [] made d l e keep = absurd (true≢false d)
  choices (p ∷ pairs) [] d l e keep = absurd e
  choices (p ∷ pairs) (c ∷ made) d l e keep =
      let only : ℕ → Bool = λ g. unlike N g p in
      let one = choice-first (start s) q.supports p.0 p.1 c.1 (and_left (ltb p.0 variable_count) (low pairs) l) (subst (λ (k : Call). Keeps (call_request s k) c.1) e.0 keep.0) refl refl refl in
      let then = choices-next pairs only (after (start s) c) c.1.supports made (and_right (ltb p.0 variable_count) (low pairs) l)
      (subst (λ (k : Call). Chosen only (after (start s) (k, c.1)) c.1.supports) (sym e.0) one.1) e.1 keep.1 in
      (accepted-cons c made one.0 then.0, then.1)

  -- ---- At once

  module _ (xs vs : List ℕ) (e : q.change ≡ choose_several xs vs) where
    abbrev pairs : List Cell
    pairs = cells xs vs

    -- without fault 14 every variable is one
    low-pairs : low pairs ≡ true
    low-pairs =
        let own = sym (ap (λ (c : Change). first_fault (change_faults N c)) e) ∙ accepts-own q ok in
        cells-all (λ (x : ℕ). ltb x variable_count) xs vs (not-false (all_variables xs) (no-fault-at (change_faults N (choose_several xs vs)) own (Memᴰ.tail here)))

    removed : (g : ℕ) → removes N q.change g ≡ any (unlike N g) pairs
    unfolding removes
    removed g = ap (λ (c : Change). removes N c g) e

    pub singly : empty pairs ≡ false → (order : List Cell) → Permutation pairs order → (made : List Made) → Singly I q.supports order made → AllKeep (start s) made → LeaveAlike s q.supports made (reply q)
    unfolding accepted leaving remainder
    singly some_pair order same made single keep =
        let all_made = choices order made (sym (empty-permuted same) ∙ some_pair) (sym (all-permuted _ same) ∙ low-pairs) single keep in
        let t : (λ (g : ℕ). any (unlike N g) order) ≡ removes N q.change = fun_ext (λ g. sym (removed g ∙ any-permuted (unlike N g) same)) in
        let end = subst (λ (u : ℕ → Bool). Chosen u (after_all (start s) made) (supports_after q.supports made)) t all_made.1 in
        record {
          accepted = all_made.0;
          marks = end.so_far.marks ∙ sym (ap marks_in (reply-accepted q ok));
          numbers = end.list ∙ sym (ap (λ (p : Reply). p.supports) (reply-accepted q ok));
        }

    -- a tuple that is not removed has a value that fits that of each pair
    fits : (g a : ℕ) → removes N q.change g ≡ false → (x u : ℕ) → Memᴰ (x, u) pairs → Memᴰ (x, a) (cells_of N g) → fit a u ≡ true
    fits g a kept x u pair cell = go (fit a u) refl
      where
        go : (b : Bool) → fit a u ≡ b → fit a u ≡ true
        go true f = f
        go false f =
            let other = any-intro (λ (c : Cell). eqb c.0 x && not (fit c.1 u)) (cells_of N g) cell (and_intro (eq-eqb x x refl) (ap not f)) in
            absurd (not-both (any-intro (unlike N g) pairs pair other) (sym (removed g) ∙ kept))

    pub contrary-kept : (x u v : ℕ) → Memᴰ (x, u) pairs → Memᴰ (x, v) pairs → (u ≡ v → ⊥) → is_any u ≡ false → is_any v ≡ false → (g a : ℕ) → Memᴰ (x, a) (cells_of N g) → removes N q.change g ≡ false → is_any a ≡ true
    contrary-kept x u v pu pv differ nu nv g a cell kept = go (is_any a) refl
      where
        go : (b : Bool) → is_any a ≡ b → is_any a ≡ true
        go true f = f
        go false f = absurd (differ (sym (fit-equal a u f nu (fits g a kept x u pu cell)) ∙ fit-equal a v f nv (fits g a kept x v pv cell)))

-- ---- No pair

-- the call answers and leaves what filter does, whatever it is lent
module _ (I : Instance) (words supports counts : List ℕ) where
  abbrev S : TupleSet
  S = living (total I.network) words

  -- what is left and answered, by what is removed
  abbrev leaving_out : (ℕ → Bool) → Reply
  leaving_out t =
      let R = without t S in
      let L = filtered I.network (combinations_of I) R in
      leaving I L (record { left = count L; withdrawn = count (restrict t S); deleted = count R - count L }) words supports

  accepted-alike : accepted (request I words supports counts (choose_several [] [])) ≡ accepted (request I words supports counts filter)
  unfolding accepted remainder counts_for removes
  accepted-alike = ap leaving_out (fun_ext {f = removes I.network (choose_several [] [])} {g = removes I.network filter} (λ g. refl))

  pub none-filters : reply (request I words supports counts (choose_several [] [])) ≡ reply (request I words supports counts filter)
  unfolding reply faults faults_on list_faults
  none-filters = go (first_fault (faults (request I words supports counts filter)))
    where
      go : (o : Option ℕ) → reply_to o (request I words supports counts (choose_several [] [])) ≡ reply_to o (request I words supports counts filter)
      go none = accepted-alike
      go (some f) = refl
