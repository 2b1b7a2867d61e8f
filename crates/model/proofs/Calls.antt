-- The strike rule: a list of calls leaves what one filtering leaves of the starting tuples without all that accepted calls
-- removed. By induction over the list, from the laws of closure and of written words.
use mathlib.Core.Path.{◌≡◌, refl, sym, ◌∙◌, ap, subst, fun_ext}
use mathlib.Core.Bool.{Bool, true, false, not, ◌&&◌, ◌||◌, cond, or-false, or_assoc, false≢true, true≢false}
use mathlib.Core.Option.{Option, none, some}
use mathlib.Core.Logic.{◌⊎◌, inl, inr, ⊎_elim}
use mathlib.Core.List.Memᴰ
use mathlib.Core.List.{List, [], ◌∷◌, Memᴰ}
use Prim.Native.Nat.{ℕ, ◌+◌, ◌*◌, ◌≤◌}
use native.Mathlib.Omega.{arith}
use borrow.Author.Tests.{eq-eqb, ne_eqb, eqb-true, not-false}
use lib.ListN.{length}
use Rattle.model.specs.declared.Counts.{Counts}
use Rattle.model.specs.Limits.{word_bits}
use Rattle.model.specs.TupleSet.{TupleSet, count, without}
use Rattle.model.specs.Network.{Network, total}
use Rattle.model.specs.Combination.{Combination}
use Rattle.model.specs.LiveCounts.{live_counts}
use Rattle.model.specs.Consistency.{filtered}
use Rattle.model.specs.LiveWords.{living, written}
use Rattle.model.specs.Request.{Change, Instance, combinations_of, Request, removes}
use Rattle.model.specs.Fault.{untrue, accepts}
use Rattle.model.specs.Reply.{Reply, remainder, counts_for, leaving, accepted, refused, reply, Keeps}
use Rattle.model.specs.Calls.{Marks, Call, lent_marks, marks_in, call_request, shared_after, Proper, Made, is_accepted, State, start, after, after_all, AllKeep, any_accepted, removed_by, starting}
use Rattle.model.proofs.Bools.{not-both, or-false-left, or-false-right}
use Rattle.model.proofs.Lists.{here}
use Rattle.model.proofs.TupleSet.{without-without, without-length}
use Rattle.model.proofs.Consistency.{filtered-length, filtered-without}
use Rattle.model.proofs.LiveWords.{living-written, living-length}
use Rattle.model.proofs.Fault.{accepts-words, accepts-true}
use Rattle.model.proofs.Reply.{reply-accepted, reply-refused, refused-not, leaving-sum, leaving-left, leaving-written}

-- ---- Accepted and refused

-- a call that keeps its contract was accepted exactly if its request is
accepted-accepts : (q : Request) (k : Call) (p : Reply) → Keeps q p → is_accepted (k, p) ≡ true → accepts q ≡ true
accepted-accepts q k p keep a = go (accepts q) refl
  where
    go : (b : Bool) → accepts q ≡ b → accepts q ≡ true
    go true e = e
    go false e = absurd (not-both a (ap not (eq-eqb _ 2 (ap (λ (p : Reply). p.answer.kind) (keep ∙ (reply-refused q e).1)))))

pub accepts-accepted : (q : Request) (k : Call) (p : Reply) → Keeps q p → accepts q ≡ true → is_accepted (k, p) ≡ true
accepts-accepted q k p keep a = ap not (ne_eqb _ 2 (λ e. refused-not q (sym (ap (λ (p : Reply). p.answer.kind) keep) ∙ e) a))

-- a refused one leaves what it was lent
refused-leaves : (q : Request) (k : Call) (p : Reply) → Keeps q p → is_accepted (k, p) ≡ false → (n : ℕ) × (p ≡ refused n q)
refused-leaves q k p keep a = go (accepts q) refl
  where
    go : (b : Bool) → accepts q ≡ b → (n : ℕ) × (p ≡ refused n q)
    go true e = absurd (refused-not q (sym (ap (λ (p : Reply). p.answer.kind) keep) ∙ eqb-true _ 2 (not-false _ a)) e)
    go false e = let r = reply-refused q e in (r.0, keep ∙ r.1)

pub shared-lent : (o : Option Marks) (s : Marks) → shared_after o s (lent_marks o s) ≡ s
shared-lent none s = refl
shared-lent (some own) s = refl

after-refused : (st : State) (c : Made) → Keeps (call_request st.marks c.0) c.1 → is_accepted c ≡ false → after st c ≡ st
after-refused st c keep e =
    let r = (refused-leaves (call_request st.marks c.0) c.0 c.1 keep e).1 in
    let marks : shared_after c.0.own st.marks (marks_in c.1) ≡ st.marks = ap (λ (p : Reply). shared_after c.0.own st.marks (marks_in p)) r ∙ shared-lent c.0.own st.marks in
    let gone : st.gone + (c.1.answer.withdrawn + c.1.answer.deleted) ≡ st.gone = omega (arith, ap (λ (p : Reply). p.answer.withdrawn) r, ap (λ (p : Reply). p.answer.deleted) r) in
    λ i. record { marks = marks i; gone = gone i; last = ap {B = Option Made} (λ x. cond x (some c) st.last) e i }

module _ (I : Instance) (s : Marks) where
  abbrev ws : List ℕ
  ws = s.words

  abbrev N : Network
  N = I.network

  abbrev cs : List Combination
  cs = combinations_of I

  -- what is left of the starting tuples without those of t
  abbrev pub rest : (ℕ → Bool) → TupleSet
  rest t = filtered N cs (without t (starting I ws))

  pub rest-length : (t : ℕ → Bool) → length (rest t) ≡ total N
  rest-length t = filtered-length N cs (without t (starting I ws)) ∙ without-length t (starting I ws) ∙ living-length (total N) ws

  -- a change on what is left
  remainder-rest : (t : ℕ → Bool) (change : Change) → remainder I change (rest t) ≡ rest (λ (g : ℕ). t g || removes N change g)
  unfolding remainder
  remainder-rest t change =
      filtered-without N cs (removes N change) (without t (starting I ws))
      ∙ ap (filtered N cs) (without-without (removes N change) t (starting I ws))

  -- a call on the shared lists
  abbrev pub shared : List ℕ → Change → Call
  shared supports change = record { given = I; own = none; supports = supports; change = change }

  shared-call : (c : Call) → c.given ≡ I → c.own ≡ none → shared c.supports c.change ≡ c
  shared-call c e f = λ i. record { given = sym e i; own = sym f i; supports = c.supports; change = c.change }

  -- the marks with what is left without t
  abbrev pub leaves : (ℕ → Bool) → Marks
  leaves t = record { words = written (total N) (rest t) ws; counts = live_counts N (rest t) }

  -- The state after accepted calls that removed the tuples of t.
  pub record After (t : ℕ → Bool) (st : State) : Type 0 where
    pub marks : st.marks ≡ leaves t
    pub call : Call
    pub counts : Counts
    pub last : st.last ≡ some (call, leaving I (rest t) counts ws call.supports)
    pub left : counts.left ≡ count (rest t)
    pub sum : st.gone + count (rest t) ≡ count (starting I ws)
    pub enough : total N ≤ word_bits * length ws
    pub truth : untrue N ws s.counts ≡ false

  -- an accepted call that finds S live and leaves what is left without t
  after_call : (t : ℕ → Bool) (st : State) (supports : List ℕ) (change : Change) (p : Reply) (S : TupleSet) → is_accepted (shared supports change, p) ≡ true → p ≡ leaving I (rest t) (counts_for I change S) ws supports → remainder I change S ≡ rest t → st.gone + count S ≡ count (starting I ws) → total N ≤ word_bits * length ws → untrue N ws s.counts ≡ false → After t (after st (shared supports change, p))
  unfolding leaving counts_for
  after_call t st supports change p S a r l g enough truth =
      record {
        marks = ap marks_in r;
        call = shared supports change;
        counts = counts_for I change S;
        last = ap {B = Option Made} (λ x. cond x (some (shared supports change, p)) st.last) a ∙ ap {B = Option Made} (λ p. some (shared supports change, p)) r;
        left = ap count l;
        sum = omega (arith, ap (λ (p : Reply). p.answer.left) r, ap (λ (p : Reply). p.answer.withdrawn) r, ap (λ (p : Reply). p.answer.deleted) r, leaving-sum I change S (rest t) ws supports, leaving-left I (rest t) (counts_for I change S) ws supports, ap count l);
        enough = enough;
        truth = truth;
      }

  pub after_first : (st : State) (supports : List ℕ) (change : Change) (p : Reply) → st.marks ≡ s → st.gone ≡ 0 → Keeps (call_request st.marks (shared supports change)) p → is_accepted (shared supports change, p) ≡ true → After (removes N change) (after st (shared supports change, p))
  unfolding remainder accepted
  after_first st supports change p e z keep a =
      let k = shared supports change in
      let keeps : Keeps (call_request s k) p = keep ∙ ap (λ (m : Marks). reply (call_request m k)) e in
      let accepts-it = accepted-accepts (call_request s k) k p keeps a in
      after_call (removes N change) st supports change p (starting I ws) a (keeps ∙ reply-accepted (call_request s k) accepts-it) refl (omega arith)
      (accepts-words (call_request s k) accepts-it) (accepts-true (call_request s k) accepts-it)

  pub after_next : (t : ℕ → Bool) (st : State) (supports : List ℕ) (change : Change) (p : Reply) → After t st → Keeps (call_request st.marks (shared supports change)) p → is_accepted (shared supports change, p) ≡ true → After (λ (g : ℕ). t g || removes N change g) (after st (shared supports change, p))
  unfolding accepted
  after_next t st supports change p so_far keep a =
      let k = shared supports change in
      let both : ℕ → Bool = λ g. t g || removes N change g in
      after_call both st supports change p (rest t) a
      (keep
      ∙ reply-accepted (call_request st.marks k) (accepted-accepts (call_request st.marks k) k p keep a)
      ∙ ap (λ (m : Marks). leaving I (remainder I change (living (total N) m.words)) (counts_for I change (living (total N) m.words)) m.words supports) so_far.marks
      ∙ ap (λ (X : TupleSet). leaving I (remainder I change X) (counts_for I change X) (written (total N) (rest t) ws) supports) (living-written (total N) (rest t) ws (rest-length t) so_far.enough)
      ∙ ap (λ (L : TupleSet). leaving I L (counts_for I change (rest t)) (written (total N) (rest t) ws) supports) (remainder-rest t change)
      ∙ leaving-written I (rest both) (rest t) (counts_for I change (rest t)) ws supports)
      (remainder-rest t change)
      so_far.sum
      so_far.enough
      so_far.truth

  -- ---- The induction over the list

  -- an accepted call of a proper list is on the shared lists
  on-shared : (c : Made) → is_accepted c ≡ true → ((c.0.given ≡ I) × (c.0.own ≡ none)) ⊎ (is_accepted c ≡ false) → shared c.0.supports c.0.change ≡ c.0
  on-shared c a (inl e) = shared-call c.0 e.0 e.1
  on-shared c a (inr r) = absurd (not-both a r)

  next-made : (t : ℕ → Bool) (st : State) (c : Made) → shared c.0.supports c.0.change ≡ c.0 → After t st → Keeps (call_request st.marks c.0) c.1 → is_accepted c ≡ true → After (λ (g : ℕ). t g || removes N c.0.change g) (after st c)
  next-made t st c e so_far keep a =
      subst (λ (d : Call). After (λ (g : ℕ). t g || removes N c.0.change g) (after st (d, c.1))) e
      (after_next t st c.0.supports c.0.change c.1 so_far (subst (λ (d : Call). Keeps (call_request st.marks d) c.1) (sym e) keep) a)

  first_made : (st : State) (c : Made) → shared c.0.supports c.0.change ≡ c.0 → st.marks ≡ s → st.gone ≡ 0 → Keeps (call_request st.marks c.0) c.1 → is_accepted c ≡ true → After (removes N c.0.change) (after st c)
  first_made st c e w z keep a =
      subst (λ (d : Call). After (removes N c.0.change) (after st (d, c.1))) e
      (after_first st c.0.supports c.0.change c.1 w z (subst (λ (d : Call). Keeps (call_request st.marks d) c.1) (sym e) keep) a)

  removed-cons : (x s r : Bool) → x ≡ true → (s || r) ≡ (x && s || r)
  removed-cons true s r e = refl
  removed-cons false s r e = absurd (false≢true e)

  removed-skip : (x s r : Bool) → x ≡ false → r ≡ (x && s || r)
  removed-skip true s r e = absurd (true≢false e)
  removed-skip false s r e = refl

  -- calls after some accepted call
  Later : List Made → Type 0
  Later made = Proper I made → (t : ℕ → Bool) (st : State) → After t st → AllKeep st made → After (λ (g : ℕ). t g || removed_by I made g) (after_all st made)

  later-cons : (c : Made) (made : List Made) → Later made → (x : Bool) → is_accepted c ≡ x → Later (c ∷ made)
  unfolding Later removed_by
  later-cons c made f true e proper t st so_far keep =
      subst (λ (v : ℕ → Bool). After v (after_all (after st c) made))
      (fun_ext (λ g. or_assoc (t g) (removes N c.0.change g) (removed_by I made g) ∙ ap (λ (x : Bool). t g || x) (removed-cons (is_accepted c) (removes N c.0.change g) (removed_by I made g) e)))
      (f (λ d m. proper d (Memᴰ.tail m)) (λ (g : ℕ). t g || removes N c.0.change g) (after st c) (next-made t st c (on-shared c e (proper c here)) so_far keep.0 e) keep.1)
  later-cons c made f false e proper t st so_far keep =
      subst (λ (v : ℕ → Bool). After v (after_all (after st c) made))
      (fun_ext (λ g. ap (λ (x : Bool). t g || x) (removed-skip (is_accepted c) (removes N c.0.change g) (removed_by I made g) e)))
      (f (λ d m. proper d (Memᴰ.tail m)) t (after st c) (subst (After t) (sym (after-refused st c keep.0 e)) so_far) keep.1)

  later-all : (made : List Made) → Later made
  unfolding Later removed_by
  later-all [] = λ _ t st so_far _. subst (λ (v : ℕ → Bool). After v st) (fun_ext (λ g. sym (or-false (t g)))) so_far
  later-all (c ∷ made) = later-cons c made (later-all made) (is_accepted c) refl

  -- calls of which the first accepted one is still to come
  Sooner : List Made → Type 0
  Sooner made = Proper I made → (st : State) → st.marks ≡ s → st.gone ≡ 0 → AllKeep st made → any_accepted made ≡ true → After (removed_by I made) (after_all st made)

  sooner-cons : (c : Made) (made : List Made) → Sooner made → (x : Bool) → is_accepted c ≡ x → Sooner (c ∷ made)
  unfolding Sooner Later removed_by any_accepted
  sooner-cons c made f true e proper st w z keep h =
      subst (λ (v : ℕ → Bool). After v (after_all (after st c) made))
      (fun_ext (λ g. removed-cons (is_accepted c) (removes N c.0.change g) (removed_by I made g) e))
      (later-all made (λ d m. proper d (Memᴰ.tail m)) (removes N c.0.change) (after st c) (first_made st c (on-shared c e (proper c here)) w z keep.0 e) keep.1)
  sooner-cons c made f false e proper st w z keep h =
      let same = after-refused st c keep.0 e in
      subst (λ (v : ℕ → Bool). After v (after_all (after st c) made))
      (fun_ext (λ g. removed-skip (is_accepted c) (removes N c.0.change g) (removed_by I made g) e))
      (f (λ d m. proper d (Memᴰ.tail m)) (after st c) (ap (λ (s : State). s.marks) same ∙ w) (ap (λ (s : State). s.gone) same ∙ z) keep.1 (subst (λ (x : Bool). (x || any_accepted made) ≡ true) e h))

  sooner-all : (made : List Made) → Sooner made
  unfolding Sooner any_accepted
  sooner-all [] = λ _ st w z _ h. absurd (false≢true h)
  sooner-all (c ∷ made) = sooner-cons c made (sooner-all made) (is_accepted c) refl

  -- a list with an accepted call
  pub all-accepted : (made : List Made) → Proper I made → AllKeep (start s) made → any_accepted made ≡ true → After (removed_by I made) (after_all (start s) made)
  unfolding Sooner
  all-accepted made proper keep h = sooner-all made proper (start s) refl refl keep h

-- ---- A list with no accepted call changes nothing

pub all-refused : (st : State) (made : List Made) → AllKeep st made → any_accepted made ≡ false → after_all st made ≡ st
unfolding any_accepted
all-refused st [] keep h = refl
all-refused st (c ∷ made) keep h =
    let same = after-refused st c keep.0 (or-false-left (is_accepted c) (any_accepted made) h) in
    all-refused (after st c) made keep.1 (or-false-right (is_accepted c) (any_accepted made) h) ∙ same

-- .. and each call leaves the lists lent to it
pub lists-kept : (s : Marks) (st : State) (made : List Made) → st.marks ≡ s → AllKeep st made → any_accepted made ≡ false → (c : Made) → Memᴰ c made → (marks_in c.1 ≡ lent_marks c.0.own s) × (c.1.supports ≡ c.0.supports)
unfolding any_accepted
lists-kept s st [] w keep h c m = absurd (Memᴰ.not-nil m)
lists-kept s st (d ∷ made) w keep h c m =
    let refused-it = or-false-left (is_accepted d) (any_accepted made) h in
    let r = (refused-leaves (call_request st.marks d.0) d.0 d.1 keep.0 refused-it).1 in
    let this : (marks_in d.1 ≡ lent_marks d.0.own s) × (d.1.supports ≡ d.0.supports) = (ap marks_in r ∙ ap (lent_marks d.0.own) w, ap (λ (p : Reply). p.supports) r) in
    ⊎_elim
    (λ e. subst (λ (x : Made). (marks_in x.1 ≡ lent_marks x.0.own s) × (x.1.supports ≡ x.0.supports)) (sym e) this)
    (λ n. lists-kept s (after st d) made (ap (λ (s : State). s.marks) (after-refused st d keep.0 refused-it) ∙ w) keep.1 (or-false-right (is_accepted d) (any_accepted made) h) c n)
    (Memᴰ.cases_cons m)
