-- Mission points 1, 2 and 3, proved of `reply` for every request and every list of calls, and the promises of test and compare.
-- The statements are the records of specs/Promises.antt; no hypothesis is left that "no listed fault" gives.
use mathlib.Core.Path.{◌≡◌, refl, sym, ◌∙◌, ap, ap₂, subst}
use mathlib.Core.Bool.{Bool, true, false, not, cond, ◌&&◌}
use mathlib.Core.Option.{Option, none, some}
use mathlib.Core.Logic.{◌⊎◌, ◌↔◌}
use mathlib.Core.List.Memᴰ
use mathlib.Core.List.{List, [], ◌∷◌, ◌++◌, map, Memᴰ}
use Prim.Native.Nat.{ℕ, ◌+◌, ◌≤◌, ◌<◌}
use native.Mathlib.Omega.{arith}
use native.Mathlib.Decide.{dec_lt}
use lib.Dec.{leb, ltb}
use lib.ListN.{length, get_or, drop, get_or-eq_default}
use borrow.Author.Tests.{lt-ltb, ltb-true, leb-true, not-true, not-false}
use Rattle.model.specs.declared.Counts.{Counts}
use Rattle.model.specs.Limits.{variable_count, no_variable}
use Rattle.model.specs.Lists.{from, any}
use Rattle.model.specs.TupleSet.{TupleSet, has, count, restrict, without, Largest, Consistent}
use Rattle.model.specs.Network.{Network, total, ids_of, relation_of}
use Rattle.model.specs.Agreement.{clashes, cells_of, first_clash}
use Rattle.model.specs.Combination.{Combination, Chain}
use Rattle.model.specs.LiveCounts.{live_counts}
use Rattle.model.specs.Consistency.{supported, is_consistent, filtered, support_list, needed}
use Rattle.model.specs.Solution.{Assignment, is_solution}
use Rattle.model.specs.LiveWords.{is_live, living, written}
use Rattle.model.specs.Request.{Change, filter, withdraw, choose, choose_several, Instance, combinations_of, Request, removes}
use Rattle.model.specs.Fault.{Fault, first_fault, network_faults, ids_fault, list_faults, faults_on, faults, test_faults, compare_faults, accepts}
use Rattle.model.specs.Reply.{Reply, lowest_empty, answer_for, answer_numbers, remainder, counts_for, leaving, accepted, reply_to, reply, verdict_numbers, comparison_numbers, verdict_for, comparison_for, test_reply, compare_reply}
use Rattle.model.specs.Calls.{Marks, Proper, Made, State, start, after_all, AllKeep, any_accepted, removed_by, starting, remaining}
use Rattle.model.specs.Enumeration.{enumeration_faults}
use Rattle.model.specs.Promises.{Tells, Marked, Supports, Counted, NoFault, FirstFault, Answered, given_tuples, left_tuples, Spares, AtOnce, Filtered, StrikeRule, Apart, Local, Claim, TestAnswered, ClashUnder, FirstClash, NoClash, CompareAnswered}
use Rattle.model.proofs.Bools.{and_left, false-intro}
use Rattle.model.proofs.Lists.{here, least-mem, least-none, least-below, least-is, none-least}
use Rattle.model.proofs.TupleSet.{has-below, restrict-test, without-length, without-cong, without-none, without-stays, without-count}
use Rattle.model.proofs.Network.{relation_of-ids, ids-below}
use Rattle.model.proofs.Agreement.{clash-unfit, clash-is, mem-clashes, clashes-mem, first_clash-low}
use Rattle.model.proofs.Support.{first_support-dead, first_support-least}
use Rattle.model.proofs.Consistency.{supported-at, is_consistent-iff, filtered-largest, filtered-unique, filtered-alone, filtered-length, support_list-length}
use Rattle.model.proofs.Solution.{is_solution-filtered, is_solution-empty}
use Rattle.model.proofs.Locality.{filtered-far}
use Rattle.model.proofs.LiveWords.{written-is_live, written-length, living-written, living-length, living-has}
use Rattle.model.proofs.Request.{choose-any, choose-spares}
use Rattle.model.proofs.Fault.{no-fault-at, none-first_fault, first_fault-front, first_fault-back, first_fault-some, first_fault-number, faultless, accepts-network, accepts-words, accepts-exist}
use Rattle.model.proofs.Reply.{reply-accepted, lowest_empty-first, answer_for-tells, answer_for-kind, emptied-low, remainder-length, leaving-sum, leaving-left, leaving-withdrawn}
use Rattle.model.proofs.LiveCounts.{counts-length, counts-at, counts-sum, count_same, true-counts}
use Rattle.model.proofs.Calls.{all-accepted, all-refused, lists-kept}
use Rattle.model.proofs.Several.{singly, contrary-kept}

-- ---- The calls' faults, in checking order

-- filter uses 2 to 12 and 18, withdraw adds 13, choose 14, choose several 19 and 14; test uses 2 to 11, compare 2 to 6 and 13
pub filter-checks : (I : Instance) (n k : ℕ) (b : Bool) → map (λ (f : Fault). f.0) (faults_on I n k b filter) ≡ from 2 11 ++ (18 ∷ [])
unfolding faults_on list_faults
filter-checks I n k b = refl

pub withdraw-checks : (I : Instance) (n k : ℕ) (b : Bool) (ids : List ℕ) → map (λ (f : Fault). f.0) (faults_on I n k b (withdraw ids)) ≡ from 2 11 ++ (18 ∷ 13 ∷ [])
unfolding faults_on list_faults
withdraw-checks I n k b ids = refl

pub choose-checks : (I : Instance) (n k : ℕ) (b : Bool) (x v : ℕ) → map (λ (f : Fault). f.0) (faults_on I n k b (choose x v)) ≡ from 2 11 ++ (18 ∷ 14 ∷ [])
unfolding faults_on list_faults
choose-checks I n k b x v = refl

pub choose-several-checks : (I : Instance) (n k : ℕ) (b : Bool) (xs vs : List ℕ) → map (λ (f : Fault). f.0) (faults_on I n k b (choose_several xs vs)) ≡ from 2 11 ++ (18 ∷ 19 ∷ 14 ∷ [])
unfolding faults_on list_faults
choose-several-checks I n k b xs vs = refl

pub test-checks : (I : Instance) (ws : List ℕ) → map (λ (f : Fault). f.0) (test_faults I ws) ≡ from 2 10
unfolding test_faults
test-checks I ws = refl

pub compare-checks : (N : Network) (g h : ℕ) → map (λ (f : Fault). f.0) (compare_faults N g h) ≡ from 2 5 ++ (13 ∷ [])
unfolding compare_faults
compare-checks N g h = refl

pub enumeration-checks : (N : Network) (m n : ℕ) → map (λ (f : Fault). f.0) (enumeration_faults N m n) ≡ from 2 6 ++ (15 ∷ 16 ∷ [])
unfolding enumeration_faults
enumeration-checks N m n = refl

-- a table's first fault is the one that is found
pub first-fault : {n : ℕ} {fs : List Fault} → FirstFault n fs → first_fault fs ≡ some n
first-fault {n} f = ap first_fault f.2 ∙ first_fault-some f.0 f.1 n f.3

-- what is written of a set of tuples is marked by it
marked-written : (N : Network) (L : TupleSet) (ws : List ℕ) → Marked N L ws (written (total N) L ws)
marked-written N L ws = record { bits = written-is_live (total N) L ws; words = written-length (total N) L ws }

-- the support list of a consistent set
supports-consistent : (I : Instance) (L : TupleSet) (lent : List ℕ) → Consistent (supported I.network (combinations_of I)) L → Supports I L lent (support_list I.network (combinations_of I) L ++ drop (needed I.network (combinations_of I)) lent)
supports-consistent I L lent consistent =
    record {
      list = refl;
      long = support_list-length I.network (combinations_of I) L;
      numbered = λ c m g n. record {
        dead = first_support-dead I.network L c g;
        live = λ e. first_support-least I.network L c g (supported-at I.network (combinations_of I) L g c (consistent g e) m n);
      };
    }

-- the counts of what is left
counted-left : (N : Network) (L : TupleSet) → length L ≡ total N → (left : ℕ) → left ≡ count L → Counted N L left (live_counts N L)
counted-left N L long left e = record { long = counts-length N L; each = counts-at N L; together = counts-sum N L long ∙ sym e }

module _ (q : Request) where
  abbrev I : Instance
  I = q.given

  abbrev N : Network
  N = q.given.network

  abbrev cs : List Combination
  cs = combinations_of q.given

  abbrev entry : TupleSet
  entry = living (total N) q.words

  abbrev left : TupleSet
  left = remainder I q.change entry

  abbrev counts : Counts
  counts = counts_for I q.change entry

  -- ---- Point 1

  -- every request is answered, and refused only for its first listed fault
  pub answered : Answered q (reply q)
  unfolding reply accepted leaving
  answered =
      record {
        accepted = λ h. subst (λ (p : Reply). (p.answer.kind ≡ 0) ⊎ (p.answer.kind ≡ 1))
            (sym (ap (λ (o : Option ℕ). reply_to o q) (none-first_fault (faults q) h)))
            (answer_for-kind N left counts (dec_lt (lowest_empty N left) (length N.relations)));
        first = λ n f. ap (λ (o : Option ℕ). reply_to o q) (first-fault f);
      }

  -- ---- Point 2

  module _ (e : accepts q ≡ true) where
    left_tuples-is : left_tuples q (reply q) ≡ left
    unfolding accepted leaving
    left_tuples-is =
        ap (λ (p : Reply). living (total N) p.words) (reply-accepted q e)
        ∙ living-written (total N) left q.words (remainder-length I q.change entry ∙ living-length (total N) q.words) (accepts-words q e)

    given-length : length (given_tuples q) ≡ total N
    given-length = without-length (removes N q.change) entry ∙ living-length (total N) q.words

    largest-left : Largest (supported N cs) (given_tuples q) left
    unfolding remainder
    largest-left = filtered-largest N cs (given_tuples q)

    only-left : (T : TupleSet) → length T ≡ total N → Largest (supported N cs) (given_tuples q) T → T ≡ left
    unfolding remainder
    only-left T l m = filtered-unique N cs (given_tuples q) T (l ∙ sym given-length) m

    alone-left : (g : ℕ) → ((c : Combination) → Memᴰ c cs → Memᴰ (relation_of N g) c → ⊥) → has left g ≡ has (given_tuples q) g
    unfolding remainder
    alone-left g h = filtered-alone N cs (given_tuples q) g h

    solution-left : (a : Assignment) → is_solution N (given_tuples q) a ≡ true → is_solution N left a ≡ true
    unfolding remainder
    solution-left a s = is_solution-filtered N a (faultless N (accepts-network q e)) cs (accepts-exist q e) (given_tuples q) given-length s

    kind-is : (reply q).answer.kind ≡ (answer_numbers (answer_for N left counts)).kind
    unfolding accepted leaving
    kind-is = ap (λ (p : Reply). p.answer.kind) (reply-accepted q e)

    no-solution : (reply q).answer.kind ≡ 1 → (a : Assignment) → is_solution N (given_tuples q) a ≡ true → ⊥
    no-solution h a s =
        let low = emptied-low N left counts (dec_lt (lowest_empty N left) (length N.relations)) (sym kind-is ∙ h) in
        is_solution-empty N a left (lowest_empty N left) low (not-true (any (has left) (ids_of N (lowest_empty N left))) ((lowest_empty-first N left).passes low)) (solution-left a s)

    -- a choice spares any
    spares : (x v : ℕ) → q.change ≡ choose x v → Spares q (reply q) x v
    unfolding accepted counts_for
    spares x v c =
        record {
          under = λ g a is_any m.
              without-stays (removes N q.change) entry g
              (λ lives. removed g ∙ choose-spares N (faultless N (accepts-network q e)) x v g a (subst (λ (n : ℕ). g < n) (living-length (total N) q.words) (has-below entry g lives)) is_any m);
          chosen = λ is_any.
              let same = without-cong (removes N q.change) (λ _. false) entry (λ g _. removed g ∙ choose-any N x v g is_any) ∙ without-none entry in
              (same, none-withdrawn same);
        }
      where
        removed : (g : ℕ) → removes N q.change g ≡ removes N (choose x v) g
        removed g = ap (λ (k : Change). removes N k g) c

        none-withdrawn : given_tuples q ≡ entry → (reply q).answer.withdrawn ≡ 0
        none-withdrawn same =
            let w : (reply q).answer.withdrawn ≡ count (restrict (removes N q.change) entry) =
            ap (λ (p : Reply). p.answer.withdrawn) (reply-accepted q e) ∙ leaving-withdrawn I left counts q.words q.supports in
            omega (arith, w, without-count (removes N q.change) entry, ap count same)

    -- a tuple that is left was not removed
    kept-left : (g : ℕ) → has (left_tuples q (reply q)) g ≡ true → removes N q.change g ≡ false
    kept-left g h =
        not-true (removes N q.change g)
        (restrict-test (λ (g : ℕ). not (removes N q.change g)) entry g (largest-left.inside g (ap (λ (X : TupleSet). has X g) (sym left_tuples-is) ∙ h)))

    -- several choices at once
    at_once : (xs vs : List ℕ) → q.change ≡ choose_several xs vs → AtOnce q (reply q) xs vs
    at_once xs vs c =
        record {
          singly = singly q e xs vs c;
          contrary = λ x u v pu pv differ nu nv g a cell h. contrary-kept q e xs vs c x u v pu pv differ nu nv g a cell (kept-left g h);
        }

    -- an accepted request leaves the largest consistent set and loses no solution
    pub filtering : Filtered q (reply q)
    unfolding accepted leaving counts_for
    filtering =
        record {
          largest = subst (Largest (supported N cs) (given_tuples q)) (sym left_tuples-is) largest-left;
          only = λ T l m. only-left T l m ∙ sym left_tuples-is;
          alone = λ g h. ap (λ (X : TupleSet). has X g) left_tuples-is ∙ alone-left g h;
          solutions = λ a s. subst (λ (X : TupleSet). is_solution N X a ≡ true) (sym left_tuples-is) (solution-left a s);
          none = no-solution;
          tells = subst (λ (p : Reply). Tells N (left_tuples q (reply q)) p.answer) (sym (reply-accepted q e)) (subst (λ (X : TupleSet). Tells N X (answer_numbers (answer_for N left counts))) (sym left_tuples-is) (answer_for-tells N left counts refl));
          marked = subst (λ (p : Reply). Marked N (left_tuples q (reply q)) q.words p.words) (sym (reply-accepted q e)) (subst (λ (X : TupleSet). Marked N X q.words (written (total N) left q.words)) (sym left_tuples-is) (marked-written N left q.words));
          supports = subst (λ (p : Reply). Supports I (left_tuples q (reply q)) q.supports p.supports) (sym (reply-accepted q e)) (subst (λ (X : TupleSet). Supports I X q.supports (accepted q).supports) (sym left_tuples-is) (supports-consistent I left q.supports largest-left.consistent));
          sum = subst (λ (p : Reply). p.answer.left + p.answer.withdrawn + p.answer.deleted ≡ count entry) (sym (reply-accepted q e)) (leaving-sum I q.change entry left q.words q.supports);
          counted = subst (λ (p : Reply). Counted N (left_tuples q (reply q)) p.answer.left p.counts) (sym (reply-accepted q e)) (subst (λ (X : TupleSet). Counted N X (accepted q).answer.left (live_counts N left)) (sym left_tuples-is) (counted-left N left (remainder-length I q.change entry ∙ living-length (total N) q.words) (accepted q).answer.left (leaving-left I left counts q.words q.supports)));
          choice = spares;
          several = at_once;
        }

-- ---- Point 3

module _ (I : Instance) (s : Marks) (made : List Made) (proper : Proper I made) (keep : AllKeep (start s) made) where
  abbrev L : TupleSet
  L = filtered I.network (combinations_of I) (without (removed_by I made) (starting I s.words))

  left-length : length L ≡ total I.network
  left-length =
      filtered-length I.network (combinations_of I) (without (removed_by I made) (starting I s.words))
      ∙ without-length (removed_by I made) (starting I s.words)
      ∙ living-length (total I.network) s.words

  -- the strike rule
  strike-rule : any_accepted made ≡ true → StrikeRule I s made (after_all (start s) made)
  unfolding remaining leaving
  strike-rule h =
      let after = all-accepted I s made proper keep h in
      let largest = filtered-largest I.network (combinations_of I) (without (removed_by I made) (starting I s.words)) in
      let tells = answer_for-tells I.network L after.counts after.left in
      record {
        true-counts = true-counts I.network s.words s.counts after.truth;
        largest = largest;
        marked = subst (λ (m : Marks). Marked I.network L s.words m.words) (sym after.marks) (marked-written I.network L s.words);
        call = after.call;
        reply = leaving I L after.counts s.words after.call.supports;
        last = after.last;
        supports = supports-consistent I L after.call.supports largest.consistent;
        tells = tells;
        counted = subst (λ (m : Marks). Counted I.network L (answer_numbers (answer_for I.network L after.counts)).left m.counts) (sym after.marks) (counted-left I.network L left-length _ tells.left);
        counts = sym (ap (λ (m : Marks). m.counts) after.marks);
        sum = omega (arith, after.sum, tells.left);
      }

  -- locality: what is far from every removed tuple stays
  module _ (consistent : Consistent (supported I.network (combinations_of I)) (starting I s.words)) (r : ℕ) (apart : Apart I s.words made r) where
    far : (g : ℕ) → Memᴰ g (ids_of I.network r) → has L g ≡ has (starting I s.words) g
    far g m =
        filtered-far I.network (combinations_of I) (starting I s.words) consistent (removed_by I made) g
        (λ h lives removed chain. apart h lives removed (subst (λ (s : ℕ). Chain (combinations_of I) s (relation_of I.network h)) (relation_of-ids I.network r m) chain))

    abbrev Kept : Type 0
    Kept =
        ((g : ℕ) → Memᴰ g (ids_of I.network r) → is_live (after_all (start s) made).marks.words g ≡ is_live s.words g)
        × (get_or (after_all (start s) made).marks.counts r 0 ≡ get_or s.counts r 0)

    same_count : (C : List ℕ) → C ≡ live_counts I.network (starting I s.words) → Dec (r < length I.network.relations) → get_or (live_counts I.network L) r 0 ≡ get_or C r 0
    same_count C e (yes h) =
        counts-at I.network L r h ∙ count_same I.network L (starting I s.words) r far ∙ sym (ap (λ (c : List ℕ). get_or c r 0) e ∙ counts-at I.network (starting I s.words) r h)
    same_count C e (no d) =
        get_or-eq_default (live_counts I.network L) 0 {n = r} (omega (arith, counts-length I.network L))
        ∙ sym (get_or-eq_default C 0 {n = r} (omega (arith, ap length e, counts-length I.network (starting I s.words))))

    local-case : (x : Bool) → any_accepted made ≡ x → Kept
    local-case false e =
        let same = all-refused (start s) made keep e in
        (λ g m. ap (λ (st : State). is_live st.marks.words g) same, ap (λ (st : State). get_or st.marks.counts r 0) same)
    local-case true e =
        let after = all-accepted I s made proper keep e in
        let n = total I.network in (
          λ g m.
              let below = ids-below I.network r m in
              ap (λ (m : Marks). is_live m.words g) after.marks
              ∙ written-is_live n L s.words g (omega (arith, after.enough))
              ∙ ap (λ (x : Bool). cond x (has L g) (is_live s.words g)) (lt-ltb g n below)
              ∙ far g m
              ∙ living-has n s.words g below,
          ap (λ (m : Marks). get_or m.counts r 0) after.marks ∙ same_count s.counts (true-counts I.network s.words s.counts after.truth) (dec_lt r (length I.network.relations)),
        )

  local : Local I s made (after_all (start s) made)
  local consistent r apart = local-case consistent r apart (any_accepted made) refl

-- the single claim, of calls that keep their contracts
pub claim : (I : Instance) (s : Marks) (made : List Made) → Proper I made → AllKeep (start s) made → Claim I s made
claim I s made proper keep =
    record {
      rule = strike-rule I s made proper keep;
      nothing = λ e. record { state = all-refused (start s) made keep e; lists = lists-kept s (start s) made refl keep e };
      local = local I s made proper keep;
    }

-- ---- Test and compare

-- by the first fault and by whether the live tuples are consistent
module _ (I : Instance) (ws : List ℕ) where
  abbrev claimed : Type 0
  claimed = Consistent (supported I.network (combinations_of I)) (starting I ws)

  abbrev holds : Bool
  holds = is_consistent I.network (combinations_of I) (starting I ws)

  holds-iff : (holds ≡ true) ↔ claimed
  holds-iff = is_consistent-iff I.network (combinations_of I) (starting I ws)

  abbrev verdict : Option ℕ → Bool → ℕ × ℕ
  verdict o b = verdict_numbers (verdict_for o b)

  only_yes : (o : Option ℕ) → first_fault (test_faults I ws) ≡ o → (b : Bool) → holds ≡ b → (verdict o b).0 ≡ 1 → NoFault (test_faults I ws) × claimed
  only_yes none e true t k = (λ f m. no-fault-at (test_faults I ws) e m, holds-iff.0 t)
  only_yes none e false t k = absurd (omega (arith, k))
  only_yes (some f) e b t k = absurd (omega (arith, k))

  pub test-answered : TestAnswered I ws (test_reply I ws)
  unfolding test_reply
  test-answered =
      record {
        yes = λ sound t. ap₂ verdict (none-first_fault (test_faults I ws) sound) (holds-iff.1 t);
        no = λ sound d. ap₂ verdict (none-first_fault (test_faults I ws) sound) (false-intro holds (λ t. d (holds-iff.0 t)));
        refused = λ f first. ap (λ (o : Option ℕ). verdict o holds) (first-fault first);
        only = only_yes (first_fault (test_faults I ws)) refl holds refl;
      }

-- by the first fault and the first clash
module _ (N : Network) (g h : ℕ) where
  abbrev under : ℕ → Type 0
  under x = Memᴰ x (clashes (cells_of N g) (cells_of N h))

  clash-under : {x : ℕ} → under x → ClashUnder N g h x
  clash-under {x} m =
      let k = clashes-mem (cells_of N g) (cells_of N h) m in
      let c = clash-is k.0 k.1 k.5 in
      let own : (x, k.0.1) ≡ k.0 = λ i. (sym k.4 i, k.0.1) in
      let other : (x, k.1.1) ≡ k.1 = λ i. ((sym k.4 ∙ c.0) i, k.1.1) in
      (k.0.1, k.1.1, Memᴰ.cast own k.2, Memᴰ.cast other k.3, c.1)

  under-clash : {x : ℕ} → ClashUnder N g h x → under x
  under-clash {x} c = mem-clashes (cells_of N g) (cells_of N h) c.2 c.3 (clash-unfit (x, c.0) (x, c.1) refl c.4)

  first_clash-is : (x : ℕ) → FirstClash N g h x → first_clash N g h ≡ some x
  unfolding first_clash
  first_clash-is x c =
      least-is (clashes (cells_of N g) (cells_of N h)) x (under-clash c.0)
      (λ y m. below y m (dec_lt y x))
    where
      below : (y : ℕ) → under y → Dec (y < x) → x ≤ y
      below y m (yes l) = absurd (c.1 y l (clash-under m))
      below y m (no l) = omega arith

  is-first_clash : {x : ℕ} → first_clash N g h ≡ some x → FirstClash N g h x
  unfolding first_clash
  is-first_clash e = (
    clash-under (least-mem (clashes (cells_of N g) (cells_of N h)) e),
    λ y l c. omega (arith, l, least-below (clashes (cells_of N g) (cells_of N h)) e (under-clash c)),
  )

  first_clash-none : NoClash N g h → first_clash N g h ≡ none
  unfolding first_clash
  first_clash-none f = none-least (clashes (cells_of N g) (cells_of N h)) (λ x m. f x (clash-under m))

  none-first_clash : first_clash N g h ≡ none → NoClash N g h
  unfolding first_clash
  none-first_clash e x c = least-none (clashes (cells_of N g) (cells_of N h)) e (under-clash c)

  abbrev answer : Option ℕ → Option ℕ → ℕ × ℕ
  answer o clash = comparison_numbers (comparison_for o clash)

  abbrev Only : ℕ × ℕ → Type 0
  Only n =
      (n.0 ≡ 0 → NoFault (compare_faults N g h) × FirstClash N g h n.1) × (n.0 ≡ 1 → NoFault (compare_faults N g h) × NoClash N g h)

  only : (o clash : Option ℕ) → first_fault (compare_faults N g h) ≡ o → first_clash N g h ≡ clash → Only (answer o clash)
  only none none e d = (λ k. absurd (omega (arith, k)), λ k. (λ f m. no-fault-at (compare_faults N g h) e m, none-first_clash d))
  only none (some x) e d = (λ k. (λ f m. no-fault-at (compare_faults N g h) e m, is-first_clash d), λ k. absurd (omega (arith, k)))
  only (some f) c e d = (λ k. absurd (omega (arith, k)), λ k. absurd (omega (arith, k)))

  -- without fault, the clash is below 64
  clash-low : first_fault (compare_faults N g h) ≡ none → (x : ℕ) → first_clash N g h ≡ some x → x < variable_count
  unfolding compare_faults
  clash-low e =
      let ids = not-false _ (no-fault-at (ids_fault N (g ∷ h ∷ []) ∷ []) (first_fault-back (network_faults N) (ids_fault N (g ∷ h ∷ []) ∷ []) e) here) in
      first_clash-low N (faultless N (first_fault-front (network_faults N) (ids_fault N (g ∷ h ∷ []) ∷ []) e)) g h
      (ltb-true g (total N) (and_left (ltb g (total N)) (ltb h (total N) && true) ids))

  number-low : (o clash : Option ℕ) → first_fault (compare_faults N g h) ≡ o → first_clash N g h ≡ clash → (answer o clash).1 ≤ no_variable
  unfolding compare_faults
  number-low none none e d = omega arith
  number-low none (some x) e d = omega (arith, clash-low e x d)
  number-low (some f) c e d = leb-true f no_variable (first_fault-number (λ (k : ℕ). leb k no_variable) (compare_faults N g h) f refl e)

  pub compare-answered : CompareAnswered N g h (compare_reply N g h)
  unfolding compare_reply
  compare-answered =
      let o = only (first_fault (compare_faults N g h)) (first_clash N g h) refl refl in
      record {
        names = λ sound x c. ap₂ answer (none-first_fault (compare_faults N g h) sound) (first_clash-is x c);
        agrees = λ sound c. ap₂ answer (none-first_fault (compare_faults N g h) sound) (first_clash-none c);
        refused = λ f first. ap (λ (p : Option ℕ). answer p (first_clash N g h)) (first-fault first);
        names-only = o.0;
        agrees-only = o.1;
        low = number-low (first_fault (compare_faults N g h)) (first_clash N g h) refl refl;
      }
