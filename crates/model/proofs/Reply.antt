-- Laws of replies: accepted or refused, the lowest empty relation, what the answer tells, and the sum of its counts.
use mathlib.Core.Path.{◌≡◌, refl, sym, ◌∙◌, ap}
use mathlib.Core.Bool.{Bool, true, false, not, cond}
use mathlib.Core.Option.{Option, none, some}
use mathlib.Core.Logic.{◌⊎◌, inl, inr, ⊎_elim}
use mathlib.Core.List.{List, ◌++◌}
use Prim.Native.Nat.{ℕ, ◌+◌, ◌-◌, ◌≤◌, ◌<◌}
use native.Mathlib.Omega.{arith}
use native.Mathlib.Decide.{dec_lt}
use lib.Dec.{ltb}
use lib.ListN.{length, drop}
use borrow.Author.Tests.{lt-ltb, le-ltb}
use Rattle.model.specs.Lists.{is_none}
use Rattle.model.specs.declared.Counts.{Counts}
use Rattle.model.specs.declared.Answer.TheVariants.{Settled, Emptied}
use Rattle.model.specs.TupleSet.{TupleSet, has, count, restrict, without}
use Rattle.model.specs.Network.{Network, total, size, first_id}
use Rattle.model.specs.LiveCounts.{live_counts}
use Rattle.model.specs.Consistency.{is_consistent, support_list, needed}
use Rattle.model.specs.LiveWords.{is_live, living, next_live, written}
use Rattle.model.specs.Request.{Change, Instance, combinations_of, Request, removes}
use Rattle.model.specs.Fault.{published, first_fault, refusal, untrue, faults_on, faults, test_faults, accepts}
use Rattle.model.specs.Reply.{Numbers, answer_numbers, verdict_numbers, verdict_for, Reply, is_emptied, lowest_empty, answer_for, remainder, counts_for, leaving, accepted, refused, reply_to, reply, test_reply}
use Rattle.model.specs.Promises.{Tells}
use Rattle.model.proofs.Bools.{not-both}
use Rattle.model.proofs.Lists.{First, select-from, any-first, is_none-none, is_none-some}
use Rattle.model.proofs.Fault.{refusal-some, refusal-none, refusal-within, refusal-all}
use Rattle.model.proofs.TupleSet.{without-count, without-length}
use Rattle.model.proofs.Consistency.{filtered-length, filtered-count}
use Rattle.model.proofs.LiveWords.{living-has, next_live-first, written-written}

-- ---- Accepted or refused

pub reply-accepted : (q : Request) → accepts q ≡ true → reply q ≡ accepted q
unfolding accepts reply
reply-accepted q e = ap (λ (o : Option ℕ). reply_to o q) (is_none-none (first_fault (faults q)) e)

pub reply-refused : (q : Request) → accepts q ≡ false → (n : ℕ) × (reply q ≡ refused n q)
unfolding accepts reply
reply-refused q e = let k = is_none-some (first_fault (faults q)) e in (k.0, ap (λ (o : Option ℕ). reply_to o q) k.1)

-- the reply from the number of its first fault
module _ (q : Request) where
  abbrev number : ℕ
  number = refusal (first_fault (faults_on q.given (length q.words) (length q.supports) (untrue q.given.network q.words q.counts) q.change))

  pub reply-fault : (k : ℕ) → k ≡ number → (k ≡ 0 → ⊥) → reply q ≡ refused k q
  unfolding reply faults
  reply-fault k e d = ap (λ (o : Option ℕ). reply_to o q) (refusal-some (first_fault (faults q)) k (sym e) d)

  pub accepts-none : 0 ≡ number → accepts q ≡ true
  unfolding accepts faults
  accepts-none e = ap is_none (refusal-all q.given (length q.words) (length q.supports) (untrue q.given.network q.words q.counts) q.change (sym e))

-- test's answer from the number of its first fault
module _ (I : Instance) (ws : List ℕ) where
  abbrev consistent : Bool
  consistent = is_consistent I.network (combinations_of I) (living (total I.network) ws)

  pub test_reply-refused : (k : ℕ) → k ≡ refusal (first_fault (test_faults I ws)) → (k ≡ 0 → ⊥) → test_reply I ws ≡ (2, k)
  unfolding test_reply
  test_reply-refused k e d =
      ap (λ (o : Option ℕ). verdict_numbers (verdict_for o consistent)) (refusal-some (first_fault (test_faults I ws)) k (sym e) d)

  pub test_reply-checked : 0 ≡ refusal (first_fault (test_faults I ws)) → test_reply I ws ≡ verdict_numbers (verdict_for none consistent)
  unfolding test_reply test_faults
  test_reply-checked e =
      ap (λ (o : Option ℕ). verdict_numbers (verdict_for o consistent)) (refusal-none (test_faults I ws) refl (sym e))

-- what is not refused is accepted
pub accepts-kind : (q : Request) (n : ℕ) → (reply q).answer.kind ≡ n → n < 2 → (x : Bool) → accepts q ≡ x → accepts q ≡ true
accepts-kind q n k h true e = e
accepts-kind q n k h false e = absurd (omega (arith, ap (λ (p : Reply). p.answer.kind) (reply-refused q e).1))

-- ---- The lowest empty relation

pub lowest_empty-first : (N : Network) (L : TupleSet) → First (is_emptied N L) 0 (length N.relations) (lowest_empty N L)
unfolding lowest_empty
lowest_empty-first N L = select-from (is_emptied N L) 0 (length N.relations) (length N.relations) (omega arith)

-- a relation is emptied exactly if the next live id from its first one on lies past its last
pub is_emptied-next : (N : Network) (ws : List ℕ) (r end : ℕ) → end ≡ first_id N r + size N r → end ≤ total N → is_emptied N (living (total N) ws) r ≡ not (ltb (next_live ws (first_id N r) end) end)
is_emptied-next N ws r end e h =
    ap not
    (any-first (is_live ws) (has (living (total N) ws)) (first_id N r) (size N r) end (next_live ws (first_id N r) end) e
    (λ g _ l. living-has (total N) ws g (omega arith)) (next_live-first ws (first_id N r) end (omega arith)))

-- ---- What the answer tells

pub answer-emptied : (N : Network) (L : TupleSet) (k : Counts) → lowest_empty N L < length N.relations → answer_for N L k ≡ Emptied (lowest_empty N L) k
unfolding answer_for
answer-emptied N L k h = rw (lt-ltb (lowest_empty N L) (length N.relations) h)

pub answer-settled : (N : Network) (L : TupleSet) (k : Counts) → length N.relations ≤ lowest_empty N L → answer_for N L k ≡ Settled k
unfolding answer_for
answer-settled N L k h = rw (le-ltb (lowest_empty N L) (length N.relations) h)

-- The numbers carry the counts k.
record Carries (k : Counts) (a : Numbers) : Type 0 where
  left : a.left ≡ k.left
  withdrawn : a.withdrawn ≡ k.withdrawn
  deleted : a.deleted ≡ k.deleted

carries-either : (r : ℕ) (k : Counts) (b : Bool) → Carries k (answer_numbers (cond b (Emptied r k) (Settled k)))
carries-either r k true = record { left = refl; withdrawn = refl; deleted = refl }
carries-either r k false = record { left = refl; withdrawn = refl; deleted = refl }

answer_for-counts : (N : Network) (L : TupleSet) (k : Counts) → Carries k (answer_numbers (answer_for N L k))
unfolding answer_for
answer_for-counts N L k = carries-either (lowest_empty N L) k (ltb (lowest_empty N L) (length N.relations))

module _ (N : Network) (L : TupleSet) where
  -- where every relation has a tuple in L, none is the lowest without
  none-empty : ((r : ℕ) → r < length N.relations → is_emptied N L r ≡ false) → Dec (lowest_empty N L < length N.relations) → length N.relations ≤ lowest_empty N L
  none-empty h (yes l) = absurd (not-both ((lowest_empty-first N L).passes l) (h (lowest_empty N L) l))
  none-empty h (no d) = omega arith

  -- the lowest empty relation is r where r is empty and none below it is
  lowest-is : (r : ℕ) → r < length N.relations → is_emptied N L r ≡ true → ((s : ℕ) → s < r → is_emptied N L s ≡ false) → Dec (lowest_empty N L < r) → Dec (r < lowest_empty N L) → lowest_empty N L ≡ r
  lowest-is r h e f (yes l) d = absurd (not-both ((lowest_empty-first N L).passes (omega arith)) (f (lowest_empty N L) l))
  lowest-is r h e f (no n) (yes l) = absurd (not-both e ((lowest_empty-first N L).none_before r (omega arith) l))
  lowest-is r h e f (no n) (no m) = omega arith

  pub answer_for-tells : (k : Counts) → k.left ≡ count L → Tells N L (answer_numbers (answer_for N L k))
  answer_for-tells k left =
      record {
        settled = λ h. let e = answer-settled N L k (none-empty h (dec_lt (lowest_empty N L) (length N.relations))) in
            (ap (λ a. (answer_numbers a).kind) e, ap (λ a. (answer_numbers a).subject) e);
        emptied = λ r h e f. let q = lowest-is r h e f (dec_lt (lowest_empty N L) r) (dec_lt r (lowest_empty N L)) in
            let a = answer-emptied N L k (omega (arith, q)) in
            (ap (λ a. (answer_numbers a).kind) a, ap (λ a. (answer_numbers a).subject) a ∙ q);
        left = (answer_for-counts N L k).left ∙ left;
      }

  -- Settled or Emptied
  pub answer_for-kind : (k : Counts) → Dec (lowest_empty N L < length N.relations) → ((answer_numbers (answer_for N L k)).kind ≡ 0) ⊎ ((answer_numbers (answer_for N L k)).kind ≡ 1)
  answer_for-kind k (yes h) = inr (ap (λ a. (answer_numbers a).kind) (answer-emptied N L k h))
  answer_for-kind k (no d) = inl (ap (λ a. (answer_numbers a).kind) (answer-settled N L k (omega arith)))

  -- Emptied only where a relation is empty
  pub emptied-low : (k : Counts) → Dec (lowest_empty N L < length N.relations) → (answer_numbers (answer_for N L k)).kind ≡ 1 → lowest_empty N L < length N.relations
  emptied-low k (yes h) e = h
  emptied-low k (no d) e = absurd (omega (arith, e, ap (λ a. (answer_numbers a).kind) (answer-settled N L k (omega arith))))

-- ---- What is left, and the sum

module _ (I : Instance) where
  pub remainder-length : (change : Change) (S : TupleSet) → length (remainder I change S) ≡ length S
  unfolding remainder
  remainder-length change S =
      filtered-length I.network (combinations_of I) (without (removes I.network change) S)
      ∙ without-length (removes I.network change) S

  counts_for-sum : (change : Change) (S : TupleSet) → (counts_for I change S).left + (counts_for I change S).withdrawn + (counts_for I change S).deleted ≡ count S
  unfolding counts_for remainder
  counts_for-sum change S =
      omega (arith, without-count (removes I.network change) S, filtered-count I.network (combinations_of I) (without (removes I.network change) S))

  -- the counts by differences: of what lives at entry, what the change leaves of it, and what is left
  pub counts_for-differences : (change : Change) (S : TupleSet) → counts_for I change S ≡ record { left = count (remainder I change S); withdrawn = count S - count (without (removes I.network change) S); deleted = count (without (removes I.network change) S) - count (remainder I change S) }
  unfolding counts_for
  counts_for-differences change S =
      let e : count (restrict (removes I.network change) S) ≡ count S - count (without (removes I.network change) S) = omega (arith, without-count (removes I.network change) S) in
      ap (λ (k : ℕ). record { left = count (remainder I change S); withdrawn = k; deleted = count (without (removes I.network change) S) - count (remainder I change S) }) e

  -- left + withdrawn + deleted is the live count at entry
  pub leaving-sum : (change : Change) (S L : TupleSet) (words supports : List ℕ) → let a = (leaving I L (counts_for I change S) words supports).answer in a.left + a.withdrawn + a.deleted ≡ count S
  unfolding leaving
  leaving-sum change S L words supports =
      let c = answer_for-counts I.network L (counts_for I change S) in
      omega (arith, c.left, c.withdrawn, c.deleted, counts_for-sum change S)

  pub leaving-left : (L : TupleSet) (k : Counts) (words supports : List ℕ) → (leaving I L k words supports).answer.left ≡ k.left
  unfolding leaving
  leaving-left L k words supports = (answer_for-counts I.network L k).left

  pub leaving-withdrawn : (L : TupleSet) (k : Counts) (words supports : List ℕ) → (leaving I L k words supports).answer.withdrawn ≡ k.withdrawn
  unfolding leaving
  leaving-withdrawn L k words supports = (answer_for-counts I.network L k).withdrawn

  -- words that were written before do not show in what is left
  pub leaving-written : (L R : TupleSet) (k : Counts) (words supports : List ℕ) → leaving I L k (written (total I.network) R words) supports ≡ leaving I L k words supports
  unfolding leaving
  leaving-written L R k words supports =
      ap (λ (x : List ℕ). record { answer = answer_numbers (answer_for I.network L k); words = x; supports = support_list I.network (combinations_of I) L ++ drop (needed I.network (combinations_of I)) supports; counts = live_counts I.network L })
      (written-written (total I.network) L R words)

-- ---- A refusal

module _ (q : Request) where
  -- what an accepted request is answered is none
  accepted-kind : (accepted q).answer.kind ≡ 2 → ⊥
  unfolding accepted leaving
  accepted-kind e =
      let I = q.given in
      let S = living (total I.network) q.words in
      let L = remainder I q.change S in
      ⊎_elim (λ h. omega (arith, e, h)) (λ h. omega (arith, e, h))
      (answer_for-kind I.network L (counts_for I q.change S) (dec_lt (lowest_empty I.network L) (length I.network.relations)))

  kept_of : (o : Option ℕ) → first_fault (faults q) ≡ o → (reply_to o q).answer.kind ≡ 2 → ((reply_to o q).words ≡ q.words) × ((reply_to o q).supports ≡ q.supports) × ((reply_to o q).counts ≡ q.counts) × (published (reply_to o q).answer.subject ≡ true)
  unfolding faults
  kept_of (some f) e k =
      (refl, refl, refl, refusal-within q.given (length q.words) (length q.supports) (untrue q.given.network q.words q.counts) q.change f e)
  kept_of none e k = absurd (accepted-kind k)

  -- it leaves the lists as lent, and its number is one of the published
  pub reply-kept : (reply q).answer.kind ≡ 2 → ((reply q).words ≡ q.words) × ((reply q).supports ≡ q.supports) × ((reply q).counts ≡ q.counts) × (published (reply q).answer.subject ≡ true)
  unfolding reply
  reply-kept k = kept_of (first_fault (faults q)) refl k

  pub refused-not : (reply q).answer.kind ≡ 2 → accepts q ≡ true → ⊥
  refused-not k a = accepted-kind (sym (ap (λ (p : Reply). p.answer.kind) (reply-accepted q a)) ∙ k)
