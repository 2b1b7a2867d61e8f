-- Filtering again changes nothing, since what an accepted call leaves is consistent; nor does the same change once more, which finds
-- nothing to remove.
use mathlib.Core.Path.{◌≡◌, refl, sym, ◌∙◌, ap, subst}
use mathlib.Core.Bool.{Bool, true, false, not, cond}
use mathlib.Core.Option.{none}
use mathlib.Core.Logic.{inl, inr}
use mathlib.Core.List.{List, ◌++◌}
use Prim.Native.Nat.{ℕ, ◌-◌, ◌≤◌}
use native.Mathlib.Omega.{arith}
use lib.Dec.{ltb}
use lib.ListN.{length, take, drop, take-append-drop}
use lib.Seq.{take_at}
use borrow.Author.Tests.{not-true}
use Rattle.model.specs.declared.Answer.TheVariants.{Settled, Emptied}
use Rattle.model.specs.declared.Counts.{Counts}
use Rattle.model.specs.Network.{total}
use Rattle.model.specs.TupleSet.{TupleSet, has, count, restrict, without}
use Rattle.model.specs.Consistency.{filtered, support_list, needed}
use Rattle.model.specs.Request.{combinations_of, Request, removes, Change, Instance}
use Rattle.model.specs.Fault.{accepts, first_fault, change_faults}
use Rattle.model.specs.Reply.{Reply, remainder, counts_for, accepted, reply, answer_numbers, lowest_empty, answer_for, leaving}
use Rattle.model.specs.Promises.{entry_tuples, given_tuples}
use Rattle.model.specs.Tighter.{Spent, again, nothing_gone, Repeats}
use Rattle.model.proofs.TupleSet.{restrict-test, without-cong, without-none, without-count}
use Rattle.model.proofs.Fault.{accepts-words, accepts-change, accepts-other}
use Rattle.model.proofs.LiveWords.{living-length, living-written, written-length}
use Rattle.model.proofs.LiveCounts.{untrue-written}
use Rattle.model.proofs.Consistency.{filtered-largest, filtered-filtered, support_list-length}
use Rattle.model.proofs.Reply.{reply-accepted, remainder-length, leaving-written}

-- the answer of the same set, with nothing withdrawn and nothing deleted
nothing-gone : (r : ℕ) (k : Counts) (b : Bool) → answer_numbers (cond b (Emptied r (record { left = k.left; withdrawn = 0; deleted = 0 })) (Settled (record { left = k.left; withdrawn = 0; deleted = 0 }))) ≡ nothing_gone (answer_numbers (cond b (Emptied r k) (Settled k)))
nothing-gone r k true = refl
nothing-gone r k false = refl

module _ (q : Request) (e : accepts q ≡ true) where
  abbrev I : Instance
  I = q.given

  abbrev k : ℕ
  k = needed I.network (combinations_of I)

  -- what q leaves
  abbrev rest : TupleSet
  rest = remainder I q.change (entry_tuples q)

  abbrev p : Reply
  p = leaving I rest (counts_for I q.change (entry_tuples q)) q.words q.supports

  rest-length : length rest ≡ total I.network
  rest-length = remainder-length I q.change (entry_tuples q) ∙ living-length (total I.network) q.words

  reply-is : reply q ≡ p
  unfolding accepted
  reply-is = reply-accepted q e

  -- filter removes nothing, and q's change nothing more
  spent-removes : (change : Change) → Spent q change → (g : ℕ) → has rest g ≡ true → removes I.network change g ≡ false
  unfolding remainder removes
  spent-removes change (inl f) g h = ap (λ (c : Change). removes I.network c g) f
  spent-removes change (inr f) g h =
      ap (λ (c : Change). removes I.network c g) f
      ∙ not-true _ (restrict-test (λ (g : ℕ). not (removes I.network q.change g)) (entry_tuples q) g ((filtered-largest I.network (combinations_of I) (given_tuples q)).inside g h))

  spent-faults : (change : Change) → Spent q change → first_fault (change_faults I.network change) ≡ none
  spent-faults change (inl f) = ap (λ (c : Change). first_fault (change_faults I.network c)) f
  spent-faults change (inr f) = ap (λ (c : Change). first_fault (change_faults I.network c)) f ∙ accepts-change q e

  module _ (change : Change) (spent : Spent q change) (supports : List ℕ) (enough : k ≤ length supports) where
    none-removed : without (removes I.network change) rest ≡ rest
    none-removed = without-cong (removes I.network change) (λ _. false) rest (spent-removes change spent) ∙ without-none rest

    remainder-again : remainder I change rest ≡ rest
    unfolding remainder
    remainder-again = ap (filtered I.network (combinations_of I)) none-removed ∙ filtered-filtered I.network (combinations_of I) (given_tuples q)

    counts-again : counts_for I change rest ≡ record { left = count rest; withdrawn = 0; deleted = 0 }
    unfolding counts_for
    counts-again =
        let w : count (restrict (removes I.network change) rest) ≡ 0 = omega (arith, without-count (removes I.network change) rest, ap count none-removed) in
        let d : count (without (removes I.network change) rest) - count (remainder I change rest) ≡ 0 = omega (arith, ap count none-removed, ap count remainder-again) in
        λ i. record { left = count (remainder-again i); withdrawn = w i; deleted = d i }

    accepts-again : accepts (again q p change supports) ≡ true
    unfolding leaving
    accepts-again =
        accepts-other q e p.words supports p.counts change (written-length (total I.network) rest q.words) enough
        (untrue-written I.network rest q.words rest-length (accepts-words q e)) (spent-faults change spent)

    reply-again : reply (again q p change supports) ≡ leaving I rest (record { left = count rest; withdrawn = 0; deleted = 0 }) q.words supports
    unfolding accepted leaving
    reply-again =
        reply-accepted (again q p change supports) accepts-again
        ∙ ap (λ (S : TupleSet). leaving I (remainder I change S) (counts_for I change S) p.words supports) (living-written (total I.network) rest q.words rest-length (accepts-words q e))
        ∙ (λ i. leaving I (remainder-again i) (counts-again i) p.words supports)
        ∙ leaving-written I rest rest (record { left = count rest; withdrawn = 0; deleted = 0 }) q.words supports

    repeats-leaving : Repeats q p supports (leaving I rest (record { left = count rest; withdrawn = 0; deleted = 0 }) q.words supports)
    unfolding leaving answer_for counts_for
    repeats-leaving =
        let list = support_list I.network (combinations_of I) rest in
        let front : take k (list ++ drop k q.supports) ≡ list = take_at list (drop k q.supports) k (support_list-length I.network (combinations_of I) rest) in
        let numbers : list ++ drop k supports ≡ take k (list ++ drop k q.supports) ++ drop k supports = ap (λ (xs : List ℕ). xs ++ drop k supports) (sym front) in
        record {
          answer = nothing-gone (lowest_empty I.network rest) (counts_for I q.change (entry_tuples q)) (ltb (lowest_empty I.network rest) (length I.network.relations));
          words = refl;
          counts = refl;
          numbers = numbers;
          same_numbers = λ same. numbers ∙ ap (λ (xs : List ℕ). take k (list ++ drop k q.supports) ++ drop k xs) same ∙ take-append-drop k (list ++ drop k q.supports);
        }

    -- a filter, or the same change, after an accepted change changes nothing
    pub repeats : Repeats q (reply q) supports (reply (again q (reply q) change supports))
    repeats =
        subst (λ (x : Reply). Repeats q x supports (reply (again q x change supports))) (sym reply-is)
        (subst (Repeats q p supports) (sym reply-again) repeats-leaving)
