-- What each call answers, and what it leaves in the lists lent to it.
use Rattle.std.specs.Prelude.{◌≡◌, Bool, true, false, not, cond, List, ◌++◌, ℕ, ◌-◌, ltb, length, drop}
use Rattle.std.proofs.Math.Option.{Option, none, some}
use Rattle.model.specs.declared.Counts.{Counts}
use Rattle.model.specs.declared.Answer.{Answer}
use Rattle.model.specs.declared.Answer.TheVariants.{Settled, Emptied, Refused}
use Rattle.model.specs.declared.Verdict.{Verdict}
use Rattle.model.specs.declared.Verdict.TheVariants as verdict
use Rattle.model.specs.declared.Comparison.{Comparison}
use Rattle.model.specs.declared.Comparison.TheVariants as comparison
use Rattle.model.specs.Limits.{max_relations, no_variable}
use Rattle.model.specs.Lists.{from, any, select, first_or}
use Rattle.model.specs.TupleSet.{TupleSet, has, count, restrict, without}
use Rattle.model.specs.Network.{Network, total, ids_of}
use Rattle.model.specs.Agreement.{first_clash}
use Rattle.model.specs.LiveCounts.{live_counts}
use Rattle.model.specs.Consistency.{filtered, is_consistent, support_list, needed}
use Rattle.model.specs.LiveWords.{living, written}
use Rattle.model.specs.Request.{Change, Instance, combinations_of, Request, removes}
use Rattle.model.specs.Fault.{first_fault, faults, test_faults, compare_faults}

-- The numbers of an answer. Kind: 0 settled, 1 emptied, 2 refused. Subject: 64 if settled, the relation if emptied, the
-- refusal number if refused.
pub record Numbers : Type 0 where
  pub kind : ℕ
  pub subject : ℕ
  pub left : ℕ
  pub withdrawn : ℕ
  pub deleted : ℕ

abbrev pub with_counts : ℕ → ℕ → Counts → Numbers
with_counts kind subject k =
    record { kind = kind; subject = subject; left = k.left; withdrawn = k.withdrawn; deleted = k.deleted }

-- the papers' numbers for each case of the enum
abbrev pub answer_numbers : Answer → Numbers
answer_numbers (Settled k) = with_counts 0 max_relations k
answer_numbers (Emptied r k) = with_counts 1 r k
answer_numbers (Refused f) = with_counts 2 f (record { left = 0; withdrawn = 0; deleted = 0 })

-- What a change call answers, and what the live words, the support list and the live counts hold at its end.
pub record Reply : Type 0 where
  pub answer : Numbers
  pub words : List ℕ
  pub supports : List ℕ
  pub counts : List ℕ

-- the request of these lists and this change
abbrev pub request : Instance → List ℕ → List ℕ → List ℕ → Change → Request
request I words supports counts change =
    record { given = I; words = words; supports = supports; counts = counts; change = change }

-- the reply of an answer, and of the live words, the support list and the live counts at the end
abbrev pub replied : Answer → List ℕ → List ℕ → List ℕ → Reply
replied a words supports counts = record { answer = answer_numbers a; words = words; supports = supports; counts = counts }

-- relation r has no tuple in S
abbrev pub is_emptied : Network → TupleSet → ℕ → Bool
is_emptied N S r = not (any (has S) (ids_of N r))

-- the lowest relation with no tuple in S; the number of relations where there is none
unfoldable pub lowest_empty : Network → TupleSet → ℕ
lowest_empty N S = first_or (length N.relations) (select (is_emptied N S) (from 0 (length N.relations)))

-- Emptied with the lowest relation that has no tuple in S, or Settled
unfoldable pub answer_for : Network → TupleSet → Counts → Answer
answer_for N S k = cond (ltb (lowest_empty N S) (length N.relations)) (Emptied (lowest_empty N S) k) (Settled k)

-- what an accepted change leaves where S lives at entry
unfoldable pub remainder : Instance → Change → TupleSet → TupleSet
remainder I change S = filtered I.network (combinations_of I) (without (removes I.network change) S)

-- the tuples left; those that the change removed; those that the filter removed
unfoldable pub counts_for : Instance → Change → TupleSet → Counts
counts_for I change S =
    record {
      left = count (remainder I change S);
      withdrawn = count (restrict (removes I.network change) S);
      deleted = count (without (removes I.network change) S) - count (remainder I change S);
    }

-- the reply of a call that leaves the tuples L: the first supports in L, the words with L, and its counts; every other bit and
-- number as lent
unfoldable pub leaving : Instance → TupleSet → Counts → List ℕ → List ℕ → Reply
leaving I L k words supports =
    record {
      answer = answer_numbers (answer_for I.network L k);
      words = written (total I.network) L words;
      supports = support_list I.network (combinations_of I) L ++ drop (needed I.network (combinations_of I)) supports;
      counts = live_counts I.network L;
    }

unfoldable pub accepted : Request → Reply
accepted q =
    let I = q.given in
    let S = living (total I.network) q.words in
    leaving I (remainder I q.change S) (counts_for I q.change S) q.words q.supports

-- a refusal gives its number and leaves every list as lent
abbrev pub refused : ℕ → Request → Reply
refused f q = record { answer = answer_numbers (Refused f); words = q.words; supports = q.supports; counts = q.counts }

abbrev pub reply_to : Option ℕ → Request → Reply
reply_to none q = accepted q
reply_to (some f) q = refused f q

-- What the change calls answer and leave.
unfoldable pub reply : Request → Reply
reply q = reply_to (first_fault (faults q)) q

-- The numbers of test's answer: 0 no, 1 yes, 2 refused; and the refusal number.
abbrev pub verdict_numbers : Verdict → ℕ × ℕ
verdict_numbers verdict.No = (0, 0)
verdict_numbers verdict.Yes = (1, 0)
verdict_numbers (verdict.Refused f) = (2, f)

-- .. and of compare's: 0 differ, with the variable; 1 agree, with 64; 2 refused, with the refusal number
abbrev pub comparison_numbers : Comparison → ℕ × ℕ
comparison_numbers (comparison.Differ x) = (0, x)
comparison_numbers comparison.Agree = (1, no_variable)
comparison_numbers (comparison.Refused f) = (2, f)

abbrev pub verdict_for : Option ℕ → Bool → Verdict
verdict_for none true = verdict.Yes
verdict_for none false = verdict.No
verdict_for (some f) b = verdict.Refused f

-- by the first fault and the first clash
abbrev pub comparison_for : Option ℕ → Option ℕ → Comparison
comparison_for none none = comparison.Agree
comparison_for none (some x) = comparison.Differ x
comparison_for (some f) clash = comparison.Refused f

-- What test answers: are the live words consistent. It writes nothing.
unfoldable pub test_reply : Instance → List ℕ → ℕ × ℕ
test_reply I ws =
    verdict_numbers
    (verdict_for (first_fault (test_faults I ws)) (is_consistent I.network (combinations_of I) (living (total I.network) ws)))

-- What compare answers: where the tuples with ids g and h clash, or that they agree. It writes nothing.
unfoldable pub compare_reply : Network → ℕ → ℕ → ℕ × ℕ
compare_reply N g h = comparison_numbers (comparison_for (first_fault (compare_faults N g h)) (first_clash N g h))

-- ---- The contracts of the published calls, which they cite by these names

-- A change call keeps its contract: q is its request at entry, p what it answers and leaves.
abbrev pub Keeps : Request → Reply → Type 0
Keeps q p = p ≡ reply q

-- .. and test, whose answer has the numbers n
abbrev pub Tested : Instance → List ℕ → ℕ × ℕ → Type 0
Tested I words n = n ≡ test_reply I words

-- .. and compare
abbrev pub Compared : Network → ℕ → ℕ → ℕ × ℕ → Type 0
Compared N g h n = n ≡ compare_reply N g h
