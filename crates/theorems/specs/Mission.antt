-- Read this first: the mission's three points, of the calls themselves and from nothing but their contracts.
--
--   the calls                                         their contract               what follows of them
--   changes::filter, withdraw, choose, choose_several Keeps                        point-1, point-2, point-3, at_once, no-pair
--   wakhvosi_filter_records, .. (records as a slice)  Keeps, of the packed answer  point-1, point-2, point-3, at_once, no-pair
--   wakhvosi_filter, .., choose_several (bytes)       KeepsBytes                   points-1-2, point-3-bytes, at-once-bytes, no-pair-bytes
--   consistency::test, network::comparison::compare   Tested, Compared             test-promise, compare-promise
--   wakhvosi_test_records, wakhvosi_compare_records   Tested, Compared             test-promise, compare-promise
--   wakhvosi_test, wakhvosi_compare (bytes)           TestedBytes, ComparedBytes   test-promise-bytes, compare-promise-bytes
--   enumeration::combinations                         Enumerates                   enumeration-promise
--   wakhvosi_combinations_records                     Enumerates, packed answer    enumeration-promise
--   wakhvosi_combinations (bytes)                     EnumeratesBytes              enumeration-promise-bytes
--   the moves between 16-bit and 32-bit values        KeepsMove, KeepsMoveBytes    Moves.antt beside this file
--
-- A contract is that definition by name and nothing more, with the call's request at entry, and what it answers and leaves
-- (proofs/Contracts.antt takes it from the functions themselves). No call has a `requires`. The definitions on lists are in the model's specs/Reply.antt, beside `reply`, `test_reply` and `compare_reply`; those
-- on bytes in encoding's specs/Call.antt. What follows are the records of the model's specs/Promises.antt; on bytes those of
-- ByteCalls.antt beside this file, proved in proofs/Bytes.antt.
use Rattle.std.specs.Prelude.{◌≡◌, refl, true, List, [], ◌∷◌, ℕ, get_or}
use Rattle.std.proofs.Common.{sym, ◌∙◌, ap, subst, arith}
use Rattle.std.proofs.lemmas.Bool.{eqb-false}
use Rattle.model.specs.declared.Counts.{Counts}
use Rattle.model.specs.declared.Answer.{Answer}
use Rattle.model.specs.declared.Answer.TheVariants.{Settled}
use Rattle.model.specs.declared.Verdict.TheVariants.{Yes}
use Rattle.model.specs.declared.Comparison.TheVariants.{Agree, Differ}
use Rattle.model.specs.TupleSet
use Rattle.model.specs.Network
use Rattle.model.specs.Network.{Network}
use Rattle.model.specs.Agreement
use Rattle.model.specs.Combination
use Rattle.model.specs.Support
use Rattle.model.specs.LiveCounts
use Rattle.model.specs.Consistency
use Rattle.model.specs.LiveWords
use Rattle.model.specs.Request
use Rattle.model.specs.Request.{filter, withdraw, choose, choose_several, Instance, Request}
use Rattle.model.specs.Fault
use Rattle.model.specs.Fault.{accepts}
use Rattle.model.specs.Reply
use Rattle.model.specs.Reply.{Reply, reply, request, answer_numbers, verdict_numbers, test_reply, comparison_numbers, compare_reply, replied, Keeps, Tested, Compared}
use Rattle.model.specs.declared.Enumeration.TheVariants.{Listed, Refused}
use Rattle.model.specs.Enumeration
use Rattle.model.specs.Enumeration.{EnumerationReply, enumerated, enumeration_reply, Enumerates}
use Rattle.model.specs.Calls.{Marks, Proper, Made, start, AllKeep}
use Rattle.model.specs.Promises.{Answered, Filtered, AtOnce, Claim, TestAnswered, CompareAnswered, EnumerationAnswered}
use Rattle.model.specs.Examples.{relation, network_a, bare_network, hub, alike, triangle, vague, crossed, pairs, asked, next, p1, p3, p7}
use Rattle.model.proofs.Several.{none-filters}
use Rattle.model.proofs.Mission.{answered, filtering, claim, test-answered, compare-answered}
use Rattle.model.proofs.Enumerated.{enumeration-answered}

-- ---- Points 1 and 2, of one change call

module _ (q : Request) (p : Reply) (kept : Keeps q p) where
  -- it is answered Settled, Emptied with a relation's number, or refused with the number of its first fault and every list as
  -- lent; and refused for nothing else
  pub point-1 : Answered q p
  point-1 = subst (Answered q) (sym kept) (answered q)

  -- the tuples left are the largest consistent set inside those given, no solution is lost, the counts are true and add up
  pub point-2 : accepts q ≡ true → Filtered q p
  point-2 e = subst (Filtered q) (sym kept) (filtering q e)

-- ---- Point 3, of a list of change calls on one instance and its live words and counts, of which refused ones may be on others

-- the strike rule, that a list without an accepted call writes nothing, and locality
pub point-3 : (I : Instance) (s : Marks) (made : List Made) → Proper I made → AllKeep (start s) made → Claim I s made
point-3 = claim

-- ---- Choosing several at once (card 7): what an accepted call with the reply p leaves is what choosing the pairs one by one leaves, in
-- any order; and of two contrary values for a variable no tuple is left but with any there

pub at_once : (q : Request) (p : Reply) → Keeps q p → accepts q ≡ true → (xs vs : List ℕ) → q.change ≡ choose_several xs vs → AtOnce q p xs vs
at_once q p kept e = (point-2 q p kept e).several

-- without a pair it answers and leaves what filter does, whatever it is lent
pub no-pair : (I : Instance) (words supports counts : List ℕ) (p : Reply) → Keeps (request I words supports counts (choose_several [] [])) p → Keeps (request I words supports counts filter) p
no-pair I words supports counts p kept = kept ∙ none-filters I words supports counts

-- ---- Test and compare

-- yes exactly if there is no fault and the live tuples are consistent; refused exactly for the first fault
pub test-promise : (I : Instance) (ws : List ℕ) (n : ℕ × ℕ) → Tested I ws n → TestAnswered I ws n
test-promise I ws n kept = subst (TestAnswered I ws) (sym kept) (test-answered I ws)

-- it names a variable exactly if both tuples have it, their values under it do not fit, and those under every lower variable that
-- both have do; it says agree exactly if there is no such variable
pub compare-promise : (N : Network) (g h : ℕ) (n : ℕ × ℕ) → Compared N g h n → CompareAnswered N g h n
compare-promise N g h n kept = subst (CompareAnswered N g h) (sym kept) (compare-answered N g h)

-- ---- The listing of connected combinations (card 1)

-- it lists exactly the connected combinations of m relations, each once and in order, and tells how many; a filter takes what it lists;
-- it is refused exactly for the first fault, and then writes nothing
pub enumeration-promise : (N : Network) (m : ℕ) (list : List ℕ) (p : EnumerationReply) → Enumerates N m list p → EnumerationAnswered N m list p
enumeration-promise N m list p kept = subst (EnumerationAnswered N m list) (sym kept) (enumeration-answered N m list)

-- ---- What the contracts rule out: of each call, two or three wrong programs that would break its contract on an example

-- value 6 chosen under variable 2, on fresh book A
p9 : Request
p9 = asked network_a 2 pairs (127 ∷ []) (choose 2 6)

-- value 2 chosen under variable 1 and 6 under variable 2, on fresh book A
both : Request
both = asked network_a 2 pairs (127 ∷ []) (choose_several (1 ∷ 2 ∷ []) (2 ∷ 6 ∷ []))

-- 4 and 3 chosen under variable 0, where one tuple has any
contrary : Request
contrary = asked vague 2 (0 ∷ 1 ∷ []) (15 ∷ []) (choose_several (0 ∷ 0 ∷ []) (4 ∷ 3 ∷ []))

-- tuple 5 listed twice
twice : Request
twice = asked network_a 2 pairs (127 ∷ []) (withdraw (5 ∷ 5 ∷ []))

pairs_of : Network → Instance
pairs_of N = record { network = N; m = 2; members = pairs }

-- what the definitions give
right : ((reply p1).words ≡ 123 ∷ []) × ((reply p7).answer.kind ≡ 1) × ((reply p3).words ≡ 82 ∷ []) × ((reply twice).answer.withdrawn ≡ 1) × ((reply p9).words ≡ 82 ∷ []) × ((reply p9).answer.left ≡ 3) × (test_reply (pairs_of network_a) (127 ∷ []) ≡ (0, 0)) × (test_reply p7.given (63 ∷ []) ≡ (0, 0)) × (compare_reply network_a 0 3 ≡ (1, 64)) × (compare_reply network_a 2 3 ≡ (0, 1)) × (compare_reply network_a 0 2 ≡ (0, 0)) × (compare_reply crossed 0 3 ≡ (0, 4)) × ((reply p1).counts ≡ 2 ∷ 2 ∷ 2 ∷ []) × ((reply both).answer.withdrawn ≡ 3) × ((reply contrary).words ≡ 5 ∷ [])
unfolding p9 both contrary twice pairs_of relation network_a triangle vague crossed pairs asked next p1 p3 p7 TupleSet.closure Network.relation_of Network.index_of Network.scope_of Network.values_at Network.tuple_of Agreement.is_any Agreement.fit Agreement.clash Agreement.clashes Agreement.cells_of Agreement.first_clash Agreement.agree Agreement.share Combination.combinations Combination.connected Support.candidates Support.is_support Support.supports Support.first_support Consistency.supported Consistency.is_consistent Consistency.filtered Consistency.support_list Consistency.needed LiveWords.bit LiveWords.is_set LiveWords.is_live LiveWords.living LiveWords.word LiveWords.written Request.removes LiveCounts.live_counts Fault.untrue Fault.list_faults Fault.faults_on Fault.faults Fault.test_faults Fault.compare_faults Reply.lowest_empty Reply.answer_for Reply.remainder Reply.counts_for Reply.leaving Reply.accepted Reply.reply Reply.test_reply Reply.compare_reply
right = (refl, refl, refl, refl, refl, refl, refl, refl, refl, refl, refl, refl, refl, refl, refl)

-- a filter that touches nothing
filter-touches-nothing : (a : Answer) (supports counts : List ℕ) → Keeps p1 (replied a (127 ∷ []) supports counts) → ⊥
filter-touches-nothing a supports counts kept =
    eqb-false 127 123 refl (ap (λ (p : Reply). get_or p.words 0 0) kept ∙ ap (λ (ws : List ℕ). get_or ws 0 0) right.0)

-- .. that compares a candidate only with the tuple that seeks support, and so says Settled
filter-seeking-tuple-only : (k : Counts) (words supports counts : List ℕ) → Keeps p7 (replied (Settled k) words supports counts) → ⊥
filter-seeking-tuple-only k words supports counts kept =
    eqb-false 0 1 refl (ap (λ (p : Reply). p.answer.kind) kept ∙ right.1)

-- .. that leaves a relation's count as it was
filter-count-left : (a : Answer) (words supports : List ℕ) → Keeps p1 (replied a words supports (3 ∷ 2 ∷ 2 ∷ [])) → ⊥
filter-count-left a words supports kept =
    eqb-false 3 2 refl (ap (λ (p : Reply). get_or p.counts 0 0) kept ∙ ap (λ (ns : List ℕ). get_or ns 0 0) right.12)

-- a withdraw that leaves later marks unfiltered
withdraw-unfiltered : (a : Answer) (supports counts : List ℕ) → Keeps p3 (replied a (91 ∷ []) supports counts) → ⊥
withdraw-unfiltered a supports counts kept =
    eqb-false 91 82 refl (ap (λ (p : Reply). get_or p.words 0 0) kept ∙ ap (λ (ws : List ℕ). get_or ws 0 0) right.2)

-- .. that counts the tuples withdrawn from the list
withdraw-counts-listed : (a : Answer) (words supports counts : List ℕ) → (answer_numbers a).withdrawn ≡ 2 → Keeps twice (replied a words supports counts) → ⊥
withdraw-counts-listed a words supports counts n kept =
    let e : (answer_numbers a).withdrawn ≡ 1 = ap (λ (p : Reply). p.answer.withdrawn) kept ∙ right.3 in
    omega arith

-- a choose that withdraws the tuples with the value chosen
choose-removes-equal : (a : Answer) (supports counts : List ℕ) → Keeps p9 (replied a (41 ∷ []) supports counts) → ⊥
choose-removes-equal a supports counts kept =
    eqb-false 41 82 refl (ap (λ (p : Reply). get_or p.words 0 0) kept ∙ ap (λ (ws : List ℕ). get_or ws 0 0) right.4)

-- .. that only strikes, and does not filter
choose-unfiltered : (a : Answer) (words supports counts : List ℕ) → (answer_numbers a).left ≡ 5 → Keeps p9 (replied a words supports counts) → ⊥
choose-unfiltered a words supports counts n kept =
    let e : (answer_numbers a).left ≡ 3 = ap (λ (p : Reply). p.answer.left) kept ∙ right.5 in
    omega arith

-- a choice of several that makes one call for each pair, and so counts as withdrawn what the filter had not deleted before
several-call-by-call : (a : Answer) (words supports counts : List ℕ) → (answer_numbers a).withdrawn ≡ 2 → Keeps both (replied a words supports counts) → ⊥
several-call-by-call a words supports counts n kept =
    let e : (answer_numbers a).withdrawn ≡ 3 = ap (λ (p : Reply). p.answer.withdrawn) kept ∙ right.13 in
    omega arith

-- .. that keeps the last value given for a variable
several-last-value : (a : Answer) (supports counts : List ℕ) → Keeps contrary (replied a (15 ∷ []) supports counts) → ⊥
several-last-value a supports counts kept =
    eqb-false 15 5 refl (ap (λ (p : Reply). get_or p.words 0 0) kept ∙ ap (λ (ws : List ℕ). get_or ws 0 0) right.14)

-- a test that says yes to all
test-says-yes : Tested (pairs_of network_a) (127 ∷ []) (verdict_numbers Yes) → ⊥
test-says-yes kept = eqb-false 1 0 refl (ap (λ (n : ℕ × ℕ). n.0) (kept ∙ right.6))

-- .. that compares a candidate only with the tuple that seeks support
test-seeking-tuple-only : Tested p7.given (63 ∷ []) (verdict_numbers Yes) → ⊥
test-seeking-tuple-only kept = eqb-false 1 0 refl (ap (λ (n : ℕ × ℕ). n.0) (kept ∙ right.7))

-- a compare that takes columns by place
compare-by-place : (x : ℕ) → Compared network_a 0 3 (comparison_numbers (Differ x)) → ⊥
compare-by-place x kept = eqb-false 0 1 refl (ap (λ (n : ℕ × ℕ). n.0) (kept ∙ right.8))

-- .. that says that all agree
compare-says-yes : Compared network_a 2 3 (comparison_numbers Agree) → ⊥
compare-says-yes kept = eqb-false 1 0 refl (ap (λ (n : ℕ × ℕ). n.0) (kept ∙ right.9))

-- .. that names the highest clash
compare-highest : Compared network_a 0 2 (comparison_numbers (Differ 1)) → ⊥
compare-highest kept = eqb-false 1 0 refl (ap (λ (n : ℕ × ℕ). n.1) (kept ∙ right.10))

-- .. that names the first clash met
compare-first-met : Compared crossed 0 3 (comparison_numbers (Differ 9)) → ⊥
compare-first-met kept = eqb-false 9 4 refl (ap (λ (n : ℕ × ℕ). n.1) (kept ∙ right.11))

-- what the listing gives: of the hub two triples; of 24 relations that share a variable more pairs than may be listed
listing-right : ((enumeration_reply hub 3 []).answer.subject ≡ 16) × ((enumeration_reply hub 3 (0 ∷ 0 ∷ 0 ∷ 0 ∷ 0 ∷ 0 ∷ [])).answer.left ≡ 2) × ((enumeration_reply network_a 2 (0 ∷ 0 ∷ 0 ∷ 0 ∷ 0 ∷ 0 ∷ [])).answer.left ≡ 3) × ((enumeration_reply (alike 24) 2 []).answer.subject ≡ 15)
unfolding hub alike bare_network relation network_a Network.scope_of Agreement.share Combination.connected Enumeration.connected_combinations Enumeration.enumeration_faults Enumeration.enumeration_reply
listing-right = (refl, refl, refl, refl)

-- a listing of those in which each member shares with the next one listed
listing-neighbours-only : (members : List ℕ) → Enumerates hub 3 (0 ∷ 0 ∷ 0 ∷ 0 ∷ 0 ∷ 0 ∷ []) (enumerated (Listed 1) members) → ⊥
listing-neighbours-only members kept =
    eqb-false 1 2 refl (ap (λ (p : EnumerationReply). p.answer.left) kept ∙ listing-right.1)

-- .. that begins at relation 1
listing-from-one : (members : List ℕ) → Enumerates network_a 2 (0 ∷ 0 ∷ 0 ∷ 0 ∷ 0 ∷ 0 ∷ []) (enumerated (Listed 1) members) → ⊥
listing-from-one members kept =
    eqb-false 1 3 refl (ap (λ (p : EnumerationReply). p.answer.left) kept ∙ listing-right.2)

-- .. that looks at the list lent before it knows how many there are
listing-room-first : (members : List ℕ) → Enumerates (alike 24) 2 [] (enumerated (Refused 16) members) → ⊥
listing-room-first members kept =
    eqb-false 16 15 refl (ap (λ (p : EnumerationReply). p.answer.subject) kept ∙ listing-right.3)
