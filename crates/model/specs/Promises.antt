-- What is promised of the calls, each as its sentence in the papers reads; proofs/Mission.antt proves every one of them of
-- `reply`, which the contracts of the code cite.
use Rattle.std.specs.Prelude.{◌≡◌, true, false, cond, ◌⊎◌, ℕ, ◌+◌, ◌*◌, ◌≤◌, ◌<◌, ltb, length, get_or, take, drop, replicate}
use Rattle.std.proofs.Math.Option.{some}
use mathlib.Core.List.{List, ◌∷◌, ◌++◌, map, Memᴰ}
use Rattle.model.specs.Limits.{max_relations, no_variable, no_support, word_bits}
use Rattle.model.specs.Lists.{sum, empty, earlier, Permutation}
use Rattle.model.specs.TupleSet.{TupleSet, has, count, without, Largest, Consistent}
use Rattle.model.specs.Network.{Network, total, ids_of, relation_of, index_of}
use Rattle.model.specs.Agreement.{Cell, is_any, fit, cells, cells_of}
use Rattle.model.specs.Combination.{Combination, combinations, Chain}
use Rattle.model.specs.Support.{candidates, is_support, first_support}
use Rattle.model.specs.LiveCounts.{live_count, live_counts}
use Rattle.model.specs.Consistency.{supported, support_list, needed}
use Rattle.model.specs.Solution.{Assignment, is_solution}
use Rattle.model.specs.LiveWords.{is_live, living}
use Rattle.model.specs.Request.{choose, choose_several, Instance, combinations_of, Request, removes}
use Rattle.model.specs.Fault.{Fault, instance_faults, faults, test_faults, compare_faults}
use Rattle.model.specs.Reply.{Numbers, Reply, is_emptied, refused}
use Rattle.model.specs.declared.Enumeration.TheVariants.{Listed, Refused}
use Rattle.model.specs.Enumeration.{connected_combinations, AllConnected, enumeration_faults, enumeration_numbers, EnumerationReply, enumerated}
use Rattle.model.specs.Calls.{Marks, Call, lent_marks, marks_in, Made, is_accepted, State, start, after_all, AllKeep, any_accepted, removed_by, starting, remaining, Singly, supports_after}

-- ---- What an accepted call says and leaves of the tuples L

-- The answer is Settled if every relation has a tuple in L, Emptied with the lowest relation that has none otherwise;
-- tuples left is the size of L.
pub record Tells (N : Network) (L : TupleSet) (a : Numbers) : Type 0 where
  pub settled : ((r : ℕ) → r < length N.relations → is_emptied N L r ≡ false) → (a.kind ≡ 0) × (a.subject ≡ max_relations)
  pub emptied : (r : ℕ) → r < length N.relations → is_emptied N L r ≡ true → ((s : ℕ) → s < r → is_emptied N L s ≡ false) → (a.kind ≡ 1) × (a.subject ≡ r)
  pub left : a.left ≡ count L

-- A tuple's bit is 1 exactly if it is in L; every other bit of every word is as lent.
pub record Marked (N : Network) (L : TupleSet) (lent after : List ℕ) : Type 0 where
  pub bits : (g : ℕ) → g < word_bits * length lent → is_live after g ≡ cond (ltb g (total N)) (has L g) (is_live lent g)
  pub words : length after ≡ length lent

-- The numbers of tuple g in combination c. Where g is not in L they are all 65,535. Otherwise they are the indices of a support
-- of g in L, and every other support of g in c comes later by indices, first member first.
pub record Numbered (N : Network) (L : TupleSet) (c : Combination) (g : ℕ) : Type 0 where
  pub dead : has L g ≡ false → first_support N L c g ≡ replicate (length c) no_support
  pub live : has L g ≡ true → (t : List ℕ) × Memᴰ t (candidates N c) × (is_support N L g t ≡ true) × (first_support N L c g ≡ map (index_of N) t) × ((u : List ℕ) → Memᴰ u (candidates N c) → is_support N L g u ≡ true → (u ≡ t) ⊎ (earlier (map (index_of N) t) (map (index_of N) u) ≡ true))

-- The support list holds the first supports in L over its needed length, and is as lent beyond it.
pub record Supports (I : Instance) (L : TupleSet) (lent after : List ℕ) : Type 0 where
  pub list : after ≡ support_list I.network (combinations_of I) L ++ drop (needed I.network (combinations_of I)) lent
  pub long : length (support_list I.network (combinations_of I) L) ≡ needed I.network (combinations_of I)
  pub numbered : (c : Combination) → Memᴰ c (combinations_of I) → (g : ℕ) → Memᴰ (relation_of I.network g) c → Numbered I.network L c g

-- The counts are those of L: for each relation the number of its tuples in L, and together the tuples left (card 6).
pub record Counted (N : Network) (L : TupleSet) (left : ℕ) (counts : List ℕ) : Type 0 where
  pub long : length counts ≡ length N.relations
  pub each : (r : ℕ) → r < length N.relations → get_or counts r 0 ≡ live_count N L r
  pub together : sum counts ≡ left

-- ---- Mission point 1

-- a table has no fault
abbrev pub NoFault : List Fault → Type 0
NoFault fs = (f : Fault) → Memᴰ f fs → f.1 ≡ false

-- n is its first fault in checking order
abbrev pub FirstFault : ℕ → List Fault → Type 0
FirstFault n fs = (before : List Fault) × (after : List Fault) × (fs ≡ before ++ ((n, true) ∷ after)) × NoFault before

-- A request gets the reply p. It is answered Settled or Emptied where it has no listed fault. Otherwise the first fault in
-- checking order is its refusal number, and every list is as lent.
pub record Answered (q : Request) (p : Reply) : Type 0 where
  pub accepted : NoFault (faults q) → (p.answer.kind ≡ 0) ⊎ (p.answer.kind ≡ 1)
  pub first : (n : ℕ) → FirstFault n (faults q) → p ≡ refused n q

-- ---- Mission point 2

-- the tuples that live at a request's entry
abbrev pub entry_tuples : Request → TupleSet
entry_tuples q = living (total q.given.network) q.words

-- those that it gives to the filter: all but what its change removes
abbrev pub given_tuples : Request → TupleSet
given_tuples q = without (removes q.given.network q.change) (entry_tuples q)

-- the tuples that live after it, where p is its reply
abbrev pub left_tuples : Request → Reply → TupleSet
left_tuples q p = living (total q.given.network) p.words

-- What choosing value v under variable x never removes (card 4): a tuple with any under x; and where v is any, nothing at all.
pub record Spares (q : Request) (p : Reply) (x v : ℕ) : Type 0 where
  pub under : (g a : ℕ) → is_any a ≡ true → Memᴰ (x, a) (cells_of q.given.network g) → has (given_tuples q) g ≡ has (entry_tuples q) g
  pub chosen : is_any v ≡ true → (given_tuples q ≡ entry_tuples q) × (p.answer.withdrawn ≡ 0)

-- the live words and counts lent
abbrev pub marks_of : Request → Marks
marks_of q = record { words = q.words; counts = q.counts }

-- Calls leave together what one call on the same lists leaves, with the reply p: each of them is accepted, and in the end the words,
-- the counts and the supports are those of p.
pub record LeaveAlike (s : Marks) (supports : List ℕ) (made : List Made) (p : Reply) : Type 0 where
  pub accepted : (c : Made) → Memᴰ c made → is_accepted c ≡ true
  pub marks : (after_all (start s) made).marks ≡ marks_in p
  pub numbers : supports_after supports made ≡ p.supports

-- Choosing several at once, variables xs with the values vs (card 7). Where there is a pair, it leaves what choosing the pairs one by one
-- leaves, in any order. Of two different values for one variable, neither of them any, no tuple is left but with any under it.
pub record AtOnce (q : Request) (p : Reply) (xs vs : List ℕ) : Type 0 where
  pub singly : empty (cells xs vs) ≡ false → (order : List Cell) → Permutation (cells xs vs) order → (made : List Made) → Singly q.given q.supports order made → AllKeep (start (marks_of q)) made → LeaveAlike (marks_of q) q.supports made p
  pub contrary : (x u v : ℕ) → Memᴰ (x, u) (cells xs vs) → Memᴰ (x, v) (cells xs vs) → (u ≡ v → ⊥) → is_any u ≡ false → is_any v ≡ false → (g a : ℕ) → Memᴰ (x, a) (cells_of q.given.network g) → has (left_tuples q p) g ≡ true → is_any a ≡ true

-- The tuples left are the largest consistent set inside those given, the only such set; a relation in no combination keeps
-- its tuples; no solution is lost, and Emptied means that none exists; the counts add up to the live tuples at entry; a
-- choice spares any; and several choices at once are as good as one by one.
pub record Filtered (q : Request) (p : Reply) : Type 0 where
  pub largest : Largest (supported q.given.network (combinations_of q.given)) (given_tuples q) (left_tuples q p)
  pub only : (T : TupleSet) → length T ≡ total q.given.network → Largest (supported q.given.network (combinations_of q.given)) (given_tuples q) T → T ≡ left_tuples q p
  pub alone : (g : ℕ) → ((c : Combination) → Memᴰ c (combinations_of q.given) → Memᴰ (relation_of q.given.network g) c → ⊥) → has (left_tuples q p) g ≡ has (given_tuples q) g
  pub solutions : (a : Assignment) → is_solution q.given.network (given_tuples q) a ≡ true → is_solution q.given.network (left_tuples q p) a ≡ true
  pub none : p.answer.kind ≡ 1 → (a : Assignment) → is_solution q.given.network (given_tuples q) a ≡ true → ⊥
  pub tells : Tells q.given.network (left_tuples q p) p.answer
  pub marked : Marked q.given.network (left_tuples q p) q.words p.words
  pub supports : Supports q.given (left_tuples q p) q.supports p.supports
  pub counted : Counted q.given.network (left_tuples q p) p.answer.left p.counts
  pub sum : p.answer.left + p.answer.withdrawn + p.answer.deleted ≡ count (entry_tuples q)
  pub choice : (x v : ℕ) → q.change ≡ choose x v → Spares q p x v
  pub several : (xs vs : List ℕ) → q.change ≡ choose_several xs vs → AtOnce q p xs vs

-- ---- Mission point 3

-- The strike rule, of a list with an accepted call and the state after it. The counts at the start were those of the starting tuples. The
-- tuples that remain are the largest consistent set of the starting tuples without all that accepted calls removed. They are marked in the
-- words and counted in the counts; the last accepted call's supports, counts, answer and tuples left are theirs; and the number of starting
-- tuples is those left and all withdrawn and deleted.
pub record StrikeRule (I : Instance) (s : Marks) (made : List Made) (after : State) : Type 0 where
  pub true-counts : s.counts ≡ live_counts I.network (starting I s.words)
  pub largest : Largest (supported I.network (combinations_of I)) (without (removed_by I made) (starting I s.words)) (remaining I s.words made)
  pub marked : Marked I.network (remaining I s.words made) s.words after.marks.words
  pub call : Call
  pub reply : Reply
  pub last : after.last ≡ some (call, reply)
  pub supports : Supports I (remaining I s.words made) call.supports reply.supports
  pub tells : Tells I.network (remaining I s.words made) reply.answer
  pub counted : Counted I.network (remaining I s.words made) reply.answer.left after.marks.counts
  pub counts : reply.counts ≡ after.marks.counts
  pub sum : reply.answer.left + after.gone ≡ count (starting I s.words)

-- Relation r is apart from the calls: no chain of combinations joins it to a relation that holds a starting tuple which an
-- accepted call removed, itself included.
abbrev pub Apart : Instance → List ℕ → List Made → ℕ → Type 0
Apart I ws made r =
    (g : ℕ) → has (starting I ws) g ≡ true → removed_by I made g ≡ true → Chain (combinations_of I) r (relation_of I.network g) → ⊥

-- From a consistent start, a relation apart from the calls keeps exactly its tuples, and its count.
abbrev pub Local : Instance → Marks → List Made → State → Type 0
Local I s made after =
    Consistent (supported I.network (combinations_of I)) (starting I s.words)
    → (r : ℕ)
    → Apart I s.words made r
    → ((g : ℕ) → Memᴰ g (ids_of I.network r) → is_live after.marks.words g ≡ is_live s.words g)
    × (get_or after.marks.counts r 0 ≡ get_or s.counts r 0)

-- A list of calls wrote nothing: the shared marks are as at the start, and every call left the lists lent to it.
pub record NothingWritten (s : Marks) (made : List Made) : Type 0 where
  pub state : after_all (start s) made ≡ start s
  pub lists : (c : Made) → Memᴰ c made → (marks_in c.1 ≡ lent_marks c.0.own s) × (c.1.supports ≡ c.0.supports)

-- The single claim about a list of calls made on one instance and its marks.
pub record Claim (I : Instance) (s : Marks) (made : List Made) : Type 0 where
  pub rule : any_accepted made ≡ true → StrikeRule I s made (after_all (start s) made)
  pub nothing : any_accepted made ≡ false → NothingWritten s made
  pub local : Local I s made (after_all (start s) made)

-- ---- Test and compare, which are lent nothing that they could write

-- The numbers n of an answer: yes, if there is no fault and the claim holds; no, if there is none and it does not; and refused for
-- the first fault. Yes is said of no other request.
pub record Decides (fs : List Fault) (claim : Type 0) (n : ℕ × ℕ) : Type 0 where
  pub yes : NoFault fs → claim → n ≡ (1, 0)
  pub no : NoFault fs → (claim → ⊥) → n ≡ (0, 0)
  pub refused : (f : ℕ) → FirstFault f fs → n ≡ (2, f)
  pub only : n.0 ≡ 1 → NoFault fs × claim

-- test: the live tuples are consistent
abbrev pub TestAnswered : Instance → List ℕ → ℕ × ℕ → Type 0
TestAnswered I ws n = Decides (test_faults I ws) (Consistent (supported I.network (combinations_of I)) (starting I ws)) n

-- both scopes have variable x, and the values of tuples g and h under it do not fit
abbrev pub ClashUnder : Network → ℕ → ℕ → ℕ → Type 0
ClashUnder N g h x = (a : ℕ) × (b : ℕ) × Memᴰ (x, a) (cells_of N g) × Memᴰ (x, b) (cells_of N h) × (fit a b ≡ false)

-- .. and it is the lowest such variable
abbrev pub FirstClash : Network → ℕ → ℕ → ℕ → Type 0
FirstClash N g h x = ClashUnder N g h x × ((y : ℕ) → y < x → ClashUnder N g h y → ⊥)

-- the values under every variable that both scopes have fit
abbrev pub NoClash : Network → ℕ → ℕ → Type 0
NoClash N g h = (x : ℕ) → ClashUnder N g h x → ⊥

-- compare, whose answer has the numbers n: it names x exactly if there is no fault and x is the first clash; it says agree exactly if
-- there is no fault and no clash; and it is refused for the first fault. The second number is at most 64.
pub record CompareAnswered (N : Network) (g h : ℕ) (n : ℕ × ℕ) : Type 0 where
  pub names : NoFault (compare_faults N g h) → (x : ℕ) → FirstClash N g h x → n ≡ (0, x)
  pub agrees : NoFault (compare_faults N g h) → NoClash N g h → n ≡ (1, no_variable)
  pub refused : (f : ℕ) → FirstFault f (compare_faults N g h) → n ≡ (2, f)
  pub names-only : n.0 ≡ 0 → NoFault (compare_faults N g h) × FirstClash N g h n.1
  pub agrees-only : n.0 ≡ 1 → NoFault (compare_faults N g h) × NoClash N g h
  pub low : n.1 ≤ no_variable

-- ---- The listing of connected combinations (card 1)

-- The reply p to a call that was lent the list. Where there is no fault, it tells how many there are and the list begins with them, each
-- with m members; a network with what stands there has no fault 2 to 10. Otherwise it is refused for the first fault. What stands behind
-- them, and after a refusal all of the list, is as lent.
pub record EnumerationAnswered (N : Network) (m : ℕ) (list : List ℕ) (p : EnumerationReply) : Type 0 where
  pub all : AllConnected N m (connected_combinations N m)
  pub listed : NoFault (enumeration_faults N m (length list)) → (p.answer ≡ enumeration_numbers (Listed (length (connected_combinations N m)))) × (combinations m (take (p.answer.left * m) p.members) ≡ connected_combinations N m)
  pub refused : (f : ℕ) → FirstFault f (enumeration_faults N m (length list)) → p ≡ enumerated (Refused f) list
  pub only : p.answer.kind ≡ 0 → NoFault (enumeration_faults N m (length list))
  pub behind : drop (p.answer.left * m) p.members ≡ drop (p.answer.left * m) list
  pub long : length p.members ≡ length list
  pub taken : p.answer.kind ≡ 0 → NoFault (instance_faults (record { network = N; m = m; members = take (p.answer.left * m) p.members }))
