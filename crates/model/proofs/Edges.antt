-- The edges for buffers of fixed size: lists longer than their bounds are refused alike, and only the needed words and support
-- numbers are written. From the order of the faults, and the laws of live words and of support lists.
use mathlib.Core.Path.{◌≡◌, refl, sym, ◌∙◌, ap}
use mathlib.Core.Bool.{Bool, true, false, not, cond}
use mathlib.Core.Option.{Option, none, some}
use mathlib.Core.Logic.{◌⊎◌, inl, inr}
use mathlib.Core.List.{List, [], ◌∷◌, ◌++◌, map, append-nil, Memᴰ}
use Prim.Native.Nat.{ℕ, zero, suc, ◌+◌, ◌*◌, ◌/◌, ◌%◌, ◌^◌, ◌≤◌, ◌<◌}
use native.Mathlib.Nat.{div-add-mod', mul-le-mul}
use native.Mathlib.Omega.{arith}
use native.Mathlib.Decide.{dec_lt}
use lib.Dec.{leb, ltb, eqb}
use lib.ListN.{length, get_or, take, drop, replicate, length-map, length-replicate, length-append, length-drop, drop_of_length-le, get_or-replicate, get_or-eq_default}
use lib.Seq.{take_all, length-take-le, get_or-drop}
use borrow.Author.Tests.{ltb-false, leb-true, eqb-true, not-false}
use Rattle.model.specs.declared.Relation.{Relation}
use Rattle.model.specs.declared.Counts.{Counts}
use Rattle.model.specs.Limits.{max_relations, max_tuples, min_members, max_members, max_combinations, no_support, word_bits}
use Rattle.model.specs.Lists.{from, sum, all, select, first_or, each, is_none}
use Rattle.model.specs.TupleSet.{TupleSet}
use Rattle.model.specs.Network.{Network, total, variables_in, tuples_in, values_in, ids_of, index_of, scope_of}
use Rattle.model.specs.Agreement.{first_clash}
use Rattle.model.specs.Combination.{Combination, connected}
use Rattle.model.specs.Support.{candidates, is_support, supports, first_support}
use Rattle.model.specs.LiveCounts.{live_counts}
use Rattle.model.specs.Consistency.{is_consistent, support_list, needed}
use Rattle.model.specs.LiveWords.{living, written}
use Rattle.model.specs.Request.{Change, Instance, combinations_of, Request}
use Rattle.model.specs.Fault.{Fault, first_fault, within, proper_width, proper_scope, proper_lengths, proper_list, proper_members, network_faults, combination_faults, instance_faults, words_fault, supports_fault, change_faults, ids_fault, untrue, list_faults, faults_on, faults, test_faults, compare_faults, accepts}
use Rattle.model.specs.Reply.{answer_numbers, verdict_numbers, verdict_for, comparison_numbers, comparison_for, answer_for, remainder, leaving, accepted, refused, reply_to, reply, test_reply, compare_reply, request}
use Rattle.model.specs.declared.Enumeration.TheVariants.{Refused}
use Rattle.model.specs.Enumeration.{connected_combinations, enumeration_faults, enumerated, enumeration_for, enumeration_reply}
use Rattle.model.specs.Edges.{max_variables, max_values, max_member_list, cut_network, cut_instance, restored}
use Rattle.model.proofs.Bools.{and_left, and_right, false-intro}
use Rattle.model.proofs.Lists.{here, select-mem}
use Rattle.model.proofs.Network.{size-total}
use Rattle.model.proofs.Support.{candidates-index, candidates-length}
use Rattle.model.proofs.Fault.{fault-here, fault-next, no-fault-at, first_fault-append-none, first_fault-append-some, few-variables, few-values, faultless, accepts-network, accepts-supports}
use Rattle.model.proofs.LiveWords.{written-take, written-length, written_below}
use Rattle.model.proofs.Consistency.{support_list-length}

-- ---- What the calls answer alike

-- the same, or with the same first fault
pub data Alike {A : Type 0} (tests : A → List Fault) (x y : A) : Type 0 where
  same : x ≡ y → Alike tests x y
  faulty : (f : ℕ) → first_fault (tests x) ≡ some f → first_fault (tests y) ≡ some f → Alike tests x y

module _ (I : Instance) (f : ℕ) (e : first_fault (instance_faults I) ≡ some f) where
  reply-faulty : (ws ss cs : List ℕ) (change : Change) → reply (request I ws ss cs change) ≡ refused f (request I ws ss cs change)
  unfolding reply faults faults_on list_faults
  reply-faulty ws ss cs change =
      ap (λ (o : Option ℕ). reply_to o (request I ws ss cs change))
      (first_fault-append-some (instance_faults I)
      (words_fault I.network (length ws) ∷ supports_fault I (length ss) ∷ (18, untrue I.network ws cs) ∷ change_faults I.network change) f e)

  test_reply-faulty : (ws : List ℕ) → test_reply I ws ≡ (2, f)
  unfolding test_reply test_faults
  test_reply-faulty ws =
      ap (λ (o : Option ℕ). verdict_numbers (verdict_for o (is_consistent I.network (combinations_of I) (living (total I.network) ws))))
      (first_fault-append-some (instance_faults I) (words_fault I.network (length ws) ∷ []) f e)

compare_reply-faulty : (N : Network) (f : ℕ) → first_fault (network_faults N) ≡ some f → (g h : ℕ) → compare_reply N g h ≡ (2, f)
unfolding compare_reply compare_faults
compare_reply-faulty N f e g h =
    ap (λ (o : Option ℕ). comparison_numbers (comparison_for o (first_clash N g h)))
    (first_fault-append-some (network_faults N) (ids_fault N (g ∷ h ∷ []) ∷ []) f e)

module _ {I J : Instance} where
  pub reply-alike : Alike instance_faults I J → (ws ss cs : List ℕ) (change : Change) → reply (request I ws ss cs change) ≡ reply (request J ws ss cs change)
  reply-alike (same e) ws ss cs change = ap (λ (K : Instance). reply (request K ws ss cs change)) e
  reply-alike (faulty f e d) ws ss cs change = reply-faulty I f e ws ss cs change ∙ sym (reply-faulty J f d ws ss cs change)

  pub test_reply-alike : Alike instance_faults I J → (ws : List ℕ) → test_reply I ws ≡ test_reply J ws
  test_reply-alike (same e) ws = ap (λ (K : Instance). test_reply K ws) e
  test_reply-alike (faulty f e d) ws = test_reply-faulty I f e ws ∙ sym (test_reply-faulty J f d ws)

pub compare_reply-alike : {N M : Network} → Alike network_faults N M → (g h : ℕ) → compare_reply N g h ≡ compare_reply M g h
compare_reply-alike (same e) g h = ap (λ (K : Network). compare_reply K g h) e
compare_reply-alike {N} {M} (faulty f e d) g h = compare_reply-faulty N f e g h ∙ sym (compare_reply-faulty M f d g h)

enumeration_reply-faulty : (N : Network) (f : ℕ) → first_fault (network_faults N) ≡ some f → (m : ℕ) (list : List ℕ) → enumeration_reply N m list ≡ enumerated (Refused f) list
unfolding enumeration_reply enumeration_faults
enumeration_reply-faulty N f e m list =
    let cs = connected_combinations N m in
    ap (λ (o : Option ℕ). enumeration_for o cs m list)
    (first_fault-append-some (network_faults N) ((7, not (within min_members max_members m)) ∷ (15, ltb max_combinations (length cs)) ∷ (16, ltb (length list) (length cs * m)) ∷ []) f e)

pub enumeration_reply-alike : {N M : Network} → Alike network_faults N M → (m : ℕ) (list : List ℕ) → enumeration_reply N m list ≡ enumeration_reply M m list
enumeration_reply-alike (same e) m list = ap (λ (K : Network). enumeration_reply K m list) e
enumeration_reply-alike {N} {M} (faulty f e d) m list = enumeration_reply-faulty N f e m list ∙ sym (enumeration_reply-faulty M f d m list)

abbrev instance : Network → ℕ → List ℕ → Instance
instance N m members = record { network = N; m = m; members = members }

pub instance-alike : {N M : Network} → Alike network_faults N M → (m : ℕ) (members : List ℕ) → Alike instance_faults (instance N m members) (instance M m members)
instance-alike (same e) m members = same (ap (λ (K : Network). instance K m members) e)
instance-alike {N} {M} (faulty f e d) m members =
    faulty f
    (first_fault-append-some (network_faults N) (combination_faults (instance N m members)) f e)
    (first_fault-append-some (network_faults M) (combination_faults (instance M m members)) f d)

-- ---- More relations than there may be

-- the tests that read the records alone, and those that read the lists
record_faults : List Relation → List Fault
record_faults Rs =
    (2, not (within 1 max_relations (length Rs))) ∷ (3, not (all proper_width Rs)) ∷ (4, ltb max_tuples (sum (map tuples_in Rs))) ∷ []

scope_fault : Network → Fault
scope_fault N = (6, not (all (λ (r : ℕ). proper_scope (scope_of N r)) (from 0 (length N.relations))))

network_faults-parts : (N : Network) → network_faults N ≡ record_faults N.relations ++ ((5, not (proper_lengths N)) ∷ scope_fault N ∷ [])
unfolding record_faults scope_fault
network_faults-parts N = refl

many-relations : (N : Network) → max_relations < length N.relations → first_fault (network_faults N) ≡ some 2
unfolding record_faults
many-relations N h =
    let n = length N.relations in
    ap first_fault (network_faults-parts N)
    ∙ first_fault-append-some (record_faults N.relations) ((5, not (proper_lengths N)) ∷ scope_fault N ∷ []) 2
    (ap (λ (b : Bool). cond (not b) (some 2) (first_fault ((3, not (all proper_width N.relations)) ∷ (4, ltb max_tuples (total N)) ∷ [])))
    (false-intro (within 1 max_relations n) (λ e. omega (arith, leb-true n max_relations (and_right (leb 1 n) (leb n max_relations) e)))))

pub many-alike : (N M : Network) → max_relations < length N.relations → max_relations < length M.relations → Alike network_faults N M
many-alike N M h k = faulty 2 (many-relations N h) (many-relations M k)

-- ---- More variables or values than the records can call for

Over : Network → Type 0
Over N = (max_variables < length N.variables) ⊎ (max_values < length N.values)

module _ (N : Network) (e : first_fault (record_faults N.relations) ≡ none) where
  widths : all proper_width N.relations ≡ true
  unfolding record_faults
  widths = not-false _ (no-fault-at (record_faults N.relations) e (Memᴰ.tail here))

  count : length N.relations ≤ max_relations
  unfolding record_faults
  count =
      let n = length N.relations in
      leb-true n max_relations (and_right (leb 1 n) (leb n max_relations) (not-false (within 1 max_relations n) (no-fault-at (record_faults N.relations) e here)))

  tuples : total N ≤ max_tuples
  unfolding record_faults
  tuples = ltb-false max_tuples (total N) (no-fault-at (record_faults N.relations) e (Memᴰ.tail (Memᴰ.tail here)))

  over-lengths : Over N → proper_lengths N ≡ true → ⊥
  unfolding Over
  over-lengths (inl h) p =
      let e = eqb-true (length N.variables) (sum (map variables_in N.relations)) (and_left _ (eqb (length N.values) (sum (map values_in N.relations))) p) in
      omega (arith, few-variables N.relations widths, count)
  over-lengths (inr h) p =
      let e = eqb-true (length N.values) (sum (map values_in N.relations)) (and_right (eqb (length N.variables) (sum (map variables_in N.relations))) _ p) in
      omega (arith, few-values N.relations widths, tuples)

  over-fault : Over N → first_fault (network_faults N) ≡ some 5
  over-fault h =
      ap first_fault (network_faults-parts N)
      ∙ first_fault-append-none (record_faults N.relations) ((5, not (proper_lengths N)) ∷ scope_fault N ∷ []) e
      ∙ ap (λ (b : Bool). cond (not b) (some 5) (first_fault (scope_fault N ∷ []))) (false-intro (proper_lengths N) (over-lengths h))

over-alike : (N M : Network) → N.relations ≡ M.relations → Over N → Over M → (o : Option ℕ) → first_fault (record_faults N.relations) ≡ o → Alike network_faults N M
over-alike N M r h k none e = faulty 5 (over-fault N e h) (over-fault M (ap (λ (Rs : List Relation). first_fault (record_faults Rs)) (sym r) ∙ e) k)
over-alike N M r h k (some f) e =
    let on : (K : Network) → first_fault (record_faults K.relations) ≡ some f → first_fault (network_faults K) ≡ some f =
    λ K d. ap first_fault (network_faults-parts K) ∙ first_fault-append-some (record_faults K.relations) ((5, not (proper_lengths K)) ∷ scope_fault K ∷ []) f d
    in
    faulty f (on N e) (on M (ap (λ (Rs : List Relation). first_fault (record_faults Rs)) (sym r) ∙ e))

take-over : {A : Type 0} (n : ℕ) (xs : List A) → n < length xs → n < length (take (suc n) xs)
take-over n xs h = let e = length-take-le (suc n) xs h in omega arith

cut_network-cases : (N : Network) → Dec (max_variables < length N.variables) → Dec (max_values < length N.values) → Alike network_faults N (cut_network N)
unfolding Over
cut_network-cases N (yes h) d = over-alike N (cut_network N) refl (inl h) (inl (take-over max_variables N.variables h)) (first_fault (record_faults N.relations)) refl
cut_network-cases N (no h) (yes k) = over-alike N (cut_network N) refl (inr k) (inr (take-over max_values N.values k)) (first_fault (record_faults N.relations)) refl
cut_network-cases N (no h) (no k) =
    same
    (ap (λ (vs : List ℕ). record { relations = N.relations; variables = vs; values = N.values }) (sym (take_all (suc max_variables) N.variables (omega arith)))
    ∙ ap (λ (vs : List ℕ). record { relations = N.relations; variables = take (suc max_variables) N.variables; values = vs }) (sym (take_all (suc max_values) N.values (omega arith))))

pub cut_network-alike : (N : Network) → Alike network_faults N (cut_network N)
cut_network-alike N = cut_network-cases N (dec_lt max_variables (length N.variables)) (dec_lt max_values (length N.values))

-- ---- More members than the combinations can have

members_faults : Instance → List Fault
members_faults I =
    (9, not (all (proper_members I.network) (combinations_of I))) ∷ (10, not (all (connected I.network) (combinations_of I))) ∷ []

over-list : (m : ℕ) (members : List ℕ) → within min_members max_members m ≡ true → max_member_list < length members → proper_list m members ≡ true → ⊥
over-list m members h k p =
    let n = length members in
    let few = leb-true m max_members (and_right (leb min_members m) (leb m max_members) h) in
    let rest = eqb-true (n % m) 0 (and_left (eqb (n % m) 0) (leb (n / m) max_combinations) p) in
    let count = leb-true (n / m) max_combinations (and_right (eqb (n % m) 0) (leb (n / m) max_combinations) p) in
    let most = mul-le-mul count few in
    omega (arith, div-add-mod' n m)

module _ (I : Instance) (h : max_member_list < length I.members) where
  over-members : (b : Bool) → within min_members max_members I.m ≡ b → first_fault (combination_faults I) ≡ cond b (some 8) (some 7)
  unfolding members_faults
  over-members true e =
      fault-next (7, not (within min_members max_members I.m)) ((8, not (proper_list I.m I.members)) ∷ members_faults I) (ap not e)
      ∙ fault-here (8, not (proper_list I.m I.members)) (members_faults I)
      (ap not (false-intro (proper_list I.m I.members) (over-list I.m I.members e h)))
  over-members false e =
      fault-here (7, not (within min_members max_members I.m)) ((8, not (proper_list I.m I.members)) ∷ members_faults I) (ap not e)

members-cases : (N : Network) (m : ℕ) (xs ys : List ℕ) → max_member_list < length xs → max_member_list < length ys → (o : Option ℕ) → first_fault (network_faults N) ≡ o → (b : Bool) → within min_members max_members m ≡ b → Alike instance_faults (instance N m xs) (instance N m ys)
members-cases N m xs ys h k (some f) e b w =
    faulty f
    (first_fault-append-some (network_faults N) (combination_faults (instance N m xs)) f e)
    (first_fault-append-some (network_faults N) (combination_faults (instance N m ys)) f e)
members-cases N m xs ys h k none e true w =
    faulty 8
    (first_fault-append-none (network_faults N) (combination_faults (instance N m xs)) e ∙ over-members (instance N m xs) h true w)
    (first_fault-append-none (network_faults N) (combination_faults (instance N m ys)) e ∙ over-members (instance N m ys) k true w)
members-cases N m xs ys h k none e false w =
    faulty 7
    (first_fault-append-none (network_faults N) (combination_faults (instance N m xs)) e ∙ over-members (instance N m xs) h false w)
    (first_fault-append-none (network_faults N) (combination_faults (instance N m ys)) e ∙ over-members (instance N m ys) k false w)

members_alike : (N : Network) (m : ℕ) (xs : List ℕ) → Dec (max_member_list < length xs) → Alike instance_faults (instance N m xs) (instance N m (take (suc max_member_list) xs))
members_alike N m xs (yes h) =
    members-cases N m xs (take (suc max_member_list) xs) h (take-over max_member_list xs h) (first_fault (network_faults N)) refl (within min_members max_members m) refl
members_alike N m xs (no h) = same (ap (instance N m) (sym (take_all (suc max_member_list) xs (omega arith))))

-- ---- The lists cut

module _ (I : Instance) where
  abbrev N : Network
  N = I.network

  cut-first : Alike instance_faults I (instance (cut_network N) I.m I.members)
  cut-first = instance-alike (cut_network-alike N) I.m I.members

  cut-then : Alike instance_faults (instance (cut_network N) I.m I.members) (cut_instance I)
  cut-then = members_alike (cut_network N) I.m I.members (dec_lt max_member_list (length I.members))

  pub reply-cut : (ws ss cs : List ℕ) (change : Change) → reply (request I ws ss cs change) ≡ reply (request (cut_instance I) ws ss cs change)
  reply-cut ws ss cs change = reply-alike cut-first ws ss cs change ∙ reply-alike cut-then ws ss cs change

  pub test_reply-cut : (ws : List ℕ) → test_reply I ws ≡ test_reply (cut_instance I) ws
  test_reply-cut ws = test_reply-alike cut-first ws ∙ test_reply-alike cut-then ws

pub enumeration_reply-cut : (N : Network) (m : ℕ) (list : List ℕ) → enumeration_reply N m list ≡ enumeration_reply (cut_network N) m list
enumeration_reply-cut N = enumeration_reply-alike (cut_network-alike N)

pub compare_reply-cut : (N : Network) (g h : ℕ) → compare_reply N g h ≡ compare_reply (cut_network N) g h
compare_reply-cut N g h = compare_reply-alike (cut_network-alike N) g h

-- ---- The needed words and support numbers

-- what a call leaves is what it leaves in the needed words, and in a list of as many numbers as are needed, whatever they are
pub leaving-needed : (I : Instance) (L : TupleSet) (k : Counts) (words : ℕ) (ws ss zs : List ℕ) → ((i : ℕ) → i < length ws → get_or ws i 0 < 2 ^ 64) → total I.network ≤ word_bits * words → length zs ≡ needed I.network (combinations_of I) → leaving I L k ws ss ≡ restored (drop words ws) (drop (needed I.network (combinations_of I)) ss) (leaving I L k (take words ws) zs)
unfolding leaving
leaving-needed I L k words ws ss zs small enough long =
    let n = needed I.network (combinations_of I) in
    let xs = support_list I.network (combinations_of I) L in
    let none : drop n zs ≡ [] = drop_of_length-le zs {i = n} (omega arith) in
    let numbers : xs ++ drop n ss ≡ xs ++ drop n zs ++ drop n ss = sym (ap (λ (ys : List ℕ). ys ++ drop n ss) (ap (λ (ys : List ℕ). xs ++ ys) none ∙ append-nil xs)) in
    λ i. record {
      answer = answer_numbers (answer_for I.network L k);
      words = written-take (total I.network) words L ws small enough i;
      supports = numbers i;
      counts = live_counts I.network L;
    }

-- ---- Lengths never change

module _ (q : Request) where
  lent : first_fault (faults q) ≡ none → needed q.given.network (combinations_of q.given) ≤ length q.supports
  unfolding accepts
  lent e = (accepts-supports q (ap is_none e)).1

  reply_to-lengths : (o : Option ℕ) → first_fault (faults q) ≡ o → (length (reply_to o q).words ≡ length q.words) × (length (reply_to o q).supports ≡ length q.supports)
  unfolding accepted leaving
  reply_to-lengths (some f) e = (refl, refl)
  reply_to-lengths none e =
      let I = q.given in
      let S = living (total I.network) q.words in
      let L = remainder I q.change S in
      let k = needed I.network (combinations_of I) in
      let xs = support_list I.network (combinations_of I) L in
      let whole : length (xs ++ drop k q.supports) ≡ length q.supports =
      omega (arith, length-append xs (drop k q.supports), support_list-length I.network (combinations_of I) L, length-drop k q.supports, lent e)
      in
      (written-length (total I.network) L q.words, whole)

  pub reply-lengths : (length (reply q).words ≡ length q.words) × (length (reply q).supports ≡ length q.supports)
  unfolding reply
  reply-lengths = reply_to-lengths (first_fault (faults q)) refl

-- ---- What a reply holds fits its width

module _ (b : ℕ) (Some-number : 0 < b) where
  pub below-append : (xs ys : List ℕ) → ((i : ℕ) → get_or xs i 0 < b) → ((i : ℕ) → get_or ys i 0 < b) → (i : ℕ) → get_or (xs ++ ys) i 0 < b
  below-append [] ys f g i = g i
  below-append (x ∷ xs) ys f g zero = f 0
  below-append (x ∷ xs) ys f g (suc i) = below-append xs ys (λ j. f (suc j)) g i

  below_each : {A : Type 0} (f : A → List ℕ) (xs : List A) → ((x : A) (i : ℕ) → get_or (f x) i 0 < b) → (i : ℕ) → get_or (each f xs) i 0 < b
  below_each f [] h i = Some-number
  below_each f (x ∷ xs) h i = below-append (f x) (each f xs) (h x) (below_each f xs h) i

  pub below-past : (xs : List ℕ) (i : ℕ) → ((j : ℕ) → j < length xs → get_or xs j 0 < b) → Dec (i < length xs) → get_or xs i 0 < b
  below-past xs i f (yes h) = f i h
  below-past xs i f (no d) = let e : get_or xs i 0 ≡ 0 = get_or-eq_default xs 0 (omega arith) in omega (arith, e)

module _ (N : Network) (few : total N ≤ max_tuples) (S : TupleSet) where
  first_below : (c : Combination) (ts : List (List ℕ)) → ((t : List ℕ) → Memᴰ t ts → Memᴰ t (candidates N c)) → (i : ℕ) → get_or (first_or (replicate (length c) no_support) (map (map (index_of N)) ts)) i 0 < 65536
  first_below c [] f i =
      below-past 65536 (omega arith) (replicate (length c) no_support) i
      (λ j h. rw (get_or-replicate (length c) j no_support 0 (omega (arith, length-replicate (length c) no_support))) (omega arith))
      (dec_lt i (length (replicate (length c) no_support)))
  first_below c (t ∷ ts) f i =
      below-past 65536 (omega arith) (map (index_of N) t) i
      (λ j h.
      let k = candidates-index N c (f t here) j (omega (arith, length-map t (index_of N), candidates-length N c (f t here))) in
      omega (arith, k, size-total N (get_or c j 0)))
      (dec_lt i (length (map (index_of N) t)))

  support_list-below : (cs : List Combination) (i : ℕ) → get_or (support_list N cs S) i 0 < 65536
  unfolding support_list first_support supports
  support_list-below cs i =
      let wide : 0 < 65536 = omega arith in
      below_each 65536 wide (λ (c : Combination). each (λ (r : ℕ). each (first_support N S c) (ids_of N r)) c) cs
      (λ c. below_each 65536 wide (λ (r : ℕ). each (first_support N S c) (ids_of N r)) c
      (λ r. below_each 65536 wide (first_support N S c) (ids_of N r)
      (λ g. first_below c (select (is_support N S g) (candidates N c)) (λ t m. (select-mem (is_support N S g) (candidates N c) m).0)))) i

module _ (q : Request) where
  words-below : ((i : ℕ) → get_or q.words i 0 < 2 ^ 64) → (o : Option ℕ) → (i : ℕ) → get_or (reply_to o q).words i 0 < 2 ^ 64
  unfolding accepted leaving
  words-below small (some f) i = small i
  words-below small none i =
      let I = q.given in
      let L = remainder I q.change (living (total I.network) q.words) in
      let ws = written (total I.network) L q.words in
      below-past (2 ^ 64) (omega arith) ws i
      (λ j h. written_below (total I.network) L q.words j (omega (arith, written-length (total I.network) L q.words)))
      (dec_lt i (length ws))

  pub reply-words-below : ((i : ℕ) → get_or q.words i 0 < 2 ^ 64) → (i : ℕ) → get_or (reply q).words i 0 < 2 ^ 64
  unfolding reply
  reply-words-below small = words-below small (first_fault (faults q))

  numbers-below : ((i : ℕ) → get_or q.supports i 0 < 65536) → (o : Option ℕ) → first_fault (faults q) ≡ o → (i : ℕ) → get_or (reply_to o q).supports i 0 < 65536
  unfolding accepted leaving accepts
  numbers-below small (some f) e i = small i
  numbers-below small none e i =
      let I = q.given in
      let L = remainder I q.change (living (total I.network) q.words) in
      let n = needed I.network (combinations_of I) in
      below-append 65536 (omega arith) (support_list I.network (combinations_of I) L) (drop n q.supports)
      (support_list-below I.network (faultless I.network (accepts-network q (ap is_none e))).tuples L (combinations_of I))
      (λ j. rw get_or-drop (small (n + j))) i

  pub reply-supports-below : ((i : ℕ) → get_or q.supports i 0 < 65536) → (i : ℕ) → get_or (reply q).supports i 0 < 65536
  unfolding reply
  reply-supports-below small = numbers-below small (first_fault (faults q)) refl
