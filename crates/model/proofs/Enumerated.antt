-- Laws of the listing of connected combinations: it holds each of them and nothing else, in order; and a filter takes what it lists.
-- From the definitions, for any number of members.
use mathlib.Core.Path.{◌≡◌, refl, sym, ◌∙◌, ap, subst}
use mathlib.Core.Bool.{Bool, true, false, not}
use mathlib.Core.Option.{Option, none, some, some-injective, some-ne-none}
use mathlib.Core.List.Memᴰ
use mathlib.Core.List.{List, [], ◌∷◌, ◌++◌, map, Memᴰ}
use mathlib.Core.Logic.{⊎_elim}
use Prim.Native.Nat.{ℕ, zero, suc, ◌+◌, ◌*◌, ◌/◌, ◌%◌, ◌≤◌, ◌<◌}
use native.Mathlib.Decide.{dec_lt}
use native.Mathlib.Nat.{zero-mul, suc-mul, mul-div_cancel, mul-mod_left}
use native.Mathlib.Omega.{arith}
use lib.Dec.{ltb, leb}
use lib.ListN.{length, get_or, take, drop, length-append, length-drop}
use lib.Seq.{take_at, drop_at, get_or-drop}
use borrow.Author.Tests.{ltb-true, ltb-false, lt-ltb, leb-true, le-leb, eq-eqb, not-false}
use Rattle.model.specs.Limits.{min_members, max_members, max_combinations}
use Rattle.model.specs.Lists.{from, all, pairwise, select, keep_if, earlier}
use Rattle.model.specs.Network.{Network}
use Rattle.model.specs.Combination.{Combination, combinations, connected}
use Rattle.model.specs.Request.{Instance}
use Rattle.model.specs.Fault.{Fault, first_fault, within, proper_list, proper_members, network_faults, combination_faults, instance_faults}
use Rattle.model.specs.Enumeration.{chosen, rising, connected_combinations, IsConnected, HoldsConnected, AllConnected, end_to_end, enumeration_faults, enumerated, enumeration_for, enumeration_reply}
use Rattle.model.specs.declared.Enumeration.TheVariants.{Refused}
use Rattle.model.specs.Promises.{EnumerationAnswered}
use Rattle.model.proofs.Bools.{and_left, and_right, and_intro}
use Rattle.model.proofs.Lists.{here, all-at, all-intro, all_append, all_get_d, pairwise_append, select-mem, mem-select, from-rises, earlier-less, prefix-earlier, pieces, pieces-cons}
use Rattle.model.proofs.Fault.{no-fault-at, fault-next, first_fault-front, first_fault-back, first_fault-append-none, first_fault-number, none-first_fault, faultless}
use Rattle.model.proofs.Combination.{combinations-pieces}
use Rattle.model.proofs.Edges.{below-append, below-past}
use Rattle.model.proofs.Mission.{first-fault}

-- ---- Choices of m elements

-- A choice of m of the numbers from i up to below end: it rises.
pub record Chosen (m i end : ℕ) (t : List ℕ) : Type 0 where
  pub long : length t ≡ m
  pub low : (r : ℕ) → Memᴰ r t → i ≤ r
  pub high : (r : ℕ) → Memᴰ r t → r < end
  pub rises : pairwise ltb t ≡ true

chosen_none : (i end : ℕ) → Chosen 0 i end []
chosen_none i end =
    record { long = refl; low = λ r k. absurd (Memᴰ.not-nil k); high = λ r k. absurd (Memᴰ.not-nil k); rises = refl }

-- a first number before a choice of later ones
chosen-first : (m i end : ℕ) (t : List ℕ) → i < end → Chosen m (suc i) end t → Chosen (suc m) i end (i ∷ t)
chosen-first m i end t h c =
    record {
      long = ap suc c.long;
      low = λ r k. ⊎_elim (λ q. omega arith) (λ l. let b = c.low r l in omega arith) (Memᴰ.cases_cons k);
      high = λ r k. ⊎_elim (λ q. omega arith) (λ l. c.high r l) (Memᴰ.cases_cons k);
      rises = and_intro (all-intro (ltb i) t (λ r k. lt-ltb i r (c.low r k))) c.rises;
    }

chosen-later : (m i end : ℕ) (t : List ℕ) → Chosen m (suc i) end t → Chosen m i end t
chosen-later m i end t c =
    record { long = c.long; low = λ r k. let b = c.low r k in omega arith; high = c.high; rises = c.rises }

pub chosen_is : (m i n end : ℕ) (t : List ℕ) → end ≡ i + n → Memᴰ t (chosen m (from i n)) → Chosen m i end t
chosen_is zero i n end t e k = subst (Chosen 0 i end) (sym (Memᴰ.eq_of_singleton k)) (chosen_none i end)
chosen_is (suc m) i zero end t e k = absurd (Memᴰ.not-nil k)
chosen_is (suc m) i (suc n) end t e k =
    ⊎_elim
    (λ h.
    let a = Memᴰ.of_map (λ (t : List ℕ). i ∷ t) (chosen m (from (suc i) n)) h in
    subst (Chosen (suc m) i end) a.2 (chosen-first m i end a.0 (omega arith) (chosen_is m (suc i) n end a.0 (omega arith) a.1)))
    (λ h. chosen-later (suc m) i end t (chosen_is (suc m) (suc i) n end t (omega arith) h))
    (Memᴰ.append_cases (map (λ (t : List ℕ). i ∷ t) (chosen m (from (suc i) n))) k)

-- the later numbers of a choice
chosen-rest : (m i end r : ℕ) (t : List ℕ) → Chosen (suc m) i end (r ∷ t) → Chosen m (suc r) end t
chosen-rest m i end r t c =
    record {
      long = let l = c.long in omega arith;
      low = λ s k. ltb-true r s (all-at (ltb r) t (and_left (all (ltb r) t) (pairwise ltb t) c.rises) k);
      high = λ s k. c.high s (Memᴰ.tail k);
      rises = and_right (all (ltb r) t) (pairwise ltb t) c.rises;
    }

-- a choice whose first number is above i
chosen-higher : (m i end r : ℕ) (t : List ℕ) → i < r → Chosen (suc m) i end (r ∷ t) → Chosen (suc m) (suc i) end (r ∷ t)
chosen-higher m i end r t l c =
    let rest = chosen-rest m i end r t c in
    record {
      long = c.long;
      low = λ s k. ⊎_elim (λ q. omega arith) (λ h. let b = rest.low s h in omega arith) (Memᴰ.cases_cons k);
      high = c.high;
      rises = c.rises;
    }

-- a choice stands among those with the first number, or among the later ones
placed : (m i n r : ℕ) (t : List ℕ) → Dec (i < r) → (i < r → Memᴰ (r ∷ t) (chosen (suc m) (from (suc i) n))) → ((i < r → ⊥) → (r ≡ i) × Memᴰ t (chosen m (from (suc i) n))) → Memᴰ (r ∷ t) (chosen (suc m) (from i (suc n)))
placed m i n r t (yes l) later first = Memᴰ.append_right (map (λ (t : List ℕ). i ∷ t) (chosen m (from (suc i) n))) (later l)
placed m i n r t (no l) later first =
    let k = first l in
    Memᴰ.append_left (chosen (suc m) (from (suc i) n)) (Memᴰ.cast (ap (λ (x : ℕ). x ∷ t) k.0) (Memᴰ.map (λ (t : List ℕ). i ∷ t) k.1))

pub is-chosen : (m i n end : ℕ) (t : List ℕ) → end ≡ i + n → Chosen m i end t → Memᴰ t (chosen m (from i n))
is-chosen zero i n end [] e c = here
is-chosen zero i n end (r ∷ t) e c = absurd (let l = c.long in omega arith)
is-chosen (suc m) i n end [] e c = absurd (let l = c.long in omega arith)
is-chosen (suc m) i zero end (r ∷ t) e c = absurd (let l = c.low r here in let h = c.high r here in omega arith)
is-chosen (suc m) i (suc n) end (r ∷ t) e c =
    let rest = chosen-rest m i end r t c in
    placed m i n r t (dec_lt i r)
    (λ l. is-chosen (suc m) (suc i) n end (r ∷ t) (omega arith) (chosen-higher m i end r t l c))
    (λ l.
    let b = c.low r here in
    let q : r ≡ i = omega arith in
    (q, is-chosen m (suc i) n end t (omega arith) (subst (λ (x : ℕ). Chosen m (suc x) end t) q rest)))

-- a choice begins with an element
pub head-chosen : (m : ℕ) (xs : List ℕ) {u : List ℕ} → Memᴰ u (chosen (suc m) xs) → (y : ℕ) × (t : List ℕ) × Memᴰ y xs × (y ∷ t ≡ u)
head-chosen m [] k = absurd (Memᴰ.not-nil k)
head-chosen m (x ∷ xs) k =
    ⊎_elim
    (λ h. let a = Memᴰ.of_map (λ (t : List ℕ). x ∷ t) (chosen m xs) h in (x, a.0, here, a.2))
    (λ h. let a = head-chosen m xs h in (a.0, a.1, Memᴰ.tail a.2, a.3))
    (Memᴰ.append_cases (map (λ (t : List ℕ). x ∷ t) (chosen m xs)) k)

-- the choices from a rising list stand in order
pub chosen-ordered : (m : ℕ) (xs : List ℕ) → pairwise ltb xs ≡ true → pairwise earlier (chosen m xs) ≡ true
chosen-ordered zero xs e = refl
chosen-ordered (suc m) [] e = refl
chosen-ordered (suc m) (x ∷ xs) e =
    let rest = and_right (all (ltb x) xs) (pairwise ltb xs) e in
    pairwise_append earlier (map (λ (t : List ℕ). x ∷ t) (chosen m xs)) (chosen (suc m) xs)
    (prefix-earlier x (chosen m xs) (chosen-ordered m xs rest))
    (chosen-ordered (suc m) xs rest)
    (λ t u k l.
    let a = Memᴰ.of_map (λ (t : List ℕ). x ∷ t) (chosen m xs) k in
    let b = head-chosen m xs l in
    subst (λ (v : List ℕ). earlier t v ≡ true) b.3 (subst (λ (v : List ℕ). earlier v (b.0 ∷ b.1) ≡ true) a.2
    (earlier-less x b.0 a.0 b.1 (ltb-true x b.0 (all-at (ltb x) xs (and_left (all (ltb x) xs) (pairwise ltb xs) e) b.2)))))

-- ---- Selection keeps the order

module _ {ℓ} {A : Type ℓ} (p : A → Bool) where
  pub all-select : (q : A → Bool) (xs : List A) → all q xs ≡ true → all q (select p xs) ≡ true
  all-select q xs e = all-intro q (select p xs) (λ x k. all-at q xs e (select-mem p xs k).0)

  keep-pairwise : (r : A → A → Bool) (b : Bool) (x : A) (xs : List A) → all (r x) xs ≡ true → pairwise r xs ≡ true → pairwise r (keep_if b x xs) ≡ true
  keep-pairwise r true x xs e f = and_intro e f
  keep-pairwise r false x xs e f = f

  pub pairwise-select : (r : A → A → Bool) (xs : List A) → pairwise r xs ≡ true → pairwise r (select p xs) ≡ true
  pairwise-select r [] e = refl
  pairwise-select r (x ∷ xs) e =
      keep-pairwise r (p x) x (select p xs) (all-select (r x) xs (and_left (all (r x) xs) (pairwise r xs) e))
      (pairwise-select r xs (and_right (all (r x) xs) (pairwise r xs) e))

-- ---- The connected combinations

module _ (N : Network) (m : ℕ) where
  -- one that is listed has m members, which exist and rise, and is connected
  pub listed-connected : (c : Combination) → Memᴰ c (connected_combinations N m) → IsConnected N m c
  unfolding connected_combinations
  listed-connected c k =
      let n = length N.relations in
      let s = select-mem (connected N) (rising m n) k in
      let t = chosen_is m 0 n n c (omega arith) s.0 in
      record {
        many = t.long;
        proper = and_intro (all-intro (λ (r : ℕ). ltb r n) c (λ r l. lt-ltb r n (t.high r l))) t.rises;
        joined = s.1;
      }

  -- .. and every such one is listed
  pub connected-listed : HoldsConnected N m (connected_combinations N m)
  unfolding connected_combinations
  connected-listed c is =
      let n = length N.relations in
      let exist = and_left (all (λ (r : ℕ). ltb r n) c) (pairwise ltb c) is.proper in
      mem-select (connected N) (rising m n)
      (is-chosen m 0 n n c (omega arith)
      (record {
        long = is.many;
        low = λ r k. omega arith;
        high = λ r k. ltb-true r n (all-at (λ (r : ℕ). ltb r n) c exist k);
        rises = and_right (all (λ (r : ℕ). ltb r n) c) (pairwise ltb c) is.proper;
      }))
      is.joined

  pub listed-ordered : pairwise earlier (connected_combinations N m) ≡ true
  unfolding connected_combinations
  listed-ordered =
      let n = length N.relations in
      pairwise-select (connected N) earlier (rising m n) (chosen-ordered m (from 0 n) (from-rises 0 n))

  pub all-connected : AllConnected N m (connected_combinations N m)
  all-connected = record { only = listed-connected; every = connected-listed; ordered = listed-ordered }

-- ---- End to end

module _ (m : ℕ) where
  pub end-to-end-length : (cs : List Combination) → ((c : Combination) → Memᴰ c cs → length c ≡ m) → length (end_to_end cs) ≡ length cs * m
  end-to-end-length [] h = sym (zero-mul m)
  end-to-end-length (c ∷ cs) h =
      omega (arith, length-append c (end_to_end cs), h c here, end-to-end-length cs (λ d k. h d (Memᴰ.tail k)), suc-mul (length cs) m)

  pieces-back : (cs : List Combination) → ((c : Combination) → Memᴰ c cs → length c ≡ m) → pieces (length cs) m (end_to_end cs) ≡ cs
  pieces-back [] h = refl
  pieces-back (c ∷ cs) h =
      pieces-cons (length cs) m c (end_to_end cs) (h c here)
      ∙ ap (λ (ds : List Combination). c ∷ ds) (pieces-back cs (λ d k. h d (Memᴰ.tail k)))

  -- the list read as combinations
  pub combinations-back : (cs : List Combination) → 0 < m → ((c : Combination) → Memᴰ c cs → length c ≡ m) → combinations m (end_to_end cs) ≡ cs
  combinations-back cs pos h = combinations-pieces m (end_to_end cs) (length cs) pos (end-to-end-length cs h) ∙ pieces-back cs h

-- ---- The reply

module _ (N : Network) (m : ℕ) (list : List ℕ) where
  abbrev cs : List Combination
  cs = connected_combinations N m

  abbrev faults_of : List Fault
  faults_of = enumeration_faults N m (length list)

  -- what stands in front
  abbrev front : List ℕ
  front = end_to_end cs

  each_long : (c : Combination) → Memᴰ c cs → length c ≡ m
  each_long c k = (listed-connected N m c k).many

  pub front_length : length front ≡ length cs * m
  front_length = end-to-end-length m cs each_long

  -- the tests behind 2 to 6
  abbrev own_faults : List Fault
  own_faults =
      (7, not (within min_members max_members m))
      ∷ (15, ltb max_combinations (length cs))
      ∷ (16, ltb (length list) (length cs * m))
      ∷ []

  -- What no fault gives.
  record Fine : Type 0 where
    network : first_fault (network_faults N) ≡ none
    members : within min_members max_members m ≡ true
    few : length cs ≤ max_combinations
    room : length cs * m ≤ length list

  own : first_fault faults_of ≡ none → {f : Fault} → Memᴰ f own_faults → f.1 ≡ false
  unfolding enumeration_faults
  own e = no-fault-at own_faults (first_fault-back (network_faults N) own_faults e)

  fine : first_fault faults_of ≡ none → Fine
  unfolding enumeration_faults
  fine e =
      record {
        network = first_fault-front (network_faults N) own_faults e;
        members = not-false _ (own e here);
        few = ltb-false max_combinations (length cs) (own e (Memᴰ.tail here));
        room = ltb-false (length list) (length cs * m) (own e (Memᴰ.tail (Memᴰ.tail here)));
      }

  pub listed-few : first_fault faults_of ≡ none → length cs ≤ max_combinations
  listed-few e = (fine e).few

  -- the numbers are 2 to 7, 15 and 16
  pub enumeration-number : (k : ℕ) → first_fault faults_of ≡ some k → ltb k 17 ≡ true
  unfolding enumeration_faults
  enumeration-number k e = first_fault-number (λ (n : ℕ). ltb n 17) faults_of k refl e

  -- with the combinations listed there is no fault 2 to 10
  abbrev listed_instance : List ℕ → Instance
  listed_instance members = record { network = N; m = m; members = members }

  pub listed-faultless : first_fault faults_of ≡ none → first_fault (instance_faults (listed_instance front)) ≡ none
  listed-faultless e =
      let f = fine e in
      let pos : 0 < m = omega (arith, leb-true min_members m (and_left (leb min_members m) (leb m max_members) f.members)) in
      let whole : length front % m ≡ 0 = ap (λ (n : ℕ). n % m) front_length ∙ mul-mod_left (length cs) m in
      let many : length front / m ≡ length cs = ap (λ (n : ℕ). n / m) front_length ∙ mul-div_cancel (length cs) pos in
      let back : combinations m front ≡ cs = combinations-back m cs pos each_long in
      let t10 : List Fault = (10, not (all (connected N) (combinations m front))) ∷ [] in
      let t9 : List Fault = (9, not (all (proper_members N) (combinations m front))) ∷ t10 in
      let t8 : List Fault = (8, not (proper_list m front)) ∷ t9 in
      first_fault-append-none (network_faults N) (combination_faults (listed_instance front)) f.network
      ∙ fault-next (7, not (within min_members max_members m)) t8 (ap not f.members)
      ∙ fault-next (8, not (proper_list m front)) t9
      (ap not (and_intro (eq-eqb (length front % m) 0 whole) (le-leb (length front / m) max_combinations (omega (arith, f.few)))))
      ∙ fault-next (9, not (all (proper_members N) (combinations m front))) t10
      (ap not (ap (all (proper_members N)) back ∙ all-intro (proper_members N) cs (λ c k. (listed-connected N m c k).proper)))
      ∙ fault-next (10, not (all (connected N) (combinations m front))) []
      (ap not (ap (all (connected N)) back ∙ all-intro (connected N) cs (λ c k. (listed-connected N m c k).joined)))

  -- what stands in front and what stands behind
  abbrev after : List ℕ
  after = front ++ drop (length cs * m) list

  after_front : take (length cs * m) after ≡ front
  after_front = take_at front (drop (length cs * m) list) (length cs * m) front_length

  after-behind : drop (length cs * m) after ≡ drop (length cs * m) list
  after-behind = drop_at front (drop (length cs * m) list) (length cs * m) front_length

  answered-for : (o : Option ℕ) → first_fault faults_of ≡ o → EnumerationAnswered N m list (enumeration_for o cs m list)
  answered-for none e =
      let f = fine e in
      let pos : 0 < m = omega (arith, leb-true min_members m (and_left (leb min_members m) (leb m max_members) f.members)) in
      record {
        all = all-connected N m;
        listed = λ sound. (refl, ap (combinations m) after_front ∙ combinations-back m cs pos each_long);
        refused = λ n first. absurd (some-ne-none n (sym (first-fault first) ∙ e));
        only = λ k g l. no-fault-at faults_of e l;
        behind = after-behind;
        long = omega (arith, length-append front (drop (length cs * m) list), front_length, length-drop (length cs * m) list, f.room);
        taken = λ k g l.
            no-fault-at (instance_faults (listed_instance (take (length cs * m) after)))
            (ap (λ (xs : List ℕ). first_fault (instance_faults (listed_instance xs))) after_front ∙ listed-faultless e) l;
      }
  answered-for (some n) e =
      record {
        all = all-connected N m;
        listed = λ sound. absurd (some-ne-none n (sym e ∙ none-first_fault faults_of sound));
        refused = λ k first. ap (λ (j : ℕ). enumerated (Refused j) list) (some-injective n k (sym e ∙ first-fault first));
        only = λ k. absurd (omega arith);
        behind = refl;
        long = refl;
        taken = λ k. absurd (omega arith);
      }

  pub enumeration-answered : EnumerationAnswered N m list (enumeration_reply N m list)
  unfolding enumeration_reply
  enumeration-answered = answered-for (first_fault faults_of) refl

  -- ---- The numbers left fit their bits, where those lent do

  front-members : all (λ (r : ℕ). ltb r (length N.relations)) front ≡ true
  front-members = all-front cs (λ c k. and_left (all (λ (r : ℕ). ltb r (length N.relations)) c) (pairwise ltb c) (listed-connected N m c k).proper)
    where
      all-front : (ds : List Combination) → ((c : Combination) → Memᴰ c ds → all (λ (r : ℕ). ltb r (length N.relations)) c ≡ true) → all (λ (r : ℕ). ltb r (length N.relations)) (end_to_end ds) ≡ true
      all-front [] h = refl
      all-front (c ∷ ds) h = all_append (λ (r : ℕ). ltb r (length N.relations)) c (end_to_end ds) (h c here) (all-front ds (λ d k. h d (Memᴰ.tail k)))

  members-below-for : (o : Option ℕ) → first_fault faults_of ≡ o → ((i : ℕ) → get_or list i 0 < 65536) → (i : ℕ) → get_or (enumeration_for o cs m list).members i 0 < 65536
  members-below-for none e low i =
      let few = (faultless N (fine e).network).relations in
      below-append 65536 (omega arith) front (drop (length cs * m) list)
      (λ j. below-past 65536 (omega arith) front j
      (λ k h. omega (arith, few, ltb-true (get_or front k 0) (length N.relations) (all_get_d (λ (r : ℕ). ltb r (length N.relations)) front k 0 front-members h)))
      (dec_lt j (length front)))
      (λ j. rw get_or-drop (low (length cs * m + j))) i
  members-below-for (some k) e low i = low i

  pub enumeration-members-below : ((i : ℕ) → get_or list i 0 < 65536) → (i : ℕ) → get_or (enumeration_reply N m list).members i 0 < 65536
  unfolding enumeration_reply
  enumeration-members-below low i = members-below-for (first_fault faults_of) refl low i

  -- ---- .. and the list has room for them

  room_for : (o : Option ℕ) → first_fault faults_of ≡ o → (enumeration_for o cs m list).answer.left * m ≤ length list
  room_for none e = (fine e).room
  room_for (some k) e = omega (arith, zero-mul m)

  pub enumeration-room : (enumeration_reply N m list).answer.left * m ≤ length list
  unfolding enumeration_reply
  enumeration-room = room_for (first_fault faults_of) refl

  none-for : (o : Option ℕ) → (enumeration_for o cs m list).answer.kind ≡ 2 → (enumeration_for o cs m list).answer.left * m ≡ 0
  none-for none k = absurd (omega arith)
  none-for (some f) k = zero-mul m

  -- a refusal lists nothing
  pub enumeration-kept : (enumeration_reply N m list).answer.kind ≡ 2 → (enumeration_reply N m list).answer.left * m ≡ 0
  unfolding enumeration_reply
  enumeration-kept = none-for (first_fault faults_of)
