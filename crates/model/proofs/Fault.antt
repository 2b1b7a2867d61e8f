-- Laws of the first fault of a table, and what a network and a request without faults have.
-- From the definitions alone.
use mathlib.Core.Path.{◌≡◌, refl, sym, ◌∙◌, ap, subst}
use mathlib.Core.Bool.{Bool, true, false, not, cond}
use mathlib.Core.Option.{Option, none, some}
use mathlib.Core.List.Memᴰ
use mathlib.Core.List.{List, [], ◌∷◌, ◌++◌, map, Memᴰ}
use mathlib.Core.Logic.{⊎_elim}
use Prim.Native.Nat.{ℕ, ◌*◌, ◌≤◌, ◌<◌}
use native.Mathlib.Omega.{arith}
use native.Mathlib.Decide.{dec_lt}
use native.Mathlib.Nat.{mul-le-mul_right}
use lib.Dec.{leb, ltb, eqb}
use lib.ListN.{length, get_or}
use borrow.Author.Tests.{le-ltb, ltb-true, ltb-false, leb-true, eqb-true, eqb-false, not-true, not-false}
use Rattle.model.specs.Limits.{max_relations, max_width, max_tuples, variable_count, max_support_numbers, word_bits}
use Rattle.model.specs.Lists.{from, sum, all, pairwise, is_none}
use Rattle.model.specs.declared.Relation.{Relation}
use Rattle.model.specs.Network.{Network, total, variables_in, tuples_in, values_in, scope_of}
use Rattle.model.specs.Combination.{Combination, connected}
use Rattle.model.specs.Consistency.{needed}
use Rattle.model.specs.Request.{Change, filter, withdraw, choose, choose_several, Instance, combinations_of, Request}
use Rattle.model.specs.Fault.{published, Fault, list_faults, untrue, first_fault, refusal, within, proper_width, different, proper_scope, proper_lengths, network_faults, combination_faults, words_fault, supports_fault, change_faults, proper_members, faults_on, faults, accepts}
use Rattle.model.proofs.Bools.{and_left, and_right, or-false-left, or-false-right, or-false-intro}
use Rattle.model.proofs.Lists.{here, all-at, pairwise-get_d, is_none-none}

-- ---- Reading a table in order

module _ (f : Fault) (fs : List Fault) where
  pub fault-here : f.1 ≡ true → first_fault (f ∷ fs) ≡ some f.0
  fault-here e = ap (λ (b : Bool). cond b (some f.0) (first_fault fs)) e

  pub fault-next : f.1 ≡ false → first_fault (f ∷ fs) ≡ first_fault fs
  fault-next e = ap (λ (b : Bool). cond b (some f.0) (first_fault fs)) e

some-none : {k : ℕ} → some k ≡ none → ⊥
some-none {k} e = let z : ◌≡◌ {A = ℕ} 0 1 = cc in omega arith

none_first : (b : Bool) (k : ℕ) (o : Option ℕ) → cond b (some k) o ≡ none → (b ≡ false) × (o ≡ none)
none_first true k o e = absurd (some-none e)
none_first false k o e = (refl, e)

-- no fault at all: neither the first test nor a later one finds any
pub no-fault-here : (f : Fault) (fs : List Fault) → first_fault (f ∷ fs) ≡ none → f.1 ≡ false
no-fault-here f fs e = (none_first f.1 f.0 (first_fault fs) e).0

pub no-fault-next : (f : Fault) (fs : List Fault) → first_fault (f ∷ fs) ≡ none → first_fault fs ≡ none
no-fault-next f fs e = (none_first f.1 f.0 (first_fault fs) e).1

-- .. and so no test of the table finds any
pub no-fault-at : (fs : List Fault) → first_fault fs ≡ none → {f : Fault} → Memᴰ f fs → f.1 ≡ false
no-fault-at [] e m = absurd (Memᴰ.not-nil m)
no-fault-at (g ∷ fs) e {f} m =
    ⊎_elim
    (λ h. ap (λ (k : Fault). k.1) h ∙ no-fault-here g fs e)
    (λ h. no-fault-at fs (no-fault-next g fs e) h)
    (Memᴰ.cases_cons m)

-- two tables, one after the other
pub first_fault-append-none : (fs gs : List Fault) → first_fault fs ≡ none → first_fault (fs ++ gs) ≡ first_fault gs
first_fault-append-none [] gs e = refl
first_fault-append-none (f ∷ fs) gs e =
    fault-next f (fs ++ gs) (no-fault-here f fs e) ∙ first_fault-append-none fs gs (no-fault-next f fs e)

append-some : (b : Bool) (k j : ℕ) (o p : Option ℕ) → (o ≡ some k → p ≡ some k) → cond b (some j) o ≡ some k → cond b (some j) p ≡ some k
append-some true k j o p f e = e
append-some false k j o p f e = f e

pub first_fault-append-some : (fs gs : List Fault) (k : ℕ) → first_fault fs ≡ some k → first_fault (fs ++ gs) ≡ some k
first_fault-append-some [] gs k e = absurd (some-none (sym e))
first_fault-append-some (f ∷ fs) gs k e =
    append-some f.1 k f.0 (first_fault fs) (first_fault (fs ++ gs)) (first_fault-append-some fs gs k) e

-- no fault in two tables: none in either
pub first_fault-front : (fs gs : List Fault) → first_fault (fs ++ gs) ≡ none → first_fault fs ≡ none
first_fault-front [] gs e = refl
first_fault-front (f ∷ fs) gs e =
    fault-next f fs (no-fault-here f (fs ++ gs) e) ∙ first_fault-front fs gs (no-fault-next f (fs ++ gs) e)

pub first_fault-back : (fs gs : List Fault) → first_fault (fs ++ gs) ≡ none → first_fault gs ≡ none
first_fault-back fs gs e = sym (first_fault-append-none fs gs (first_fault-front fs gs e)) ∙ e

-- where every test is false, none is found
pub none-first_fault : (fs : List Fault) → ((f : Fault) → Memᴰ f fs → f.1 ≡ false) → first_fault fs ≡ none
none-first_fault [] h = refl
none-first_fault (g ∷ fs) h = fault-next g fs (h g here) ∙ none-first_fault fs (λ f m. h f (Memᴰ.tail m))

-- the first fault is the one before which every test is false
pub first_fault-some : (before after : List Fault) (n : ℕ) → ((f : Fault) → Memᴰ f before → f.1 ≡ false) → first_fault (before ++ ((n, true) ∷ after)) ≡ some n
first_fault-some before after n h = first_fault-append-none before ((n, true) ∷ after) (none-first_fault before h)

-- .. and its number passes a test that all numbers of the table pass
pub first_fault-number : (p : ℕ → Bool) (fs : List Fault) (k : ℕ) → all (λ (f : Fault). p f.0) fs ≡ true → first_fault fs ≡ some k → p k ≡ true
first_fault-number p [] k h e = absurd (some-none (sym e))
first_fault-number p (f ∷ fs) k h e = either f.1 (first_fault fs) (and_left (p f.0) _ h) (first_fault-number p fs k (and_right (p f.0) _ h)) e
  where
    either : (x : Bool) (o : Option ℕ) {j : ℕ} → p j ≡ true → (o ≡ some k → p k ≡ true) → cond x (some j) o ≡ some k → p k ≡ true
    either true o {j} here later e = subst (λ (i : ℕ). p i ≡ true) (ap refusal e) here
    either false o _ later e = later e

-- ---- The first fault from its refusal number

pub refusal-some : (o : Option ℕ) (k : ℕ) → refusal o ≡ k → (k ≡ 0 → ⊥) → o ≡ some k
refusal-some none k e d = absurd (d (sym e))
refusal-some (some j) k e d = ap some e

refusal-first : (b : Bool) (k : ℕ) (o : Option ℕ) → ltb 0 k ≡ true → (refusal o ≡ 0 → o ≡ none) → refusal (cond b (some k) o) ≡ 0 → cond b (some k) o ≡ none
refusal-first true k o h f e = absurd (let l = ltb-true 0 k h in omega arith)
refusal-first false k o h f e = f e

-- every refusal number is above 0
abbrev pub numbered : List Fault → Bool
numbered fs = all (λ (f : Fault). ltb 0 f.0) fs

pub refusal-none : (fs : List Fault) → numbered fs ≡ true → refusal (first_fault fs) ≡ 0 → first_fault fs ≡ none
refusal-none [] h e = refl
refusal-none (f ∷ fs) h e =
    refusal-first f.1 f.0 (first_fault fs) (and_left (ltb 0 f.0) (numbered fs) h)
    (refusal-none fs (and_right (ltb 0 f.0) (numbered fs) h)) e

-- two tables, one after the other: the first table's number if it has one, or else the second's
pub refusal-front : (fs gs : List Fault) (k : ℕ) → k ≡ refusal (first_fault fs) → (k ≡ 0 → ⊥) → k ≡ refusal (first_fault (fs ++ gs))
refusal-front fs gs k e d = sym (ap refusal (first_fault-append-some fs gs k (refusal-some (first_fault fs) k (sym e) d)))

pub refusal-back : (fs gs : List Fault) → numbered fs ≡ true → refusal (first_fault fs) ≡ 0 → refusal (first_fault gs) ≡ refusal (first_fault (fs ++ gs))
refusal-back fs gs h e = sym (ap refusal (first_fault-append-none fs gs (refusal-none fs h e)))

-- ---- The faults of a change call, from those that all change calls test and its own

pub numbered-lists : (I : Instance) (words numbers : ℕ) → numbered (list_faults I words numbers) ≡ true
unfolding list_faults
numbered-lists I words numbers = refl

module _ (I : Instance) (words numbers : ℕ) (wrong : Bool) where
  pub faults_on-change : (change : Change) → faults_on I words numbers wrong change ≡ faults_on I words numbers wrong filter ++ change_faults I.network change
  unfolding faults_on list_faults
  faults_on-change change = refl

  pub numbered-shared : numbered (faults_on I words numbers wrong filter) ≡ true
  unfolding faults_on list_faults
  numbered-shared = refl

  numbered-change : (change : Change) → numbered (change_faults I.network change) ≡ true
  numbered-change filter = refl
  numbered-change (withdraw ids) = refl
  numbered-change (choose x v) = refl
  numbered-change (choose_several xs vs) = refl

  numbered-all : (change : Change) → numbered (faults_on I words numbers wrong change) ≡ true
  unfolding faults_on list_faults
  numbered-all filter = refl
  numbered-all (withdraw ids) = refl
  numbered-all (choose x v) = refl
  numbered-all (choose_several xs vs) = refl

  -- the numbers are 2 to 14, 18 and 19
  numbers-all : (change : Change) → all (λ (f : Fault). published f.0) (faults_on I words numbers wrong change) ≡ true
  unfolding faults_on list_faults
  numbers-all filter = refl
  numbers-all (withdraw ids) = refl
  numbers-all (choose x v) = refl
  numbers-all (choose_several xs vs) = refl

  pub refusal-within : (change : Change) (k : ℕ) → first_fault (faults_on I words numbers wrong change) ≡ some k → published k ≡ true
  refusal-within change k e = first_fault-number published (faults_on I words numbers wrong change) k (numbers-all change) e

  pub refusal-all : (change : Change) → refusal (first_fault (faults_on I words numbers wrong change)) ≡ 0 → first_fault (faults_on I words numbers wrong change) ≡ none
  refusal-all change e = refusal-none (faults_on I words numbers wrong change) (numbered-all change) e

  -- a fault that all change calls test is the call's
  pub refusal-shared : (change : Change) (k : ℕ) → k ≡ refusal (first_fault (faults_on I words numbers wrong filter)) → (k ≡ 0 → ⊥) → first_fault (faults_on I words numbers wrong change) ≡ some k
  refusal-shared change k e d =
      ap first_fault (faults_on-change change)
      ∙ first_fault-append-some (faults_on I words numbers wrong filter) (change_faults I.network change) k
      (refusal-some (first_fault (faults_on I words numbers wrong filter)) k (sym e) d)

  module _ (change : Change) (shared : 0 ≡ refusal (first_fault (faults_on I words numbers wrong filter))) where
    behind : first_fault (faults_on I words numbers wrong change) ≡ first_fault (change_faults I.network change)
    behind =
        ap first_fault (faults_on-change change)
        ∙ first_fault-append-none (faults_on I words numbers wrong filter) (change_faults I.network change)
        (refusal-none (faults_on I words numbers wrong filter) numbered-shared (sym shared))

    -- where it has none of them, its own fault is the call's, if it has one
    pub refusal-own : (k : ℕ) → k ≡ refusal (first_fault (change_faults I.network change)) → (k ≡ 0 → ⊥) → first_fault (faults_on I words numbers wrong change) ≡ some k
    refusal-own k e d = behind ∙ refusal-some (first_fault (change_faults I.network change)) k (sym e) d

    pub refusal-neither : 0 ≡ refusal (first_fault (change_faults I.network change)) → first_fault (faults_on I words numbers wrong change) ≡ none
    refusal-neither e = behind ∙ refusal-none (change_faults I.network change) (numbered-change change) (sym e)

-- ---- Relation records of proper width

proper-narrow : (R : Relation) (Rs : List Relation) → all proper_width (R ∷ Rs) ≡ true → R.width ≤ max_width
proper-narrow R Rs h = leb-true R.width max_width (and_right (leb 1 R.width) (leb R.width max_width) (and_left (proper_width R) (all proper_width Rs) h))

pub few-variables : (Rs : List Relation) → all proper_width Rs ≡ true → sum (map variables_in Rs) ≤ max_width * length Rs
few-variables [] h = omega arith
few-variables (R ∷ Rs) h =
    let w = proper-narrow R Rs h in
    let k = few-variables Rs (and_right (proper_width R) (all proper_width Rs) h) in
    omega arith

pub few-values : (Rs : List Relation) → all proper_width Rs ≡ true → sum (map values_in Rs) ≤ max_width * sum (map tuples_in Rs)
few-values [] h = omega arith
few-values (R ∷ Rs) h =
    let w = mul-le-mul_right R.tuples (proper-narrow R Rs h) in
    let k = few-values Rs (and_right (proper_width R) (all proper_width Rs) h) in
    omega arith

-- ---- A scope

-- variables that are different stand at one place each
pub different-unique : (xs : List ℕ) (k l : ℕ) → pairwise different xs ≡ true → k < length xs → l < length xs → get_or xs k 0 ≡ get_or xs l 0 → k ≡ l
different-unique xs k l once hk hl e = go (dec_lt k l) (dec_lt l k)
  where
    apart : (i j : ℕ) → i < j → j < length xs → get_or xs i 0 ≡ get_or xs j 0 → ⊥
    apart i j h m = eqb-false (get_or xs i 0) (get_or xs j 0) (not-true _ (pairwise-get_d different xs i j 0 once h m))

    go : Dec (k < l) → Dec (l < k) → k ≡ l
    go (yes h) d = absurd (apart k l h hl e)
    go (no h) (yes m) = absurd (apart l k m hk (sym e))
    go (no h) (no m) = omega arith

-- ---- A network without network faults

pub record Faultless (N : Network) : Type 0 where
  pub some-relation : 1 ≤ length N.relations
  pub relations : length N.relations ≤ max_relations
  pub widths : all proper_width N.relations ≡ true
  pub tuples : total N ≤ max_tuples
  pub variables : length N.variables ≡ sum (map variables_in N.relations)
  pub values : length N.values ≡ sum (map values_in N.relations)
  pub scopes : all (λ (r : ℕ). proper_scope (scope_of N r)) (from 0 (length N.relations)) ≡ true

pub faultless : (N : Network) → first_fault (network_faults N) ≡ none → Faultless N
faultless N e =
    let n = length N.relations in
    let variables = eqb (length N.variables) (sum (map variables_in N.relations)) in
    let values = eqb (length N.values) (sum (map values_in N.relations)) in
    let count : within 1 max_relations n ≡ true = not-false _ (no-fault-at (network_faults N) e here) in
    let lengths : proper_lengths N ≡ true =
    not-false _ (no-fault-at (network_faults N) e (Memᴰ.tail (Memᴰ.tail (Memᴰ.tail here))))
    in
    record {
      some-relation = leb-true 1 n (and_left (leb 1 n) (leb n max_relations) count);
      relations = leb-true n max_relations (and_right (leb 1 n) (leb n max_relations) count);
      widths = not-false _ (no-fault-at (network_faults N) e (Memᴰ.tail here));
      tuples = ltb-false max_tuples (total N) (no-fault-at (network_faults N) e (Memᴰ.tail (Memᴰ.tail here)));
      variables = eqb-true _ _ (and_left variables values lengths);
      values = eqb-true _ _ (and_right variables values lengths);
      scopes = not-false _ (no-fault-at (network_faults N) e (Memᴰ.tail (Memᴰ.tail (Memᴰ.tail (Memᴰ.tail here)))));
    }

-- ---- A request without faults

module _ (q : Request) (e : accepts q ≡ true) where
  abbrev I : Instance
  I = q.given

  abbrev N : Network
  N = I.network

  absent : {f : Fault} → Memᴰ f (faults q) → f.1 ≡ false
  unfolding accepts
  absent m = no-fault-at (faults q) (is_none-none (first_fault (faults q)) e) m

  -- those of the words and of the supports
  abbrev lent : List Fault
  lent = words_fault N (length q.words) ∷ supports_fault I (length q.supports) ∷ []

  -- it has none of 2 to 12
  listed : {f : Fault} → Memᴰ f (list_faults I (length q.words) (length q.supports)) → f.1 ≡ false
  unfolding faults faults_on
  listed m = absent (Memᴰ.append_left ((18, untrue N q.words q.counts) ∷ change_faults N q.change) m)

  -- its network has no fault
  pub accepts-network : first_fault (network_faults N) ≡ none
  unfolding list_faults
  accepts-network =
      none-first_fault (network_faults N) (λ f m. listed (Memᴰ.append_left lent (Memᴰ.append_left (combination_faults I) m)))

  -- its lists' faults stand behind those of the network and the combinations
  lists : {f : Fault} → Memᴰ f lent → f.1 ≡ false
  unfolding list_faults
  lists m = listed (Memᴰ.append_right (network_faults N ++ combination_faults I) m)

  -- its counts are true
  pub accepts-true : untrue N q.words q.counts ≡ false
  unfolding faults faults_on
  accepts-true = absent (Memᴰ.append_right (list_faults I (length q.words) (length q.supports)) here)

  -- it has neither a fault that all change calls test, nor one of its own
  abbrev shared-faults : List Fault
  shared-faults = faults_on I (length q.words) (length q.supports) (untrue N q.words q.counts) filter

  all-absent : first_fault (shared-faults ++ change_faults N q.change) ≡ none
  unfolding accepts faults
  all-absent =
      sym (ap first_fault (faults_on-change I (length q.words) (length q.supports) (untrue N q.words q.counts) q.change))
      ∙ is_none-none (first_fault (faults q)) e

  pub accepts-own : first_fault (change_faults N q.change) ≡ none
  accepts-own = first_fault-back shared-faults (change_faults N q.change) all-absent

  -- a choice of a variable is then accepted too, on as many words and numbers, with true counts
  pub accepts-choice : (words supports counts : List ℕ) → length words ≡ length q.words → length supports ≡ length q.supports → untrue N words counts ≡ false → (x v : ℕ) → ltb x variable_count ≡ true → accepts (record { given = I; words = words; supports = supports; counts = counts; change = choose x v }) ≡ true
  unfolding accepts faults
  accepts-choice words supports counts lw ls truth x v low =
      let wrong = untrue N words counts in
      let same : faults_on I (length words) (length supports) wrong filter ≡ shared-faults = λ i. faults_on I (lw i) (ls i) ((truth ∙ sym accepts-true) i) filter in
      ap is_none
      (ap first_fault (faults_on-change I (length words) (length supports) wrong (choose x v))
      ∙ first_fault-append-none (faults_on I (length words) (length supports) wrong filter) (change_faults N (choose x v))
      (ap first_fault same ∙ first_fault-front shared-faults (change_faults N q.change) all-absent)
      ∙ fault-next (14, not (ltb x variable_count)) [] (ap not low))

  pub accepts-words : total N ≤ word_bits * length q.words
  accepts-words = omega (arith, ltb-false (length q.words * word_bits) (total N) (lists here))

  -- the supports need no more numbers than are allowed, or lent
  pub accepts-supports : (needed N (combinations_of I) ≤ max_support_numbers) × (needed N (combinations_of I) ≤ length q.supports)
  accepts-supports =
      let k = needed N (combinations_of I) in
      let None-found = lists (Memᴰ.tail here) in
      (ltb-false max_support_numbers k (or-false-left (ltb max_support_numbers k) (ltb (length q.supports) k) None-found), ltb-false (length q.supports) k (or-false-right (ltb max_support_numbers k) (ltb (length q.supports) k) None-found))

  combination-fault : {f : Fault} → Memᴰ f (combination_faults I) → f.1 ≡ false
  unfolding list_faults
  combination-fault m = listed (Memᴰ.append_left lent (Memᴰ.append_right (network_faults N) m))

  pub accepts-proper : {c : Combination} → Memᴰ c (combinations_of I) → proper_members N c ≡ true
  accepts-proper m = all-at (proper_members N) (combinations_of I) (not-false (all (proper_members N) (combinations_of I)) (combination-fault (Memᴰ.tail (Memᴰ.tail here)))) m

  -- every member exists
  pub accepts-exist : (c : Combination) → Memᴰ c (combinations_of I) → (r : ℕ) → Memᴰ r c → r < length N.relations
  accepts-exist c m r k =
      ltb-true r (length N.relations)
      (all-at (λ (r : ℕ). ltb r (length N.relations)) c (and_left (all (λ (r : ℕ). ltb r (length N.relations)) c) (pairwise ltb c) (accepts-proper m)) k)

  -- and the members rise
  pub accepts-rise : (c : Combination) → Memᴰ c (combinations_of I) → pairwise ltb c ≡ true
  accepts-rise c m = and_right (all (λ (r : ℕ). ltb r (length N.relations)) c) (pairwise ltb c) (accepts-proper m)

  -- and each is connected
  pub accepts-connected : {c : Combination} → Memᴰ c (combinations_of I) → connected N c ≡ true
  accepts-connected m = all-at (connected N) (combinations_of I) (not-false (all (connected N) (combinations_of I)) (combination-fault (Memᴰ.tail (Memᴰ.tail (Memᴰ.tail here))))) m

  -- its change has no fault of its own
  pub accepts-change : first_fault (change_faults N q.change) ≡ none
  unfolding faults faults_on
  accepts-change =
      none-first_fault (change_faults N q.change)
      (λ f m. absent (Memᴰ.append_right (list_faults I (length q.words) (length q.supports)) (Memᴰ.tail m)))

  -- a request on the same instance is accepted, with as many words, supports enough, true counts and a change without fault
  pub accepts-other : (words supports counts : List ℕ) (change : Change) → length words ≡ length q.words → needed N (combinations_of I) ≤ length supports → untrue N words counts ≡ false → first_fault (change_faults N change) ≡ none → accepts (record { given = I; words = words; supports = supports; counts = counts; change = change }) ≡ true
  unfolding accepts faults faults_on list_faults
  accepts-other words supports counts change long enough truth own =
      ap is_none (first_fault-append-none lists-faults ((18, untrue N words counts) ∷ change_faults N change) none-listed ∙ fault-next (18, untrue N words counts) (change_faults N change) truth ∙ own)
    where
      lists-faults : List Fault
      lists-faults = list_faults I (length words) (length supports)

      k : ℕ
      k = needed N (combinations_of I)

      few : ltb max_support_numbers k ≡ false
      few = le-ltb max_support_numbers k accepts-supports.0

      none-listed : first_fault lists-faults ≡ none
      none-listed =
          first_fault-append-none (network_faults N ++ combination_faults I) (words_fault N (length words) ∷ supports_fault I (length supports) ∷ [])
          (none-first_fault (network_faults N ++ combination_faults I) (λ f m. listed (Memᴰ.append_left lent m)))
          ∙ fault-next (words_fault N (length words)) (supports_fault I (length supports) ∷ []) (ap (λ (n : ℕ). ltb (n * word_bits) (total N)) long ∙ lists here)
          ∙ fault-next (supports_fault I (length supports)) [] (or-false-intro few (le-ltb (length supports) k enough))
