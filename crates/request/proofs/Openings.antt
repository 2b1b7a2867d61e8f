-- What the checks give: of one table of faults after the other, of the change's own fault, and to a call without fault.
-- From the laws of two tables of faults, and the bridge from no fault to the facts.
use mathlib.Core.Path.{◌≡◌, refl, sym, ap, subst, ◌∙◌}
use mathlib.Core.Bool.{Bool, true, false, not, ◌&&◌}
use mathlib.Core.Option.{none}
use mathlib.Core.List.{List, [], ◌∷◌, ◌++◌}
use Prim.Native.Nat.{ℕ, ◌*◌, ◌≤◌}
use native.Mathlib.Decide.{ℕ_discrete}
use native.Mathlib.Omega.{arith}
use borrow.Author.Tests.{ltb-true, ltb-false, le-leb, lt-leb}
use lib.Dec.{leb, ltb}
use lib.ListN.{length}
use Rattle.model.specs.declared.Relation.{Relation}
use Rattle.model.specs.Limits.{word_bits, max_support_numbers}
use Rattle.model.specs.Network.{Network, total}
use Rattle.model.specs.Consistency.{needed}
use Rattle.model.specs.Request.{Instance, combinations_of, withdraw, choose, removes}
use Rattle.model.specs.Fault.{Fault, first_fault, refusal, network_faults, combination_faults, instance_faults, words_fault, supports_fault, change_faults, untrue, list_faults, faults_on, test_faults}
use Rattle.model.proofs.Bools.{or-false-left, or-false-right}
use Rattle.model.proofs.Fault.{numbered, numbered-lists, refusal-none, refusal-front, refusal-back, no-fault-here, first_fault-front, first_fault-back}
use Rattle.layout.specs.declared.Shape.{Shape}
use Rattle.layout.specs.Shape.{relations_of, network_of, instance_of}
use Rattle.layout.specs.Setting.{Setting, network, instance_in, listed, Sound}
use Rattle.combination.specs.Proper.{below}
use Rattle.request.specs.declared.checks.Opening.{Opening}
use Rattle.request.specs.declared.removal.Ids.{Ids}
use Rattle.request.specs.Removal.{IdsOf, Holds}
use Rattle.request.proofs.Removed.{withdraw-holds}
use Rattle.request.specs.Checks.{test_faults_on, Opened, CountsChecked, ids_refusal, variable_refusal}
use Rattle.request.specs.Answer.{Covered}
use Rattle.request.specs.Plan.{Opens}
use Rattle.layout.specs.Starts.{outline}
use Rattle.layout.proofs.Outline.{untrue-outline}
use Rattle.layout.proofs.Checked.{opened-instance, opened-sound}

-- ---- Tables

module _ (o : Opening) (fs : List Fault) (Rs : List Relation) (w : Opened o fs Rs) where
  pub opened-none : numbered fs ≡ true → o.fault ≡ 0 → first_fault fs ≡ none
  opened-none h z = refusal-none fs h (sym w.fault ∙ z)

  -- a fault of the first table is the answer
  pub opened-front : (gs : List Fault) → (o.fault ≡ 0 → ⊥) → Opened o (fs ++ gs) Rs
  opened-front gs d = record { fault = refusal-front fs gs o.fault w.fault d; starts = λ z. absurd (d z) }

  -- where it has none, the second table's is
  pub opened-back : (gs : List Fault) (f : ℕ) → numbered fs ≡ true → o.fault ≡ 0 → f ≡ refusal (first_fault gs) → Opened (record { fault = f; starts = o.starts }) (fs ++ gs) Rs
  opened-back gs f h z e =
      record { fault = e ∙ refusal-back fs gs h (sym w.fault ∙ z); starts = λ _. w.starts z }

-- test's faults are those of so many words as it is lent
pub test_faults-on : (I : Instance) (ws : List ℕ) → test_faults_on I (length ws) ≡ test_faults I ws
unfolding test_faults
test_faults-on I ws = refl

-- ---- The change's own fault

pub ltb-not-leb : (n b : ℕ) → ltb n b ≡ not (leb b n)
ltb-not-leb n b = go (ltb n b) refl
  where
    go : (x : Bool) → ltb n b ≡ x → x ≡ not (leb b n)
    go true e = sym (ap not (lt-leb b n (ltb-true n b e)))
    go false e = sym (ap not (le-leb b n (ltb-false n b e)))

module _ (N : Network) (ids : List ℕ) (r : Ids) (lists : IdsOf r ids) where
  -- fault 13 by the least number above all ids
  pub ids-refusal : (tuples : ℕ) → tuples ≡ total N → ids_refusal tuples r.bound ≡ refusal (first_fault (change_faults N (withdraw ids)))
  ids-refusal tuples e =
      ap (λ (b : Bool). refusal (first_fault ((13, b) ∷ []))) (ltb-not-leb tuples r.bound ∙ ap not (lists.highest tuples))
      ∙ ap (λ (n : ℕ). refusal (first_fault ((13, not (below n ids)) ∷ []))) e

  -- without it the words hold those that withdraw removes
  pub ids-held : (tuples : ℕ) → ids_refusal tuples r.bound ≡ 0 → Holds r.words (λ (g : ℕ). ltb g tuples && removes N (withdraw ids) g)
  ids-held tuples e =
      let f : Fault = (13, ltb tuples r.bound) in
      let few = ltb-false tuples r.bound (no-fault-here f [] (refusal-none (f ∷ []) refl e)) in
      withdraw-holds N tuples ids r.words (sym (lists.highest tuples) ∙ le-leb r.bound tuples few) lists.held

pub variable-refusal : (N : Network) (x v : ℕ) → variable_refusal x ≡ refusal (first_fault (change_faults N (choose x v)))
variable-refusal N x v = refl

-- ---- A call without fault

module _ (S : Shape) (variables values : List ℕ) (m : ℕ) (members : List ℕ) (words : ℕ) (o : Opening) (z : o.fault ≡ 0) where
  abbrev I : Instance
  I = instance_of S variables values m members

  -- the lists with the starts found
  abbrev pub asked : Setting
  asked = record { lists = record { variables = variables; values = values; starts = o.starts }; members = members; m = m }

  -- of test
  module _ (w : Opened o (test_faults_on I words) (relations_of S)) where
    none_found : first_fault (test_faults_on I words) ≡ none
    none_found = opened-none o (test_faults_on I words) (relations_of S) w refl z

    instance-sound : first_fault (instance_faults I) ≡ none
    instance-sound = first_fault-front (instance_faults I) (words_fault I.network words ∷ []) none_found

    network-sound : first_fault (network_faults I.network) ≡ none
    network-sound = first_fault-front (network_faults I.network) (combination_faults I) instance-sound

    pub tested-instance : instance_in asked ≡ I
    tested-instance = opened-instance S variables values o.starts (w.starts z) network-sound m members

    pub tested-sound : Sound asked
    tested-sound =
        opened-sound S variables values o.starts (w.starts z) network-sound m members (first_fault-back (network_faults I.network) (combination_faults I) instance-sound)

    -- there is a live bit for each tuple
    pub tested-enough : total (network asked) ≤ word_bits * words
    tested-enough =
        let N = I.network in
        let few = ltb-false (words * word_bits) (total N) (no-fault-here (words_fault N words) [] (first_fault-back (instance_faults I) (words_fault N words ∷ []) none_found)) in
        subst (λ (J : Instance). total J.network ≤ word_bits * words) (sym tested-instance) (omega arith)

  -- of a change call, which has what test has
  module _ (numbers : ℕ) (w : Opened o (list_faults I words numbers) (relations_of S)) where
    no-fault : first_fault (test_faults_on I words ++ (supports_fault I numbers ∷ [])) ≡ none
    unfolding list_faults
    no-fault = opened-none o (list_faults I words numbers) (relations_of S) w refl z

    pub checked-tested : Opened o (test_faults_on I words) (relations_of S)
    checked-tested =
        record { fault = z ∙ sym (ap refusal (first_fault-front (test_faults_on I words) (supports_fault I numbers ∷ []) no-fault)); starts = w.starts }

    -- the supports need no more numbers than are allowed, or lent
    pub checked-needed : (needed (network asked) (listed asked) ≤ max_support_numbers) × (needed (network asked) (listed asked) ≤ numbers)
    checked-needed =
        let k = needed I.network (combinations_of I) in
        let none-many = no-fault-here (supports_fault I numbers) [] (first_fault-back (test_faults_on I words) (supports_fault I numbers ∷ []) no-fault) in
        subst (λ (J : Instance). (needed J.network (combinations_of J) ≤ max_support_numbers) × (needed J.network (combinations_of J) ≤ numbers)) (sym (tested-instance checked-tested))
        (ltb-false max_support_numbers k (or-false-left (ltb max_support_numbers k) (ltb numbers k) none-many), ltb-false numbers k (or-false-right (ltb max_support_numbers k) (ltb numbers k) none-many))

-- ---- The counts checked too

module _ (S : Shape) (variables values : List ℕ) (m : ℕ) (members : List ℕ) (words : ℕ) (o : Opening) (numbers : ℕ) (w : Opened o (list_faults (instance_of S variables values m members) words numbers) (relations_of S)) where
  -- what they ask
  pub listed-covered : o.fault ≡ 0 → (ws : List ℕ) → words ≤ length ws → Covered o.starts ws
  listed-covered z ws long =
      let tested = checked-tested S variables values m members words o z numbers w in
      record {
        framed = (tested-sound S variables values m members words o z tested).laid.framed;
        enough = omega (arith, tested-enough S variables values m members words o z tested);
      }

  -- what they give
  pub counted-opened : (ws counts : List ℕ) (n : Opening) → CountsChecked o ws counts n → Opens n S variables values m members words numbers (untrue (network_of S variables values) ws counts)
  unfolding faults_on
  counted-opened ws counts n c = go (ℕ_discrete o.fault 0)
    where
      N : Network
      N = network_of S variables values

      fs : List Fault
      fs = list_faults (instance_of S variables values m members) words numbers

      go : Dec (o.fault ≡ 0) → Opened n (fs ++ ((18, untrue N ws counts) ∷ [])) (relations_of S)
      go (yes z) =
          let tested = checked-tested S variables values m members words o z numbers w in
          let same : untrue (outline o.starts) ws counts ≡ untrue N ws counts = untrue-outline (asked S variables values m members words o z).lists ws counts ∙ ap (λ (J : Instance). untrue J.network ws counts) (tested-instance S variables values m members words o z tested) in
          let b = opened-back o fs (relations_of S) w ((18, untrue N ws counts) ∷ []) n.fault (numbered-lists (instance_of S variables values m members) words numbers) z (c.none z ∙ ap (λ (x : Bool). refusal (first_fault ((18, x) ∷ []))) same) in
          record { fault = b.fault; starts = λ y. c.starts ∙ b.starts y }
      go (no d) =
          let f = opened-front o fs (relations_of S) w ((18, untrue N ws counts) ∷ []) d in
          record { fault = c.faulty d ∙ f.fault; starts = λ y. absurd (d (sym (c.faulty d) ∙ y)) }
