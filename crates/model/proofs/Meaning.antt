-- A reply depends on the values only through agreement and removal: two lists of as many values over the same relations and variables,
-- with the same agreement and the same tuples removed, get the same reply.
-- From the definitions alone.
use mathlib.Core.Path.{◌≡◌, refl, sym, ◌∙◌, ap, ap₂}
use mathlib.Core.Bool.{Bool, not, ◌&&◌, ◌||◌}
use mathlib.Core.Option.{Option, none, some}
use mathlib.Core.List.{List, [], ◌∷◌, ◌++◌, map}
use Prim.Native.Nat.{ℕ, ◌-◌}
use lib.Dec.{eqb, ltb}
use lib.ListN.{length, drop, replicate}
use Rattle.model.specs.declared.Counts.{Counts}
use Rattle.model.specs.Limits.{max_relations, max_tuples, no_support}
use Rattle.model.specs.Lists.{from, sum, all, any, elem, select, first_or, each, pairwise}
use Rattle.model.specs.TupleSet.{TupleSet, has, count, restrict, without, closure}
use Rattle.model.specs.Network.{Network, total, variables_in, values_in, ids_of, relation_of, index_of, scope_of}
use Rattle.model.specs.Agreement.{agree, share}
use Rattle.model.specs.Combination.{Combination, connected}
use Rattle.model.specs.Support.{candidates, is_support, supports, first_support}
use Rattle.model.specs.LiveCounts.{live_counts}
use Rattle.model.specs.Consistency.{supported, filtered, support_list, needed}
use Rattle.model.specs.LiveWords.{living, written}
use Rattle.model.specs.Request.{Change, filter, withdraw, choose, choose_several, Instance, combinations_of, removes}
use Rattle.model.specs.Fault.{Fault, within, proper_width, proper_scope, network_faults, combination_faults, words_fault, supports_fault, change_faults, untrue, list_faults, faults_on, faults, first_fault}
use Rattle.model.specs.Reply.{Reply, answer_numbers, lowest_empty, answer_for, remainder, counts_for, leaving, accepted, reply_to, reply, request}
use Rattle.model.specs.Moves.{with_values}

-- the faults 2 to 6 look at the number of values alone
module _ (N : Network) where
  abbrev faults_with : ℕ → List Fault
  faults_with n =
      (2, not (within 1 max_relations (length N.relations)))
      ∷ (3, not (all proper_width N.relations))
      ∷ (4, ltb max_tuples (total N))
      ∷ (5, not (eqb (length N.variables) (sum (map variables_in N.relations)) && eqb n (sum (map values_in N.relations))))
      ∷ (6, not (all (λ (r : ℕ). proper_scope (scope_of N r)) (from 0 (length N.relations))))
      ∷ []

  pub network_faults-values : (us vs : List ℕ) → length us ≡ length vs → network_faults (with_values N us) ≡ network_faults (with_values N vs)
  unfolding scope_of
  network_faults-values us vs e = ap faults_with e

  -- and those of a change at none
  change_faults-values : (vs : List ℕ) (change : Change) → change_faults (with_values N vs) change ≡ change_faults N change
  change_faults-values vs filter = refl
  change_faults-values vs (withdraw ids) = refl
  change_faults-values vs (choose x v) = refl
  change_faults-values vs (choose_several xs us) = refl

module _ (N : Network) (us vs : List ℕ) (same : (g h : ℕ) → agree (with_values N us) g h ≡ agree (with_values N vs) g h) where
  abbrev A : Network
  A = with_values N us

  abbrev B : Network
  B = with_values N vs

  agree_same : agree A ≡ agree B
  agree_same = λ i g h. same g h i

  is_support-same : is_support A ≡ is_support B
  unfolding is_support
  is_support-same = λ i S g t. elem g t && all (has S) t && pairwise (agree_same i) t

  supported-same : supported A ≡ supported B
  unfolding supported candidates relation_of
  supported-same = λ i cs S g. all (λ (c : Combination). not (elem (relation_of N g) c) || any (is_support-same i S g) (candidates N c)) cs

  pub filtered-same : filtered A ≡ filtered B
  unfolding filtered
  filtered-same = λ i cs S. closure (supported-same i cs) S

  first_support-same : first_support A ≡ first_support B
  unfolding first_support supports candidates index_of relation_of
  first_support-same = λ i S c g. first_or (replicate (length c) no_support) (map (map (index_of N)) (select (is_support-same i S g) (candidates N c)))

  pub support_list-same : support_list A ≡ support_list B
  unfolding support_list
  support_list-same = λ i cs S. each (λ (c : Combination). each (λ (r : ℕ). each (first_support-same i S c) (ids_of N r)) c) cs

  -- ---- The reply

  module _ (long : length us ≡ length vs) (m : ℕ) (members words numbers counts : List ℕ) (change meant : Change) (tests : change_faults N change ≡ change_faults N meant) (removal : (g : ℕ) → removes A change g ≡ removes B meant g) where
    abbrev on : Network → Instance
    on M = record { network = M; m = m; members = members }

    abbrev cs : List Combination
    cs = combinations_of (on N)

    -- the reply that is made of what filters, what is removed and what is listed
    made : (List Combination → TupleSet → TupleSet) → (ℕ → Bool) → (List Combination → TupleSet → List ℕ) → Reply
    made filters gone lists =
        let S = living (total N) words in
        let L = filters cs (without gone S) in
        let k : Counts = record { left = count L; withdrawn = count (restrict gone S); deleted = count (without gone S) - count L } in
        record {
          answer = answer_numbers (answer_for N L k);
          words = written (total N) L words;
          supports = lists cs L ++ drop (needed N cs) numbers;
          counts = live_counts N L;
        }

    removed : removes A change ≡ removes B meant
    removed = λ i g. removal g i

    accepted-same : accepted (request (on A) words numbers counts change) ≡ accepted (request (on B) words numbers counts meant)
    unfolding accepted leaving remainder counts_for answer_for lowest_empty live_counts needed made
    accepted-same =
        ap (λ (f : List Combination → TupleSet → TupleSet). made f (removes A change) (support_list A)) filtered-same
        ∙ ap (λ (p : ℕ → Bool). made (filtered B) p (support_list A)) removed
        ∙ ap (made (filtered B) (removes B meant)) support_list-same

    faults-same : faults (request (on A) words numbers counts change) ≡ faults (request (on B) words numbers counts meant)
    unfolding faults faults_on list_faults untrue live_counts connected share scope_of needed
    faults-same =
        let I = on N in
        ap₂ (λ (fs gs : List Fault). (fs ++ combination_faults I ++ (words_fault N (length words) ∷ supports_fault I (length numbers) ∷ [])) ++ ((18, untrue N words counts) ∷ gs))
        (network_faults-values N us vs long) (change_faults-values N us change ∙ tests ∙ sym (change_faults-values N vs meant))

    by-fault : (o : Option ℕ) → reply_to o (request (on A) words numbers counts change) ≡ reply_to o (request (on B) words numbers counts meant)
    by-fault none = accepted-same
    by-fault (some f) = refl

    pub reply-same : reply (request (on A) words numbers counts change) ≡ reply (request (on B) words numbers counts meant)
    unfolding reply
    reply-same =
        ap (λ (fs : List Fault). reply_to (first_fault fs) (request (on A) words numbers counts change)) faults-same
        ∙ by-fault (first_fault (faults (request (on B) words numbers counts meant)))
