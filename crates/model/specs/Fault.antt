-- The faults of each call, in checking order (document 01: refused requests).
use Rattle.std.specs.Prelude.{Bool, not, ◌&&◌, ◌||◌, cond, List, [], ◌∷◌, ◌++◌, map, ℕ, ◌*◌, ◌/◌, ◌%◌, leb, ltb, eqb, length}
use Rattle.std.proofs.Math.Option.{Option, none, some}
use Rattle.model.specs.declared.Relation.{Relation}
use Rattle.model.specs.Limits.{max_relations, max_width, max_tuples, variable_count, min_members, max_members, max_combinations, max_support_numbers, word_bits}
use Rattle.model.specs.Lists.{from, sum, all, pairwise, equal, is_none}
use Rattle.model.specs.Network.{Network, total, variables_in, values_in, scope_of}
use Rattle.model.specs.Combination.{Combination, connected}
use Rattle.model.specs.LiveCounts.{live_counts}
use Rattle.model.specs.Consistency.{needed}
use Rattle.model.specs.LiveWords.{living}
use Rattle.model.specs.Request.{Change, filter, withdraw, choose, choose_several, Instance, combinations_of, Request}

-- the refusal numbers of the change calls, but for number 1 at the C boundary
abbrev pub published : ℕ → Bool
published n = leb 2 n && leb n 14 || (eqb n 18 || eqb n 19)

-- A refusal number, and whether the request has that fault.
abbrev pub Fault : Type 0
Fault = ℕ × Bool

-- the number of the first fault that the request has
abbrev pub first_fault : List Fault → Option ℕ
first_fault [] = none
first_fault (f ∷ fs) = cond f.1 (some f.0) (first_fault fs)

-- a refusal number as code answers it: 0 where there is none
abbrev pub refusal : Option ℕ → ℕ
refusal none = 0
refusal (some f) = f

abbrev pub within : ℕ → ℕ → ℕ → Bool
within low high n = leb low n && leb n high

-- the record's width is one of those allowed
abbrev pub proper_width : Relation → Bool
proper_width R = within 1 max_width R.width

abbrev pub different : ℕ → ℕ → Bool
different x y = not (eqb x y)

-- every number listed is a variable
abbrev pub all_variables : List ℕ → Bool
all_variables xs = all (λ (x : ℕ). ltb x variable_count) xs

-- a scope's variables are all below 64, and none stands twice
abbrev pub proper_scope : List ℕ → Bool
proper_scope xs = all_variables xs && pairwise different xs

-- the lists of variables and values are as long as the records call for
abbrev pub proper_lengths : Network → Bool
proper_lengths N =
    eqb (length N.variables) (sum (map variables_in N.relations))
    && eqb (length N.values) (sum (map values_in N.relations))

abbrev pub network_faults : Network → List Fault
network_faults N =
    (2, not (within 1 max_relations (length N.relations)))
    ∷ (3, not (all proper_width N.relations))
    ∷ (4, ltb max_tuples (total N))
    ∷ (5, not (proper_lengths N))
    ∷ (6, not (all (λ (r : ℕ). proper_scope (scope_of N r)) (from 0 (length N.relations))))
    ∷ []

-- the list holds whole combinations, not too many
abbrev pub proper_list : ℕ → List ℕ → Bool
proper_list m members = eqb (length members % m) 0 && leb (length members / m) max_combinations

-- every member exists, and the members rise
abbrev pub proper_members : Network → Combination → Bool
proper_members N c = all (λ (r : ℕ). ltb r (length N.relations)) c && pairwise ltb c

abbrev pub combination_faults : Instance → List Fault
combination_faults I =
    (7, not (within min_members max_members I.m))
    ∷ (8, not (proper_list I.m I.members))
    ∷ (9, not (all (proper_members I.network) (combinations_of I)))
    ∷ (10, not (all (connected I.network) (combinations_of I)))
    ∷ []

-- the faults 2 to 10
abbrev pub instance_faults : Instance → List Fault
instance_faults I = network_faults I.network ++ combination_faults I

-- n live words are too few
abbrev pub words_fault : Network → ℕ → Fault
words_fault N n = (11, ltb (n * word_bits) (total N))

-- the supports need too many numbers, or more than the n lent
abbrev pub supports_fault : Instance → ℕ → Fault
supports_fault I n =
    let k = needed I.network (combinations_of I) in
    (12, ltb max_support_numbers k || ltb n k)

-- an id given is not below the total
abbrev pub ids_fault : Network → List ℕ → Fault
ids_fault N ids = (13, not (all (λ (g : ℕ). ltb g (total N)) ids))

abbrev pub change_faults : Network → Change → List Fault
change_faults N filter = []
change_faults N (withdraw ids) = ids_fault N ids ∷ []
change_faults N (choose x v) = (14, not (ltb x variable_count)) ∷ []
change_faults N (choose_several xs vs) = (19, not (eqb (length xs) (length vs))) ∷ (14, not (all_variables xs)) ∷ []

-- the counts are not those of the live tuples (card 6)
unfoldable pub untrue : Network → List ℕ → List ℕ → Bool
untrue N words counts = not (equal counts (live_counts N (living (total N) words)))

-- the faults 2 to 12, on so many words and support numbers
unfoldable pub list_faults : Instance → ℕ → ℕ → List Fault
list_faults I words numbers = instance_faults I ++ (words_fault I.network words ∷ supports_fault I numbers ∷ [])

-- of the change calls, on so many words and support numbers, with counts that are untrue or not
unfoldable pub faults_on : Instance → ℕ → ℕ → Bool → Change → List Fault
faults_on I words numbers wrong change =
    list_faults I words numbers ++ ((18, wrong) ∷ change_faults I.network change)

unfoldable pub faults : Request → List Fault
faults q =
    faults_on q.given (length q.words) (length q.supports) (untrue q.given.network q.words q.counts) q.change

-- of test
unfoldable pub test_faults : Instance → List ℕ → List Fault
test_faults I ws = instance_faults I ++ (words_fault I.network (length ws) ∷ [])

-- of compare
unfoldable pub compare_faults : Network → ℕ → ℕ → List Fault
compare_faults N g h = network_faults N ++ (ids_fault N (g ∷ h ∷ []) ∷ [])

-- the request has no fault
unfoldable pub accepts : Request → Bool
accepts q = is_none (first_fault (faults q))
