-- R(*,m)C: relational m-wise consistency over the listed combinations, what filtering leaves, and the support list.
use Rattle.std.specs.Prelude.{Bool, not, ◌||◌, List, map, ℕ, ◌*◌, length, take}
use Rattle.model.specs.Lists.{from, sum, all, any, elem, each}
use Rattle.model.specs.TupleSet.{TupleSet, has, Rule, closure}
use Rattle.model.specs.Network.{Network, size, ids_of, relation_of}
use Rattle.model.specs.Combination.{Combination}
use Rattle.model.specs.Support.{candidates, is_support, first_support}

-- tuple g has a support in every combination that holds its relation
unfoldable pub supported : Network → List Combination → Rule
supported N cs S g = all (λ (c : Combination). not (elem (relation_of N g) c) || any (is_support N S g) (candidates N c)) cs

-- S is consistent (document 01: the marks are settled): every live tuple is supported
unfoldable pub is_consistent : Network → List Combination → TupleSet → Bool
is_consistent N cs S = all (λ (g : ℕ). not (has S g) || supported N cs S g) (from 0 (length S))

-- what filtering leaves of S: its largest consistent subset
unfoldable pub filtered : Network → List Combination → TupleSet → TupleSet
filtered N cs S = closure (supported N cs) S

-- the first supports by combination, member and tuple of that member, each as long as the combination
unfoldable pub support_list : Network → List Combination → TupleSet → List ℕ
support_list N cs S = each (λ (c : Combination). each (λ (r : ℕ). each (first_support N S c) (ids_of N r)) c) cs

-- how many numbers that is
unfoldable pub needed : Network → List Combination → ℕ
needed N cs = sum (map (λ (c : Combination). sum (map (size N) c) * length c) cs)

-- where the numbers of pair p begin: behind those of the pairs before it, m numbers for each tuple of a member
unfoldable pub support_start : Network → ℕ → List ℕ → ℕ → ℕ
support_start N m list p = sum (map (size N) (take p list)) * m
