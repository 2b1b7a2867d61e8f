-- Supports of a tuple in a combination, in the papers' order.
use Rattle.std.specs.Prelude.{◌≡◌, Bool, true, not, ◌&&◌, ℕ, ◌<◌, length, get_or, replicate}
use Rattle.std.proofs.Math.Option.{Option}
use mathlib.Core.List.{List, ◌++◌, map, head?, Memᴰ}
use Rattle.model.specs.Limits.{no_support}
use Rattle.model.specs.Lists.{all, elem, select, first_or, pairwise, choices, earlier}
use Rattle.model.specs.TupleSet.{TupleSet, has}
use Rattle.model.specs.Network.{Network, ids_of, index_of}
use Rattle.model.specs.Agreement.{agree}
use Rattle.model.specs.Combination.{Combination}

-- one tuple of each member, by id: ordered by the first member's index, then by the second's, and so on
unfoldable pub candidates : Network → Combination → List (List ℕ)
candidates N c = choices (map (ids_of N) c)

-- t is a support of tuple g while S lives: g is in it, all of it lives, every two of it agree
unfoldable pub is_support : Network → TupleSet → ℕ → List ℕ → Bool
is_support N S g t = elem g t && all (has S) t && pairwise (agree N) t

-- the supports of tuple g in combination c
unfoldable pub supports : Network → TupleSet → Combination → ℕ → List (List ℕ)
supports N S c g = select (is_support N S g) (candidates N c)

-- the indices of the first support, one for each member; 65,535 for each where there is none
unfoldable pub first_support : Network → TupleSet → Combination → ℕ → List ℕ
first_support N S c g = first_or (replicate (length c) no_support) (map (map (index_of N)) (supports N S c g))

-- Partners of tuple g of the member at place j, while S lives: a live tuple of each other member, so that every two of all agree.
-- Whether g lives does not matter.
pub record Partners (N : Network) (S : TupleSet) (c : Combination) (j g : ℕ) : Type 0 where
  pub tuples : List ℕ
  pub candidate : Memᴰ tuples (candidates N c)
  pub own : get_or tuples j 0 ≡ g
  pub living : (i : ℕ) → i < length c → (i ≡ j → ⊥) → has S (get_or tuples i 0) ≡ true
  pub agreeing : pairwise (agree N) tuples ≡ true

-- ---- From a place in the order

-- the first of the candidates ts that is a support of tuple g and not earlier than low, by the indices of its tuples
unfoldable pub first_among : Network → TupleSet → ℕ → List ℕ → List (List ℕ) → Option (List ℕ)
first_among N S g low ts = head? (select (λ (is : List ℕ). not (earlier is low)) (map (map (index_of N)) (select (is_support N S g) ts)))

-- the first support of tuple g in combination c at or after low
unfoldable pub support_from : Network → TupleSet → Combination → ℕ → List ℕ → Option (List ℕ)
support_from N S c g low = first_among N S g low (candidates N c)

-- the first that begins with the tuples ch and goes on with one tuple of each list of xss
unfoldable pub completion : Network → TupleSet → ℕ → List ℕ → List ℕ → List (List ℕ) → Option (List ℕ)
completion N S g low ch xss = first_among N S g low (map (λ (t : List ℕ). ch ++ t) (choices xss))
