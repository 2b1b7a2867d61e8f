-- Where the choice of members stands, and what is still to be listed.
use Rattle.std.specs.Prelude.{◌≡◌, List, [], ◌∷◌, ◌++◌, map, ℕ, ◌+◌, ◌-◌, ◌≤◌, ◌<◌, length, take}
use Rattle.model.specs.Limits.{max_relations, max_members, max_combinations}
use Rattle.model.specs.Edges.{max_member_list}
use Rattle.model.specs.Lists.{from, select}
use Rattle.model.specs.Combination.{Combination}
use Rattle.model.specs.LiveWords.{is_set}
use Rattle.enumeration.specs.Reach.{max_sets, Mutual, completions}

-- k members are chosen, the next is to be from i on and below count; there is room for all combinations, of which so many are found.
pub record Choice (k i count : ℕ) (list : List ℕ) (found : ℕ) : Type 0 where
  pub few : k < max_members
  pub low : i ≤ count
  pub relations : count ≤ max_relations
  pub room : length list ≡ max_member_list
  pub under : found ≤ max_combinations

-- .. of m, so that two at least are left to choose
pub record Stage (near sets : List ℕ) (count m k i : ℕ) (list : List ℕ) (found : ℕ) : Type 0 where
  pub both_ways : Mutual near count
  pub sized : length sets ≡ max_sets
  pub two : k + 1 < m
  pub most : m ≤ max_members
  pub choice : Choice k i count list found

-- the first k members with each last one that is in the set
abbrev pub last_extensions : ℕ → List ℕ → ℕ → ℕ → ℕ → List Combination
last_extensions word members k i count = map (λ (r : ℕ). take k members ++ (r ∷ [])) (select (is_set word) (from i (count - i)))

-- the first k members with all that completes them to m
abbrev pub extensions : List ℕ → List ℕ → List ℕ → ℕ → ℕ → ℕ → ℕ → List Combination
extensions near sets members m k i count =
    map (λ (t : List ℕ). take k members ++ t) (completions near (take k sets) (m - k) i count)
