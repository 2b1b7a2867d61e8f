-- The relations of a set, one after the other.
use Rattle.std.specs.Prelude.{◌≡◌, ℕ, ◌+◌, ◌≤◌, ◌<◌, Option, MatchOption}
use Rattle.model.specs.Limits.{max_relations}
use Rattle.enumeration.specs.Reach.{next_in}

-- The relations from `at` on and below count are among those that there may be.
pub record Ordered (at count : ℕ) : Type 0 where
  pub rises : at ≤ count
  pub few : count ≤ max_relations

-- The next relation of the set is taken, and it goes on behind that one; none is taken where none is left.
pub record TakesRelation (set at count : ℕ) (taken : Option ℕ) (set' at' count' : ℕ) : Type 0 where
  pub same_set : set' ≡ set
  pub same_count : count' ≡ count
  pub relation : MatchOption taken (next_in set at count ≡ count) (λ r. (r ≡ next_in set at count) × (r < count) × (at' ≡ r + 1))
