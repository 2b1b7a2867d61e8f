-- The live ids of one array gathered in another.
use Rattle.std.specs.Prelude.{◌≡◌, Bool, true, List, ℕ, ◌+◌, ◌≤◌, ◌<◌}
use Rattle.model.specs.Network.{Network, size, first_id}
use Rattle.model.specs.Agreement.{agree}
use Rattle.model.specs.LiveWords.{is_live}
use Rattle.narrowing.specs.Narrows.{Long}

-- Every id that was live is, and so is one from start on and below end that is live in the words and passes the test.
pub record Joins (passes : ℕ → Bool) (start end : ℕ) (words before after : List ℕ) : Type 0 where
  pub long : Long after
  pub keeps : (g : ℕ) → is_live before g ≡ true → is_live after g ≡ true
  pub adds : (g : ℕ) → start ≤ g → g < end → is_live words g ≡ true → passes g ≡ true → is_live after g ≡ true

-- Of relation s, the tuples that were live are, and so are those of the words that agree with tuple x of relation r.
pub record Gathers (N : Network) (r x s : ℕ) (words before after : List ℕ) : Type 0 where
  pub keeps : (z : ℕ) → z < size N s → is_live before (first_id N s + z) ≡ true → is_live after (first_id N s + z) ≡ true
  pub adds : (z : ℕ) → z < size N s → agree N (first_id N r + x) (first_id N s + z) ≡ true → is_live words (first_id N s + z) ≡ true → is_live after (first_id N s + z) ≡ true
