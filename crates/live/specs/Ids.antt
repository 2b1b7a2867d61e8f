-- The live ids of a list of words, one after the other.
use Rattle.std.specs.Prelude.{◌≡◌, List, ℕ, ◌+◌, ◌*◌, ◌≤◌, ◌<◌, length, Option, MatchOption}
use Rattle.model.specs.LiveWords.{next_live}

-- The ids from `at` on and below `end` are ids of the words, of which there are at most 4,096.
pub record InWords (words : List ℕ) (at end : ℕ) : Type 0 where
  pub rises : at ≤ end
  pub long : end ≤ 64 * length words
  pub few : end ≤ 4096

-- The next live id is taken, and the ids go on behind it; none is taken where no live one is left.
pub record TakesLive (words : List ℕ) (at end : ℕ) (taken : Option ℕ) (words' : List ℕ) (at' end' : ℕ) : Type 0 where
  pub same_words : words' ≡ words
  pub same_end : end' ≡ end
  pub id : MatchOption taken (next_live words at end ≡ end) (λ g. (g ≡ next_live words at end) × (g < end) × (at' ≡ g + 1))
