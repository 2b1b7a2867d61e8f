-- The support list once every dead tuple's numbers are 65,535.
use Rattle.std.specs.Prelude.{◌≡◌, cond, List, ℕ, ◌+◌, ◌-◌, ◌*◌, ◌≤◌, ◌<◌, length, take, drop, replicate}
use Rattle.model.specs.Limits.{no_support, max_members, word_bits}
use Rattle.model.specs.Network.{Network, size, total, first_id}
use Rattle.model.specs.Combination.{combinations, pair_member}
use Rattle.model.specs.Consistency.{needed, support_start}
use Rattle.model.specs.LiveWords.{is_live}
use Rattle.layout.specs.Starts.{outline, SoundStarts}
use Rattle.layout.specs.Setting.{SoundPairs}
use Rattle.worklist.specs.Supports.{PairsBegin}

-- The m numbers at a place are as before where tuple g lives, and 65,535 each where it is dead.
abbrev pub BlankAt : ℕ → ℕ → ℕ → List ℕ → List ℕ → List ℕ → Type 0
BlankAt m at g words numbers numbers' = take m (drop at numbers') ≡ cond (is_live words g) (take m (drop at numbers)) (replicate m no_support)

-- The same of n tuples, with ids from g on, whose numbers lie one behind the other from a place on; nothing else changes.
pub record Blank (m at g n : ℕ) (words numbers numbers' : List ℕ) : Type 0 where
  pub long : length numbers' ≡ length numbers
  pub before : take at numbers' ≡ take at numbers
  pub after : drop (at + n * m) numbers' ≡ drop (at + n * m) numbers
  pub at_each : (x : ℕ) → x < n → BlankAt m (at + x * m) (g + x) words numbers numbers'

-- The same of all tuples of the first k pairs; nothing else changes.
pub record Blanked (N : Network) (m : ℕ) (members : List ℕ) (k : ℕ) (words numbers numbers' : List ℕ) : Type 0 where
  pub long : length numbers' ≡ length numbers
  pub after : drop (support_start N m members k) numbers' ≡ drop (support_start N m members k) numbers
  pub at_each : (p x : ℕ) → p < k → x < size N (pair_member members p) → BlankAt m (support_start N m members p + x * m) (first_id N (pair_member members p) + x) words numbers numbers'

-- ---- Contracts

-- The tuples with ids from `first` on and below `end` have their bits, and their numbers, m each from `start` on, are in the list.
pub record BlankAsks (m start first end : ℕ) (words numbers : List ℕ) : Type 0 where
  pub few : m ≤ max_members
  pub rises : first ≤ end
  pub bits : end ≤ word_bits * length words
  pub inside : start + (end - first) * m ≤ length numbers

-- Every tuple has its bit, and the numbers of all pairs are in the list.
pub record BlankAllAsks (starts : List ℕ) (m : ℕ) (members begins words numbers : List ℕ) : Type 0 where
  pub framed : SoundStarts starts
  pub paired : SoundPairs starts m members
  pub places : PairsBegin starts m members begins
  pub enough : total (outline starts) ≤ word_bits * length words
  pub room : needed (outline starts) (combinations m members) ≤ length numbers
