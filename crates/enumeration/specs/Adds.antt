-- A list that combinations are added to, of m members each and end to end, as far as there may be so many.
use Rattle.std.specs.Prelude.{◌≡◌, List, ◌++◌, ℕ, ◌+◌, ◌*◌, ◌≤◌, ◌<◌, length, take}
use Rattle.model.specs.Limits.{max_combinations}
use Rattle.model.specs.Combination.{Combination}
use Rattle.model.specs.Enumeration.{end_to_end}

-- The list began with `found` combinations and now begins with n, those added behind them; or they are over 256, and so is n.
pub record Adds (m : ℕ) (added : List Combination) (found : ℕ) (before : List ℕ) (n : ℕ) (after : List ℕ) : Type 0 where
  pub over : max_combinations < n → max_combinations < found + length added
  pub counted : n ≤ max_combinations → n ≡ found + length added
  pub listed : n ≤ max_combinations → take (n * m) after ≡ take (found * m) before ++ end_to_end added
  pub long : length after ≡ length before
