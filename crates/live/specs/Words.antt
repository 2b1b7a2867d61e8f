-- Arrays of 64 live words.
use Rattle.std.specs.Prelude.{◌≡◌, List, ℕ, ◌^◌, ◌≤◌, ◌<◌, length, get_or}

-- every word is a number of 64 bits
abbrev pub Small : List ℕ → Type 0
Small ws = (i : ℕ) → i < length ws → get_or ws i 0 < 2 ^ 64

-- The words of 4,096 ids.
pub record WordArray (ws : List ℕ) : Type 0 where
  pub long : length ws ≡ 64
  pub small : Small ws

-- The array holds the first n of the words, and noughts behind them.
pub record Copied (n : ℕ) (words array : List ℕ) : Type 0 where
  pub long : length array ≡ 64
  pub same : (i : ℕ) → i < n → get_or array i 0 ≡ get_or words i 0
  pub none : (i : ℕ) → n ≤ i → i < 64 → get_or array i 0 ≡ 0
