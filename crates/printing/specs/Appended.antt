-- A text written into a buffer behind the bytes at its front.
use Rattle.std.specs.Prelude.{◌≡◌, List, ◌++◌, ℕ, ◌≤◌, length, take, drop}

-- The first n bytes of the buffer `after` are the first `at` bytes of `before`, and then the text; from n on it is as before.
pub record Appended (text before : List ℕ) (at : ℕ) (after : List ℕ) (n : ℕ) : Type 0 where
  pub long : length after ≡ length before
  pub fits : n ≤ length after
  pub front : take n after ≡ take at before ++ text
  pub rest : drop n after ≡ drop n before
