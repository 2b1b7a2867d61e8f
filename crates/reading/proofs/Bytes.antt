-- How a field is read byte by byte at a position of the text.
-- From the definitions of `read_digits` and `read_field`.
use mathlib.Core.Path.{◌≡◌}
use mathlib.Core.Bool.{true, false}
use mathlib.Core.Option.{none}
use mathlib.Core.List.{List}
use Prim.Native.Nat.{ℕ, ◌+◌, ◌-◌, ◌≤◌, ◌<◌}
use native.Mathlib.Numerals.{add-one}
use native.Mathlib.Omega.{arith}
use borrow.Author.Tests.{le-leb, lt-leb}
use lib.ListN.{length, get_or, drop, drop_of_length-le}
use lib.Seq.{drop-cons}
use Rattle.model.specs.Reading.{is_digit, read_digits, read_field}

pub digit_low : (b : ℕ) → b < 48 → is_digit b ≡ false
digit_low b h = simp (lt-leb 48 b h)

pub digit-high : (b : ℕ) → 57 < b → is_digit b ≡ false
digit-high b h = simp (le-leb 48 b (omega arith), lt-leb b 57 h)

pub digit-is : (b : ℕ) → 48 ≤ b → b ≤ 57 → is_digit b ≡ true
digit-is b l h = simp (le-leb 48 b l, le-leb b 57 h)

-- read_field at position i of the text t
module _ (top : ℕ) (t : List ℕ) (end i : ℕ) where
  pub field_past : length t ≤ i → read_field top end (drop i t) ≡ none
  unfolding read_field
  field_past h = rw (drop_of_length-le t {i = i} h)

  pub field-stop : i < length t → is_digit (get_or t i 0) ≡ false → read_field top end (drop i t) ≡ none
  unfolding read_field
  field-stop h e = rw (drop-cons t i 0 h, e)

  pub field-first : i < length t → is_digit (get_or t i 0) ≡ true → read_field top end (drop i t) ≡ read_digits top end (get_or t i 0 - 48) (drop (i + 1) t)
  unfolding read_field
  field-first h d = rw (drop-cons t i 0 h, add-one, d)
