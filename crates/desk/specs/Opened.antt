-- A text read into lists of 16-bit numbers, but for the codes.
use Rattle.std.specs.Prelude.{◌≡◌, List, ℕ, ◌≤◌, length}
use Rattle.model.specs.Reading.{read}
use Rattle.reading.specs.declared.Book.{Book}
use Rattle.reading.specs.Book.{found}

-- The instance that the text gives stands at the front of the lists.
pub record Opened (text : List ℕ) (b : Book) (variables values members : List ℕ) : Type 0 where
  pub is_read : found b variables values members ≡ read text
  pub variables-within : b.variables ≤ length variables
  pub values-within : b.values ≤ length values
  pub members-within : b.members ≤ length members
