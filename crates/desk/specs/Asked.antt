-- The combinations program's input: a line with m, and then a text.
use Rattle.std.proofs.Math.Option.{none, some}
use Rattle.std.specs.Prelude.{List, [], ◌∷◌, ℕ}
use Rattle.model.specs.Text.{max_field, newline, text_of}
use Rattle.model.specs.Reading.{Read, read_field}
use Rattle.model.specs.Listing.{refused_line, combination_listing}

-- without such a line it is refused, as a text is that is not in the form
abbrev pub asked_for : Read ℕ → List ℕ
asked_for none = text_of (refused_line ∷ [])
asked_for (some r) = combination_listing r.0 r.1

-- The combinations program's output for its input.
unfoldable pub asked_listing : List ℕ → List ℕ
asked_listing input = asked_for (read_field max_field newline input)
