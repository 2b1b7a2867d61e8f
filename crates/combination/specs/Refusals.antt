-- The numbers of the faults 11 and 12, or 0, from how many tuples, words and support numbers there are.
use Rattle.std.specs.Prelude.{◌||◌, [], ◌∷◌, ℕ, ◌*◌, ltb}
use Rattle.model.specs.Limits.{max_support_numbers, word_bits}
use Rattle.model.specs.Fault.{first_fault, refusal}

-- so many words are too few for so many tuples
abbrev pub words_refusal : ℕ → ℕ → ℕ
words_refusal tuples words = refusal (first_fault ((11, ltb (words * word_bits) tuples) ∷ []))

-- the supports need count numbers: too many, or more than the numbers lent
abbrev pub supports_refusal : ℕ → ℕ → ℕ
supports_refusal count numbers = refusal (first_fault ((12, ltb max_support_numbers count || ltb numbers count) ∷ []))
