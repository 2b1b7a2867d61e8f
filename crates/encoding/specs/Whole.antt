-- Lists of bytes that are whole numbers of entries, told by their lengths.
use Rattle.std.specs.Prelude.{Bool, ◌&&◌, ℕ, ◌%◌, eqb}

-- n bytes are a whole number of entries of k bytes
abbrev pub whole : ℕ → ℕ → Bool
whole k n = eqb (n % k) 0

-- variables and values
abbrev pub whole_cells : ℕ → ℕ → Bool
whole_cells questions codes = whole 2 questions && whole 4 codes

-- .. and relation records
abbrev pub whole_network : ℕ → ℕ → ℕ → Bool
whole_network sheets questions codes = whole 6 sheets && whole_cells questions codes

-- .. and members of combinations
abbrev pub whole_instance : ℕ → ℕ → ℕ → ℕ → Bool
whole_instance sheets questions codes combinations = whole_network sheets questions codes && whole 2 combinations

-- .. and live words and support numbers
abbrev pub whole_change : ℕ → ℕ → ℕ → ℕ → ℕ → ℕ → Bool
whole_change sheets questions codes combinations marks supports =
    whole_instance sheets questions codes combinations && (whole 8 marks && whole 2 supports)
