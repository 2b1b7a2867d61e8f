-- Relation records as bytes.
use Rattle.std.specs.Prelude.{List, [], ◌∷◌, ◌++◌, map, ℕ, ◌+◌, ◌*◌, ◌/◌, length, take, drop}
use Rattle.model.specs.declared.Relation.{Relation}
use Rattle.model.specs.Lists.{from}
use Rattle.wire.specs.Entries.{bytes_of, entry_at}

-- record number r: its width, and then its number of tuples
abbrev pub record_in : List ℕ → ℕ → Relation
record_in bs r = record { width = entry_at 2 bs (3 * r); tuples = entry_at 2 bs (3 * r + 1) }

-- all records, six bytes each (document 01: sheet records)
unfoldable pub records : List ℕ → List Relation
records bs = map (record_in bs) (from 0 (length bs / 6))

-- the live count of each, behind its number of tuples (card 6)
unfoldable pub counts_in : List ℕ → List ℕ
counts_in bs = map (λ (r : ℕ). entry_at 2 bs (3 * r + 2)) (from 0 (length bs / 6))

-- the records with these counts; every other byte as it was
abbrev pub with_counts : List ℕ → List ℕ → List ℕ
with_counts bs [] = bs
with_counts bs (n ∷ counts) = take 4 bs ++ bytes_of 2 n ++ with_counts (drop 6 bs) counts
