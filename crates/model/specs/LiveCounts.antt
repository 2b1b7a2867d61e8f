-- The live counts of a network's relations (card 6: a sheet's count of its living rows).
use Rattle.std.specs.Prelude.{List, map, ℕ, length}
use Rattle.model.specs.Lists.{from}
use Rattle.model.specs.TupleSet.{TupleSet, has, count}
use Rattle.model.specs.Network.{Network, ids_of}

-- how many tuples of relation r are in S
abbrev pub live_count : Network → TupleSet → ℕ → ℕ
live_count N S r = count (map (has S) (ids_of N r))

-- .. of each relation
unfoldable pub live_counts : Network → TupleSet → List ℕ
live_counts N S = map (live_count N S) (from 0 (length N.relations))
