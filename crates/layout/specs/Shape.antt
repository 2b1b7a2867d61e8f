-- Relation records taken apart, and the network of them.
use Rattle.std.specs.Prelude.{List, [], ◌∷◌, map, ℕ, zero, suc, length, get_or}
use Rattle.model.specs.declared.Relation.{Relation}
use Rattle.model.specs.Limits.{max_relations}
use Rattle.model.specs.Lists.{from}
use Rattle.model.specs.Network.{Network, variables_in, tuples_in}
use Rattle.model.specs.Request.{Instance}
use Rattle.layout.specs.declared.Shape.{Shape}

-- the first n numbers of a list, and noughts where it is shorter
unfoldable pub padded : ℕ → List ℕ → List ℕ
padded zero xs = []
padded (suc n) [] = 0 ∷ padded n []
padded (suc n) (x ∷ xs) = x ∷ padded n xs

-- the records taken apart: how many there are, and of the first 64 the widths and the tuple counts
unfoldable pub shape_of : List Relation → Shape
shape_of Rs =
    record {
      count = length Rs;
      widths = padded max_relations (map variables_in Rs);
      tuples = padded max_relations (map tuples_in Rs);
    }

-- the record of relation r
abbrev pub record_at : Shape → ℕ → Relation
record_at S r = record { width = get_or S.widths r 0; tuples = get_or S.tuples r 0 }

unfoldable pub relations_of : Shape → List Relation
relations_of S = map (record_at S) (from 0 S.count)

abbrev pub network_of : Shape → List ℕ → List ℕ → Network
network_of S variables values = record { relations = relations_of S; variables = variables; values = values }

-- .. with its combinations
abbrev pub instance_of : Shape → List ℕ → List ℕ → ℕ → List ℕ → Instance
instance_of S variables values m members = record { network = network_of S variables values; m = m; members = members }
