-- r relations are read, and the others decide.
use Rattle.std.proofs.Common.{◌≡◌, List, ℕ, ◌+◌, ◌-◌, ◌*◌, ◌≤◌, ◌<◌, length, take, drop}
use Rattle.model.specs.Limits.{max_relations, max_width, max_tuples}
use Rattle.model.specs.Edges.{max_values}
use Rattle.model.specs.Network.{Network}
use Rattle.model.specs.Reading.{read_relations}
use Rattle.layout.specs.declared.Shape.{Shape}
use Rattle.layout.specs.Shape.{network_of}
use Rattle.reading.specs.Parts.{map_read, append, IsBlankBehind}
use Rattle.reading.proofs.relations.relations_at.Given as goal

abbrev pub front : Shape → ℕ → Shape
front shape r = record { count = r; widths = shape.widths; tuples = shape.tuples }

-- the relations that stand in the lists
abbrev pub standing : List ℕ → List ℕ → Shape → ℕ → ℕ → ℕ → Network
standing variables values shape variable value r = network_of (front shape r) (take variable variables) (take value values)

abbrev pub invariant-loop-r : goal.invariant-loop-r
invariant-loop-r l = record {
  placed : 0 < l.from;
  widths : length l.shape.widths ≡ max_relations;
  tuples : length l.shape.tuples ≡ max_relations;
  narrow : l.variable ≤ max_width * l.r;
  few : l.value + max_width * l.room ≤ max_values;
  counted : l.shape.count ≡ l.count;
  read : map_read (append (standing l.variables l.values l.shape l.variable l.value l.r)) (read_relations (l.count - l.r) l.room (drop l.from l.text)) ≡ read_relations l.count max_tuples (drop l.at l.text);
  blank : IsBlankBehind (front l.shape l.r);
  variables_kept : drop l.variable l.variables ≡ drop l.variable l.initial.variables;
  values_kept : drop l.value l.values ≡ drop l.value l.initial.values;
}
