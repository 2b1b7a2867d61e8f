-- The tuples of the relations passed are indexed.
use Rattle.std.proofs.Common.{◌≤◌}
use Rattle.model.specs.Limits.{max_relations}
use Rattle.model.specs.Network.{total}
use Rattle.layout.specs.Setting.{network_in}
use Rattle.value_index.specs.Index.{Laid}
use Rattle.value_index.proofs.Entries.{IndexesBelow}
use Rattle.value_index.proofs.index_all.Given as goal

abbrev pub invariant-loop-r : goal.invariant-loop-r
invariant-loop-r l = record {
  few : l.r-end ≤ max_relations;
  laid : Laid l.index (total (network_in (record { variables = l.variables; values = l.values; starts = l.starts })));
  indexed : IndexesBelow (network_in (record { variables = l.variables; values = l.values; starts = l.starts })) l.r l.index;
}
