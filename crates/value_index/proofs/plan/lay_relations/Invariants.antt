-- The relations passed are laid out.
use Rattle.value_index.specs.Index.{Full}
use Rattle.value_index.specs.Planning.{LaysRelations}
use Rattle.value_index.proofs.plan.lay_relations.Given as goal

abbrev pub invariant-loop-r : goal.invariant-loop-r
invariant-loop-r l = record { full : Full l.index; laid : LaysRelations l.size l.r l.initial.index l.index }
