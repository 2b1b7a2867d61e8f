-- The columns passed are laid out, and the next one's place is within the index.
use Rattle.std.proofs.Common.{◌≤◌}
use Rattle.value_index.specs.Plan.{plan_words, index_words}
use Rattle.value_index.specs.Index.{Full}
use Rattle.value_index.specs.Planning.{LaysRelation}
use Rattle.value_index.proofs.plan.lay_relation.Given as goal

abbrev pub invariant-loop-c : goal.invariant-loop-c
invariant-loop-c l = record {
  full : Full l.index;
  behind : plan_words ≤ l.start;
  within : l.start ≤ index_words;
  laid : LaysRelation l.size l.r l.c l.initial.index l.index;
}
