-- The tuples passed are entered, and p is where the next one's value stands.
use Rattle.std.proofs.Common.{◌≡◌, ◌+◌, ◌-◌, ◌*◌}
use Rattle.value_index.specs.Index.{Full, Grows, EntersColumn}
use Rattle.value_index.proofs.enter_column.Given as goal

abbrev pub invariant-loop-g : goal.invariant-loop-g
invariant-loop-g l = record {
  place : l.p ≡ l.at + (l.g - l.first) * l.width + l.c;
  full : Full l.index;
  grown : Grows l.initial.index l.index;
  entered : EntersColumn l.values l.at l.width l.c l.start l.first l.g l.index;
}
