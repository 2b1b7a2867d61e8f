-- The ids of the row of any are in the rows passed, and no bit is lost.
use Rattle.std.proofs.Common.{◌*◌}
use Rattle.value_index.specs.Index.{Full, Grows}
use Rattle.value_index.proofs.Spread.{SpreadsRows}
use Rattle.value_index.proofs.any.spread_any.Given as goal

abbrev pub invariant-loop-k : goal.invariant-loop-k
invariant-loop-k l = record {
  full : Full l.index;
  grown : Grows l.initial.index l.index;
  spread : SpreadsRows l.start l.k (64 * l.from) (64 * l.to) l.initial.index l.index;
}
