-- What is spent so far agrees with the seeking tuple.
use Rattle.std.proofs.Common.{◌≡◌, length}
use Rattle.layout.specs.Setting.{network_in}
use Rattle.support.specs.Spent.{Spends}
use Rattle.support.proofs.fresh_after.Given as goal

abbrev pub invariant-loop-j : goal.invariant-loop-j
invariant-loop-j l = record {
  long : length l.fresh ≡ 64;
  spends : Spends (network_in (record { variables = l.variables; values = l.values; starts = l.starts })) l.members l.place l.own l.k l.bound l.fresh;
}
