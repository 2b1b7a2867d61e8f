-- A bit is 1 only if it was, or is that of a member passed.
use Rattle.std.proofs.Common.{◌+◌}
use Rattle.sweeping.specs.Sweep.{Put}
use Rattle.sweeping.proofs.put_beside.Given as goal

abbrev pub invariant-loop-s : goal.invariant-loop-s
invariant-loop-s l = Put l.members l.base (l.base + l.s-index) l.r l.initial.beside l.beside
