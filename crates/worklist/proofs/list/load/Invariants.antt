-- Of the places passed, those of numbers hold them, and behind them stand noughts.
use Rattle.std.proofs.Common.{replicate, drop}
use Rattle.worklist.proofs.Stretch.{Copied, upto}
use Rattle.worklist.proofs.list.load.Given as goal

abbrev pub invariant-loop-j : goal.invariant-loop-j
invariant-loop-j l = Copied (replicate 4 0) 0 (drop l.at l.numbers) (upto l.j l.m) l.tuples
