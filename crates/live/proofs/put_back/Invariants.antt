-- The words before i are put back, and all others are as at entry.
use Rattle.std.proofs.Common.{◌≡◌, ◌++◌, length, take, drop}
use Rattle.live.proofs.put_back.Given as goal

abbrev pub invariant-loop-i : goal.invariant-loop-i
invariant-loop-i l = record {
  long : length l.words ≡ length l.initial.words;
  put : l.words ≡ take l.i l.copy ++ drop l.i l.initial.words;
}
