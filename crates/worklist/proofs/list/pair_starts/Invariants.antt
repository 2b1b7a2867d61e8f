-- The entries up to `p` are where those pairs' numbers begin.
use Rattle.std.proofs.Common.{◌≡◌, ℕ, ◌≤◌, length, get_or}
use Rattle.model.specs.Consistency.{support_start}
use Rattle.layout.specs.Starts.{outline}
use Rattle.worklist.proofs.list.pair_starts.Given as goal

abbrev pub invariant-loop-p : goal.invariant-loop-p
invariant-loop-p l = record {
  entries : length l.begins ≡ 1025;
  written : (k : ℕ) → k ≤ l.p → get_or l.begins k 0 ≡ support_start (outline l.starts) l.m l.members k;
}
