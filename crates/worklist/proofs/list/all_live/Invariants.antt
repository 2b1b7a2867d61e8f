-- The tuples from `k` on all live as all m of them do.
use Rattle.std.proofs.Common.{◌≡◌, ◌-◌}
use Rattle.model.specs.Lists.{from, all}
use Rattle.worklist.specs.Supports.{is_chosen_live, all_live}
use Rattle.worklist.proofs.list.all_live.Given as goal

abbrev pub invariant-loop-k : goal.invariant-loop-k
invariant-loop-k l =
    all (is_chosen_live l.words l.starts l.members l.base l.tuples) (from l.k (l.m - l.k)) ≡ all_live l.words l.starts l.members l.base l.m l.tuples
