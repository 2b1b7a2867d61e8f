-- With the sizes of the members from the next on they are the whole sum, and they are few.
use Rattle.std.proofs.Common.{◌≡◌, ◌+◌, ◌*◌, ◌≤◌, drop, map}
use Rattle.model.specs.Lists.{sum}
use Rattle.model.specs.Network.{size}
use Rattle.layout.specs.Starts.{outline}
use Rattle.combination.proofs.needed.Given as goal

abbrev pub invariant-loop-r : goal.invariant-loop-r
invariant-loop-r l = record {
  whole : l.tuples + sum (map (size (outline l.starts)) (drop l.r-index l.members)) ≡ sum (map (size (outline l.starts)) l.members);
  few : l.tuples ≤ 4096 * l.r-index;
}
