-- What remains are the lines of the combinations left.
use Rattle.std.proofs.Common.{◌≡◌}
use Rattle.std.specs.Slice.Iter.{chunks_exact_rest, chunks_exact_size}
use Rattle.model.specs.Text.{text_of}
use Rattle.model.specs.Combination.{combinations}
use Rattle.printing.proofs.Appended.{Remains}
use Rattle.printing.proofs.combinations.combination_lines.Given as goal

abbrev pub invariant-loop-combination : goal.invariant-loop-combination
invariant-loop-combination l = record {
  sized : chunks_exact_size l.combination-iterator ≡ l.m;
  left : Remains (text_of (combinations l.m (chunks_exact_rest l.combination-iterator))) l.out l.n (text_of (combinations l.m l.members)) l.initial.out l.at;
}
