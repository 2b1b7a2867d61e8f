-- From what the listing of combinations answers and leaves.
use Rattle.std.proofs.Common.{replicate, ℕ, arith, rules}
use lib.ListN.{length-replicate}
use Rattle.model.specs.Edges.{max_member_list}
use Rattle.layout.specs.Shape.{network_of}
use Rattle.desk.proofs.Enumerated.{listed-fits}
use Rattle.desk.proofs.combinations.listed.Goals as goal

pub print-requires : goal.print-requires
print-requires c =
    let a = c.args in (
      search rules,
      λ n e. let f = listed-fits (network_of a.shape a.variables.now a.values.now) a.m (replicate max_member_list 0) c.combinations-answer.result c.combinations-answer.new.list c.combinations-answer.ensures n e in (f.0, omega (arith, f.1, length-replicate {A = ℕ} max_member_list 0)),
    )
