-- From the laws of lean words.
use Rattle.std.proofs.Common.{arith}
use Rattle.layout.specs.Setting.{Lists}
use Rattle.lean.proofs.Leaner.{lean-both, thinned-lean}
use Rattle.lean.proofs.without_doubles.Goals as goal
use Rattle.lean.proofs.without_doubles.Goals.{then-j-place, else-j-place}

pub loop-j-preserved : goal.loop-j-preserved
loop-j-preserved c =
    let a = c.args in
    let L : Lists = record { variables = a.variables.now; values = a.values.now; starts = a.starts.now } in
    let l = c.loop-j in
    elim c.if-j-place.branch [
      | then-j-place w ↦
          let F = thinned-lean L a.members.now a.place c.requires.1 l.j w.variables_from-common.result c.loop-j-test.true w.if-j-place.true (λ i h. w.variables_from-common.ensures i (omega arith) h) w.thin.ensures in
          rw w.words-is (lean-both L a.members.now a.place l.invariant.0 F.0, λ g e. l.invariant.1 g (F.1 g e))
      | else-j-place w ↦ rw w.words-is l.invariant
    ]
