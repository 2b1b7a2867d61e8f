-- From the laws of pairs.
use Rattle.std.proofs.Common.{◌≡◌, true, sym, ap, ap₂, ◌∙◌, ℕ, ◌+◌, ◌*◌, ◌/◌, ◌%◌, below_more, get_or, arith}
use Rattle.model.specs.Network.{Network, first_id}
use Rattle.model.specs.Agreement.{agree}
use Rattle.layout.specs.Setting.{Setting, network}
use Rattle.layout.specs.Pairs.{combination_of, tuple_id}
use Rattle.layout.proofs.Pairs.{member_of}
use Rattle.twins.specs.Twins.{beside_id}
use Rattle.twins.proofs.agrees_with.Goals as goal
use Rattle.twins.proofs.agrees_with.Goals.{else-j-place-via-then-j-place+else-not-tuples_agree, else-j-place-via-else-j-place}

pub loop-j-preserved : goal.loop-j-preserved
loop-j-preserved c =
    let a = c.args in
    let G : Setting = record { lists = record { variables = a.variables.now; values = a.values.now; starts = a.starts.now }; members = a.members.now; m = a.m } in
    let N : Network = network G in
    let j = c.loop-j.j in
    let pair : c.wide-pair.result ≡ a.p = c.wide-pair.ensures.0 in
    let each : c.wide-each.result ≡ a.m = c.wide-each.ensures.0 in
    let sound = c.requires.at.sound in
    let member : get_or a.members.now (c.wide-pair.result / c.wide-each.result * c.wide-each.result + j) 0 ≡ get_or (combination_of G a.p) j 0 =
    ap₂ (λ (q n : ℕ). get_or a.members.now (q / n * n + j) 0) pair each
    ∙ sym (member_of sound.laid.framed sound.paired a.p c.requires.at.pair j (omega arith)) in
    let reached : (j ≡ a.p % a.m → ⊥) → agree N (tuple_id G a.p a.x) (beside_id G a.p a.tuples j) ≡ true =
    elim c.else-j-place.branch [
      | else-j-place-via-then-j-place+else-not-tuples_agree w ↦ λ d.
          ap₂ (λ (r q : ℕ). agree N (first_id N r + a.x) (first_id N q + get_or a.tuples j 0)) (ap (λ (q : ℕ). get_or a.members.now q 0) (sym pair)) (sym member)
          ∙ sym w.tuples_agree.ensures
          ∙ w.if-not-tuples_agree.false
      | else-j-place-via-else-j-place w ↦ λ d. absurd (d (w.if-j-place.false ∙ ap₂ (λ (q n : ℕ). q % n) pair each))
    ] in
    below_more _ _ c.loop-j.invariant reached
