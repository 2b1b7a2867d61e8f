-- From what `tuples_agree` ensures, and the laws of the test.
use Rattle.std.proofs.Common.{◌≡◌, true, ℕ, get_or, refl, sym, ap, ap₂, subst, ◌∙◌, arith}
use mathlib.Core.List.Memᴰ
use native.Mathlib.Numerals.{add-one}
use Rattle.model.specs.Network.{Network}
use Rattle.model.specs.Agreement.{agree}
use Rattle.model.proofs.Lists.{here}
use Rattle.layout.specs.Setting.{network_in}
use Rattle.support.specs.Search.{id_at, chosen_ids}
use Rattle.support.proofs.Chosen.{chosen-mem, chosen-all, fits-clash, fits_all}
use Rattle.support.proofs.fits.Goals as goal
use Rattle.support.proofs.fits.Goals.{else-j-place-via-then-j-place+else-not-tuples_agree-2, else-j-place-via-else-j-place}

pub returns-then-not-tuples_agree : goal.returns-then-not-tuples_agree
returns-then-not-tuples_agree c =
    let a = c.args in
    let N : Network = network_in (record { variables = a.variables.now; values = a.values.now; starts = a.starts.now }) in
    sym (fits-clash N a.members.now a.place a.own a.k a.chosen a.x _ here (sym c.tuples_agree.ensures ∙ c.if-not-tuples_agree.true))

pub loop-j-init : goal.loop-j-init
unfolding chosen_ids
loop-j-init c = refl

pub returns-then-not-tuples_agree-2 : goal.returns-then-not-tuples_agree-2
returns-then-not-tuples_agree-2 c =
    let a = c.args in
    let N : Network = network_in (record { variables = a.variables.now; values = a.values.now; starts = a.starts.now }) in
    sym (fits-clash N a.members.now a.place a.own a.k a.chosen a.x _
    (Memᴰ.tail (chosen-mem N a.members.now a.chosen a.k c.loop-j.j c.loop-j-test.true))
    (sym c.tuples_agree-then-j-place.ensures ∙ c.if-not-tuples_agree-2.true))

-- the tuple agrees with the seeking tuple, and so with the tuple chosen for that one's member, which is that tuple
pub loop-j-preserved : goal.loop-j-preserved
loop-j-preserved c =
    let a = c.args in
    let N : Network = network_in (record { variables = a.variables.now; values = a.values.now; starts = a.starts.now }) in
    let agreed : ℕ → Type 0 = λ y. agree N y (id_at N a.members.now a.k a.x) ≡ true in
    rw add-one
    (chosen-all N a.members.now a.chosen (λ (y : ℕ). agree N y (id_at N a.members.now a.k a.x)) c.loop-j.j c.loop-j.invariant
    (elim c.else-j-place.branch [
      | else-j-place-via-then-j-place+else-not-tuples_agree-2 w ↦ sym w.tuples_agree-then-j-place.ensures ∙ w.if-not-tuples_agree-2.false
      | else-j-place-via-else-j-place w ↦
          let e = w.if-j-place.false in
          let own = c.requires.own-chosen (omega arith) in
          subst agreed (sym (ap₂ (id_at N a.members.now) e (ap (λ (i : ℕ). get_or a.chosen i 0) e ∙ own))) (sym c.tuples_agree.ensures ∙ c.if-not-tuples_agree.false)
    ]))

pub returns : goal.returns
returns c =
    let a = c.args in
    let N : Network = network_in (record { variables = a.variables.now; values = a.values.now; starts = a.starts.now }) in
    let e : c.loop-j.j ≡ a.k = omega arith in
    sym (fits_all N a.members.now a.place a.own a.k a.chosen a.x (sym c.tuples_agree.ensures ∙ c.if-not-tuples_agree.false) (rw e at c.loop-j.invariant))
