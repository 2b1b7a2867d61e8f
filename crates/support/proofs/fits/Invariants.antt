-- The tuple agrees with those chosen for the members before j.
use Rattle.std.proofs.Common.{◌≡◌, true, ℕ}
use Rattle.model.specs.Lists.{all}
use Rattle.model.specs.Agreement.{agree}
use Rattle.layout.specs.Setting.{network_in}
use Rattle.support.specs.Search.{id_at, chosen_ids}
use Rattle.support.proofs.fits.Given as goal

abbrev pub invariant-loop-j : goal.invariant-loop-j
invariant-loop-j l =
    let N = network_in (record { variables = l.variables; values = l.values; starts = l.starts }) in
    all (λ (y : ℕ). agree N y (id_at N l.members l.k l.x)) (chosen_ids N l.members l.chosen l.j) ≡ true
