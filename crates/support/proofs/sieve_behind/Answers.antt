-- Where nothing is sieved all tuples pass.
use Rattle.std.proofs.Common.{ℕ, ◌<◌, get_or, arith}
use Rattle.model.specs.Limits.{max_relations}
use Rattle.model.proofs.Bools.{not-both}
use Rattle.layout.specs.Setting.{Lists, network_in}
use Rattle.layout.proofs.SoundStarts.{relations-few, columns-few}
use Rattle.narrowing.proofs.Sieves.{passes_none}
use Rattle.support.proofs.sieve_behind.Goals as goal

pub returns-then-last-k : goal.returns-then-last-k
returns-then-last-k c =
    let a = c.args in
    let L : Lists = record { variables = a.variables.now; values = a.values.now; starts = a.starts.now } in
    let R = c.requires.1.0 in
    let r : ℕ = get_or a.members.now a.k 0 in
    let few : r < max_relations = omega (arith, R.exist a.k c.requires.1.1.inside, relations-few R.laid.framed) in
    λ x h e. absurd (not-both (passes_none (network_in L) r x (record { column = 8; bits = 0 }) (columns-few R.laid.framed r few)) e)
