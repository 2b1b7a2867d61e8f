-- The columns of a tuple of a network without fault: its scope is proper, and the number of its clash with another tells whether they
-- agree. From the laws of places and of clashes.
use mathlib.Core.Path.{◌≡◌, ◌∙◌, ap}
use Prim.Native.Nat.{ℕ, ◌+◌, ◌-◌, ◌<◌}
use native.Mathlib.Omega.{arith}
use lib.Dec.{eqb}
use lib.ListN.{take, drop}
use Rattle.model.specs.Limits.{no_variable}
use Rattle.model.specs.Network.{size, first_id}
use Rattle.model.specs.Agreement.{agree, clash_number}
use Rattle.model.specs.Fault.{proper_scope}
use Rattle.model.proofs.Lists.{mem-from}
use Rattle.model.proofs.Network.{ids-below}
use Rattle.model.proofs.Agreement.{first_clash-low, clash_number-is_none}
use Rattle.layout.specs.declared.Place.{Place}
use Rattle.layout.specs.Places.{place_at}
use Rattle.layout.specs.Setting.{Lists, network_in, SoundLists}
use Rattle.layout.proofs.Places.{sound, exists, below-limit, place-lengths, place-scope}
use Rattle.layout.proofs.Inside.{scope-proper}
use Rattle.network.specs.Tuples.{Columns, Two, clash_at, agree_at}

pub place-columns : {L : Lists} (laid : SoundLists L) (r x : ℕ) → x < size (network_in L) r → (p : Place) → p ≡ place_at L.starts r x → Columns (take (p.scope_end - p.scope) (drop p.scope L.variables)) (take (p.tuple_end - p.tuple) (drop p.tuple L.values))
place-columns laid r x h p e =
    record {
      widths = place-lengths laid r x h p e;
      proper = ap proper_scope (place-scope laid r (below-limit laid r x h) p x e) ∙ scope-proper laid r (exists laid r x h);
    }

-- the number of a clash tells whether two tuples agree
pub number-agrees : (L : Lists) (r x s y n : ℕ) → Two L r x s y → n ≡ clash_number (clash_at L r x s y) → eqb n no_variable ≡ agree_at L r x s y
unfolding agree
number-agrees L r x s y n two e =
    let N = network_in L in
    let g = first_id N r + x in
    let below = ids-below N r (mem-from (first_id N r) (size N r) g (omega arith) (omega (arith, two.first))) in
    ap (λ (k : ℕ). eqb k no_variable) e ∙ clash_number-is_none (clash_at L r x s y) (first_clash-low N (sound two.laid) g (first_id N s + y) below)
