-- A scope, an id and a value by their relation.
-- From the laws of sound starts and of places.
use mathlib.Core.Path.{◌≡◌}
use mathlib.Core.Bool.{true}
use mathlib.Core.List.{List}
use Prim.Native.Nat.{ℕ, ◌+◌, ◌-◌, ◌*◌, ◌≤◌, ◌<◌}
use native.Mathlib.Omega.{arith}
use lib.ListN.{length}
use Rattle.model.specs.Limits.{max_relations}
use Rattle.model.specs.Network.{Network, width, size, first_id, scope_of}
use Rattle.model.specs.Fault.{proper_scope}
use Rattle.model.proofs.Lists.{all-at, mem-from}
use Rattle.layout.specs.Starts.{tuple_start, value_start, records_in}
use Rattle.layout.specs.Setting.{Lists, network_in, SoundLists}
use Rattle.layout.proofs.SoundStarts.{tuple-start, tuple-end, value-start}
use Rattle.layout.proofs.Places.{sound, below-limit, tuple-fits}

module _ {L : Lists} (laid : SoundLists L) (r : ℕ) where
  abbrev N : Network
  N = network_in L

  abbrev xs : List ℕ
  xs = L.starts

  pub scope-proper : r < length (records_in xs) → proper_scope (scope_of N r) ≡ true
  scope-proper h =
      all-at (λ (s : ℕ). proper_scope (scope_of N s)) _ (sound laid).scopes (mem-from 0 (length (records_in xs)) r (omega arith) (omega arith))

  -- an id of the relation
  module _ (g : ℕ) (h : r < max_relations) (low : tuple_start xs r ≤ g) (high : g < tuple_start xs (r + 1)) where
    pub index_below : g - tuple_start xs r < size N r
    index_below = omega (arith, tuple-start laid.framed r (omega arith), tuple-end laid.framed r h)

    pub index_back : first_id N r + (g - tuple_start xs r) ≡ g
    index_back = omega (arith, tuple-start laid.framed r (omega arith))

  -- the value in column c of tuple x stands in the list
  pub value-within : (x : ℕ) → x < size N r → (c : ℕ) → c < width N r → value_start xs r + x * width N r + c < length L.values
  value-within x h c l =
      omega (arith, tuple-fits laid r x h, value-start laid.framed r (omega (arith, below-limit laid r x h)))
