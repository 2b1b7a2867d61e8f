-- What depends on the records alone is asked of the outline of a network as well as of the network.
-- From the definitions.
use mathlib.Core.Path.{◌≡◌, refl}
use mathlib.Core.List.{List}
use Prim.Native.Nat.{ℕ}
use Rattle.model.specs.TupleSet.{TupleSet}
use Rattle.model.specs.declared.Counts.{Counts}
use Rattle.model.specs.Combination.{Combination}
use Rattle.model.specs.LiveCounts.{live_counts}
use Rattle.model.specs.Consistency.{needed, support_start}
use Rattle.model.specs.Fault.{untrue}
use Rattle.model.specs.Reply.{lowest_empty, answer_for}
use Rattle.layout.specs.Starts.{outline}
use Rattle.layout.specs.Setting.{Lists, network_in}

module _ (L : Lists) where
  pub support_start-outline : (m : ℕ) (members : List ℕ) (p : ℕ) → support_start (outline L.starts) m members p ≡ support_start (network_in L) m members p
  unfolding support_start
  support_start-outline m members p = refl

  pub needed-outline : (cs : List Combination) → needed (outline L.starts) cs ≡ needed (network_in L) cs
  unfolding needed
  needed-outline cs = refl

  pub answer_for-outline : (S : TupleSet) (k : Counts) → answer_for (outline L.starts) S k ≡ answer_for (network_in L) S k
  unfolding answer_for lowest_empty
  answer_for-outline S k = refl

  pub counts-outline : (S : TupleSet) → live_counts (outline L.starts) S ≡ live_counts (network_in L) S
  unfolding live_counts
  counts-outline S = refl

  pub untrue-outline : (ws counts : List ℕ) → untrue (outline L.starts) ws counts ≡ untrue (network_in L) ws counts
  unfolding untrue live_counts
  untrue-outline ws counts = refl
