-- Laws of the variables of the members but one, as they are collected member by member.
-- From the laws of bits.
use mathlib.Core.Path.{◌≡◌, ◌∙◌, subst}
use mathlib.Core.Bool.{true, ◌||◌}
use Prim.Native.Nat.{ℕ, ◌+◌, ◌≤◌, ◌<◌}
use native.Mathlib.Omega.{arith}
use native.Mathlib.Decide.{ℕ_discrete}
use lib.Bits.{bit_or}
use lib.ListN.{get_or}
use Rattle.model.specs.Lists.{elem}
use Rattle.model.specs.Network.{Network, scope_of}
use Rattle.model.specs.Combination.{Combination}
use Rattle.model.specs.LiveWords.{is_set}
use Rattle.model.proofs.Bools.{or_left, or_right}
use Rattle.live.proofs.Bits.{is_set-or}

-- every variable of the members from `from` on and before j, but for those of the one at `place`, is in the set
abbrev pub Collected : Network → Combination → ℕ → ℕ → ℕ → ℕ → Type 0
Collected N c place from j set = (i : ℕ) → from ≤ i → i < j → (i ≡ place → ⊥) → (v : ℕ) → elem v (scope_of N (get_or c i 0)) ≡ true → is_set set v ≡ true

module _ (N : Network) (c : Combination) (place from j set : ℕ) (before : Collected N c place from j set) where
  -- the next member's are added
  pub collected-more : (mask : ℕ) → ((v : ℕ) → is_set mask v ≡ elem v (scope_of N (get_or c j 0))) → Collected N c place from (j + 1) (bit_or set mask)
  collected-more mask is i f l d v e = is_set-or set mask v ∙ go (ℕ_discrete i j)
    where
      go : Dec (i ≡ j) → (is_set set v || is_set mask v) ≡ true
      go (yes q) = or_right (is_set set v) (is v ∙ subst (λ (k : ℕ). elem v (scope_of N (get_or c k 0)) ≡ true) q e)
      go (no n) = or_left (is_set mask v) (before i f (omega arith) d v e)

  -- the one at `place` is passed over
  pub collected-past : j ≡ place → Collected N c place from (j + 1) set
  collected-past q i f l d v e = before i f (other (ℕ_discrete i j)) d v e
    where
      other : Dec (i ≡ j) → i < j
      other (yes p) = absurd (d (p ∙ q))
      other (no n) = omega arith
