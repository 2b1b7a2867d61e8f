use Rattle.std.proofs.Common.{◌≡◌, ◌+◌, ◌*◌, ◌/◌, ◌%◌, List, ℕ, get_or, true, bit_or, ap, ◌∙◌, sym, arith}
use mathlib.Core.Logic.{⊎_elim}
use native.Mathlib.Decide.{ℕ_discrete}
use Rattle.model.specs.LiveWords.{is_set}
use Rattle.model.proofs.Bools.{or_left, or_right}
use Rattle.live.proofs.Bits.{is_set-or, and_none}
use Rattle.bridging.specs.Bridge.{Reached}
use Rattle.bridging.proofs.meet.Goals as goal

-- a class of word i that is in the row or in that of any is in both together
reached-bit : (table : List ℕ) (row i c : ℕ) → c / 64 ≡ i → Reached table row c → is_set (bit_or (get_or table (4 * row + i) 0) (get_or table (1024 + i) 0)) (c % 64) ≡ true
reached-bit table row i c e o =
    let own = get_or table (4 * row + i) 0 in
    let any = get_or table (1024 + i) 0 in
    is_set-or own any (c % 64)
    ∙ ⊎_elim
    (λ h. or_left (is_set any (c % 64)) (ap (λ (j : ℕ). is_set (get_or table (4 * row + j) 0) (c % 64)) (sym e) ∙ h))
    (λ h. or_right (is_set own (c % 64)) (ap (λ (j : ℕ). is_set (get_or table (1024 + j) 0) (c % 64)) (sym e) ∙ h))
    o

pub loop-i-preserved : goal.loop-i-preserved
loop-i-preserved c d h near far =
    let a = c.args in
    let i = c.loop-i.i in
    elim (ℕ_discrete (d / 64) i) [
      | yes e ↦ and_none _ _ (d % 64) (reached-bit a.near.now a.a i d e near) (reached-bit a.far.now a.b i d e far) c.if-reached-far-ne0.false
      | no o ↦ c.loop-i.invariant d (omega (arith, h, o)) near far
    ]
