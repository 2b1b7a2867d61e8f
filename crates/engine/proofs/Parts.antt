-- Laws of the part of the members' list that is handed on: it is the pair's combination, and the place in it is the member's. And the id of
-- a tuple of that member.
-- From the laws of pairs.
use mathlib.Core.Path.{◌≡◌, ◌∙◌, ap, ap₂}
use Prim.Native.Nat.{ℕ, ◌+◌, ◌-◌, ◌*◌, ◌/◌, ◌≤◌, ◌<◌}
use native.Mathlib.Nat.{add-sub_cancel_left}
use native.Mathlib.Omega.{arith}
use lib.ListN.{length, get_or, take, drop}
use Rattle.model.specs.Combination.{pair_member}
use Rattle.layout.specs.Starts.{tuple_start}
use Rattle.layout.specs.Setting.{Setting, Sound}
use Rattle.layout.specs.Pairs.{combination_of, tuple_id}
use Rattle.layout.proofs.SoundStarts.{tuple-start}
use Rattle.layout.proofs.Pairs.{member_below, base-within}

-- the pair and the number of members, as they are read
module _ {G : Setting} (sound : Sound G) {p : ℕ} (pair : p < length G.members) (q each : ℕ) (q-is : q ≡ p) (each-is : each ≡ G.m) where
  base-is : q / each * each ≡ p / G.m * G.m
  base-is = ap₂ (λ (a b : ℕ). a / b * b) q-is each-is

  pub part-within : q / each * each + each ≤ length G.members
  part-within = omega (arith, base-is, each-is, base-within sound.laid.framed sound.paired p pair)

  pub part-is : take (q / each * each + each - q / each * each) (drop (q / each * each) G.members) ≡ combination_of G p
  part-is =
      ap (λ (n : ℕ). take n (drop (q / each * each) G.members)) (add-sub_cancel_left (q / each * each) each ∙ each-is)
      ∙ ap (λ (b : ℕ). take G.m (drop b G.members)) base-is

-- the id of tuple x, by where its relation is read to begin
pub id-is : {G : Setting} (sound : Sound G) {p q first : ℕ} (x : ℕ) → p < length G.members → q ≡ p → first ≡ tuple_start G.lists.starts (get_or G.members q 0) → first + x ≡ tuple_id G p x
id-is {G = G} sound {p = p} x pair q-is first-is =
    let h = member_below sound.laid.framed sound.paired p pair in
    ap (λ (g : ℕ). g + x)
    (first-is ∙ ap (λ (q : ℕ). tuple_start G.lists.starts (get_or G.members q 0)) q-is ∙ tuple-start sound.laid.framed (pair_member G.members p) (omega arith))
