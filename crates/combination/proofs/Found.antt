-- The masks of one relation after the other.
-- From the laws of places, and that a relation past the last has no variable.
use mathlib.Core.Path.{◌≡◌, refl, sym, ap, ◌∙◌}
use mathlib.Core.Bool.{true}
use mathlib.Core.List.{List}
use Prim.Native.Nat.{ℕ, ◌+◌, ◌≤◌, ◌<◌}
use native.Mathlib.Decide.{dec_lt}
use native.Mathlib.Omega.{arith}
use borrow.Author.Count.{below_more}
use lib.Dec.{ltb}
use lib.ListN.{length, get_or, set, replicate, take, drop, length-set, get_or-replicate, get_or-eq_default}
use lib.Seq.{get_or-set_same, get_or-set_other}
use Rattle.model.specs.Limits.{variable_count}
use Rattle.model.specs.declared.Relation.{Relation}
use Rattle.model.specs.Lists.{all, pairwise, elem}
use Rattle.model.specs.Network.{no_relation, variables_in, before, scope_of}
use Rattle.model.specs.LiveWords.{is_set}
use Rattle.model.specs.Fault.{different}
use Rattle.model.proofs.Bools.{and_left}
use Rattle.live.proofs.Bits.{is_set-high}
use Rattle.layout.specs.Starts.{records_in}
use Rattle.layout.specs.Setting.{Lists, network_in, SoundLists}
use Rattle.layout.proofs.SoundStarts.{relations-few}
use Rattle.layout.proofs.Inside.{scope-proper}
use Rattle.combination.specs.Masks.{Masks}

-- The sets of the relations before r are found, and the others are empty.
pub record Found (L : Lists) (r : ℕ) (sets : List ℕ) : Type 0 where
  pub few : r ≤ length (records_in L.starts)
  pub long : length sets ≡ 64
  pub done : (s : ℕ) → s < r → (x : ℕ) → is_set (get_or sets s 0) x ≡ elem x (scope_of (network_in L) s)
  pub left : (s : ℕ) → r ≤ s → get_or sets s 0 ≡ 0

pub found-start : (L : Lists) → Found L 0 (replicate 64 0)
found-start L =
    record {
      few = omega arith;
      long = refl;
      done = λ s h. absurd (omega arith);
      left = λ s h. at s (dec_lt s 64);
    }
  where
    at : (s : ℕ) → Dec (s < 64) → get_or {A = ℕ} (replicate 64 0) s 0 ≡ 0
    at s (yes h) = get_or-replicate {A = ℕ} 64 s 0 0 h
    at s (no h) = let l : 64 ≤ s = omega arith in get_or-eq_default {A = ℕ} (replicate 64 0) 0 l

module _ {L : Lists} (laid : SoundLists L) where
  -- the variables of a scope are below 64
  pub scope-variables : (r : ℕ) → r < length (records_in L.starts) → all (λ (x : ℕ). ltb x variable_count) (scope_of (network_in L) r) ≡ true
  scope-variables r h =
      let scope = scope_of (network_in L) r in
      and_left (all (λ (x : ℕ). ltb x variable_count) scope) (pairwise different scope)
      (scope-proper laid r h)

  none : (s x : ℕ) → length (records_in L.starts) ≤ s → elem x (scope_of (network_in L) s) ≡ elem x (take 0 L.variables)
  unfolding scope_of
  none s x h =
      ap (λ (R : Relation). elem x (take R.width (drop (before variables_in (records_in L.starts) s) L.variables))) (get_or-eq_default (records_in L.starts) no_relation h)

  module _ (r : ℕ) (sets : List ℕ) (f : Found L r sets) where
    pub found-next : (w : ℕ) → r < length (records_in L.starts) → ((x : ℕ) → is_set w x ≡ elem x (scope_of (network_in L) r)) → Found L (r + 1) (set sets r w)
    found-next w h e =
        record {
          few = omega arith;
          long = length-set sets r w ∙ f.long;
          done = below_more _ r
              (λ s l x. ap (λ (v : ℕ). is_set v x) (get_or-set_other sets r s w 0 (λ q. absurd (omega arith))) ∙ f.done s l x)
              (λ x. ap (λ (v : ℕ). is_set v x) (get_or-set_same sets r w 0 (omega (arith, f.long, relations-few laid.framed))) ∙ e x);
          left = λ s l. get_or-set_other sets r s w 0 (λ q. absurd (omega arith)) ∙ f.left s (omega arith);
        }

    pub found-end : length (records_in L.starts) ≤ r → Masks (network_in L) sets
    found-end h s x = go (dec_lt s r)
      where
        go : Dec (s < r) → is_set (get_or sets s 0) x ≡ elem x (scope_of (network_in L) s)
        go (yes l) = f.done s l x
        go (no l) = ap (λ (v : ℕ). is_set v x) (f.left s (omega arith)) ∙ is_set-high 0 0 x (omega arith) (omega arith) ∙ sym (none s x (omega arith))
