-- Laws of sides, as the members are put to them one by one.
-- From the laws of bits.
use mathlib.Core.Path.{◌≡◌, refl, sym, ◌∙◌, ap}
use mathlib.Core.Bool.{Bool, true, false, ◌||◌, or-false}
use Prim.Native.Nat.{ℕ, ◌*◌, ◌%◌, ◌^◌, ◌≤◌, ◌<◌}
use native.Mathlib.Omega.{arith}
use borrow.Author.Tests.{eq-eqb, ne_eqb}
use lib.Bits.{bit_and, bit_or}
use lib.Dec.{eqb}
use lib.ListN.{get_or}
use Rattle.model.specs.Lists.{elem}
use Rattle.model.specs.Network.{Network, scope_of}
use Rattle.model.specs.Combination.{Combination}
use Rattle.model.specs.LiveWords.{is_set}
use Rattle.model.proofs.Bools.{or_left, or_right, not-both}
use Rattle.live.proofs.Bits.{is_set-or, is_set-pow, is_set-nought, one_shl, and_none}
use Rattle.twins.specs.declared.sides.Sides.{Sides}
use Rattle.twins.specs.Sides.{Divides, Put, Apart}

-- ---- One member

module _ (sides : Sides) (j mask : ℕ) where
  more_left : (a b v : ℕ) → is_set a v ≡ true → is_set (bit_or a b) v ≡ true
  more_left a b v e = is_set-or a b v ∙ or_left (is_set b v) e

  more-right : (a b v : ℕ) → is_set b v ≡ true → is_set (bit_or a b) v ≡ true
  more-right a b v e = is_set-or a b v ∙ or_right (is_set a v) e

  pub put-far : j < 64 → Put sides j mask (record { near = sides.near; far = bit_or sides.far mask; places = bit_or sides.places (1 * 2 ^ j % 2 ^ 64) })
  put-far h =
      record {
        same = λ i d. bit i ∙ ap (λ (b : Bool). is_set sides.places i || b) (ne_eqb j i (λ e. d (sym e))) ∙ or-false (is_set sides.places i);
        nearer = λ v e. e;
        farther = λ v e. more_left sides.far mask v e;
        own-near = λ e. absurd (not-both (bit j ∙ or_right (is_set sides.places j) (eq-eqb j j refl)) e);
        own-far = λ _ v e. more-right sides.far mask v e;
      }
    where
      bit : (i : ℕ) → is_set (bit_or sides.places (1 * 2 ^ j % 2 ^ 64)) i ≡ (is_set sides.places i || eqb j i)
      bit i =
          ap (λ (w : ℕ). is_set (bit_or sides.places w) i) (one_shl j h)
          ∙ is_set-or sides.places (2 ^ j) i
          ∙ ap (λ (b : Bool). is_set sides.places i || b) (is_set-pow j i)

  pub put-near : is_set sides.places j ≡ false → Put sides j mask (record { near = bit_or sides.near mask; far = sides.far; places = sides.places })
  put-near n =
      record {
        same = λ i d. refl;
        nearer = λ v e. more_left sides.near mask v e;
        farther = λ v e. e;
        own-near = λ _ v e. more-right sides.near mask v e;
        own-far = λ e. absurd (not-both e n);
      }

-- ---- All members

-- Of all members the first j are put, and no place from j on is far.
pub record Divided (N : Network) (c : Combination) (place j : ℕ) (sides : Sides) : Type 0 where
  pub done : Divides N c j place sides
  pub rest : (i : ℕ) → j ≤ i → is_set sides.places i ≡ false

module _ (N : Network) (c : Combination) (place : ℕ) where
  pub divided-start : Divided N c place 0 (record { near = 0; far = 0; places = 0 })
  divided-start = record { done = record { nearby = λ i h. absurd (omega arith); beyond = λ i h. absurd (omega arith) }; rest = λ i h. is_set-nought i }

  -- ---- Apart

  module _ (n : ℕ) (sides : Sides) (given : Divides N c n place sides) where
    pub apart_none : bit_and sides.near sides.far ≡ 0 → Apart sides
    apart_none e v a b = and_none sides.near sides.far v a b e

    pub apart-whole : (let whole : Sides = record { near = bit_or sides.near sides.far; far = 0; places = 0 } in Divides N c n place whole × Apart whole)
    apart-whole =
        (record { nearby = λ i h d _ v m. is_set-or sides.near sides.far v ∙ go i h d v m (is_set sides.places i) refl; beyond = λ i h d e. absurd (not-both e (is_set-nought i)) }, λ v a b. not-both b (is_set-nought v))
      where
        go : (i : ℕ) → i < n → (i ≡ place → ⊥) → (v : ℕ) → elem v (scope_of N (get_or c i 0)) ≡ true → (b : Bool) → is_set sides.places i ≡ b → (is_set sides.near v || is_set sides.far v) ≡ true
        go i h d v m true q = or_right (is_set sides.near v) (given.beyond i h d q v m)
        go i h d v m false q = or_left (is_set sides.far v) (given.nearby i h d q v m)
