-- Sides: the other members of a pair's combination in two groups that share no variable.
use Rattle.std.specs.Prelude.{◌≡◌, true, false, ℕ, ◌%◌, ◌<◌, length, get_or}
use Rattle.model.specs.Lists.{elem}
use Rattle.model.specs.Network.{Network, scope_of}
use Rattle.model.specs.Combination.{Combination}
use Rattle.model.specs.LiveWords.{is_set}
use Rattle.layout.specs.Setting.{Setting, network}
use Rattle.layout.specs.Pairs.{combination_of}
use Rattle.twins.specs.declared.sides.Sides.{Sides}

-- ---- As they are divided

-- Of the first n members, each but the one at `place` is in the side where its place is, with all its variables.
pub record Divides (N : Network) (c : Combination) (n place : ℕ) (sides : Sides) : Type 0 where
  pub nearby : (i : ℕ) → i < n → (i ≡ place → ⊥) → is_set sides.places i ≡ false → (v : ℕ) → elem v (scope_of N (get_or c i 0)) ≡ true → is_set sides.near v ≡ true
  pub beyond : (i : ℕ) → i < n → (i ≡ place → ⊥) → is_set sides.places i ≡ true → (v : ℕ) → elem v (scope_of N (get_or c i 0)) ≡ true → is_set sides.far v ≡ true

-- Set j is put to either side; of the other places none changes side.
pub record Put (sides : Sides) (j mask : ℕ) (after : Sides) : Type 0 where
  pub same : (i : ℕ) → (i ≡ j → ⊥) → is_set after.places i ≡ is_set sides.places i
  pub nearer : (v : ℕ) → is_set sides.near v ≡ true → is_set after.near v ≡ true
  pub farther : (v : ℕ) → is_set sides.far v ≡ true → is_set after.far v ≡ true
  pub own-near : is_set after.places j ≡ false → (v : ℕ) → is_set mask v ≡ true → is_set after.near v ≡ true
  pub own-far : is_set after.places j ≡ true → (v : ℕ) → is_set mask v ≡ true → is_set after.far v ≡ true

-- the sides share no variable
abbrev pub Apart : Sides → Type 0
Apart sides = (v : ℕ) → is_set sides.near v ≡ true → is_set sides.far v ≡ true → ⊥

-- ---- In a pair's combination

-- The other members are near or far, with all their variables, and the sides share none.
pub record Sided (G : Setting) (p : ℕ) (sides : Sides) : Type 0 where
  pub nearby : (i : ℕ) → i < length (combination_of G p) → (i ≡ p % G.m → ⊥) → is_set sides.places i ≡ false → (v : ℕ) → elem v (scope_of (network G) (get_or (combination_of G p) i 0)) ≡ true → is_set sides.near v ≡ true
  pub beyond : (i : ℕ) → i < length (combination_of G p) → (i ≡ p % G.m → ⊥) → is_set sides.places i ≡ true → (v : ℕ) → elem v (scope_of (network G) (get_or (combination_of G p) i 0)) ≡ true → is_set sides.far v ≡ true
  pub apart : Apart sides
