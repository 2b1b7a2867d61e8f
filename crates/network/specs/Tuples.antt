-- Two tuples of a network as lent: by their columns, by relation and index, and by id.
use Rattle.std.specs.Prelude.{◌≡◌, Bool, true, List, ℕ, ◌+◌, ◌<◌, length}
use Rattle.std.proofs.Math.Option.{Option}
use Rattle.model.specs.Network.{size, total, first_id}
use Rattle.model.specs.Agreement.{first_clash, agree}
use Rattle.model.specs.Fault.{proper_scope}
use Rattle.layout.specs.Setting.{Lists, network_in, SoundLists}

-- A proper scope, and a value for each of its variables.
pub record Columns (scope values : List ℕ) : Type 0 where
  pub widths : length scope ≡ length values
  pub proper : proper_scope scope ≡ true

-- Tuple x of relation r, and tuple y of relation s.
pub record Two (L : Lists) (r x s y : ℕ) : Type 0 where
  pub laid : SoundLists L
  pub first : x < size (network_in L) r
  pub second : y < size (network_in L) s

-- where they clash
abbrev pub clash_at : Lists → ℕ → ℕ → ℕ → ℕ → Option ℕ
clash_at L r x s y = first_clash (network_in L) (first_id (network_in L) r + x) (first_id (network_in L) s + y)

-- whether they agree
abbrev pub agree_at : Lists → ℕ → ℕ → ℕ → ℕ → Bool
agree_at L r x s y = agree (network_in L) (first_id (network_in L) r + x) (first_id (network_in L) s + y)

-- The tuples with ids g and h.
pub record TwoIds (L : Lists) (g h : ℕ) : Type 0 where
  pub laid : SoundLists L
  pub first : g < total (network_in L)
  pub second : h < total (network_in L)
