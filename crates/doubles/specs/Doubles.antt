-- The table by which doubles are found.
use Rattle.std.specs.Prelude.{◌≡◌, List, ◌⊎◌, ℕ, ◌<◌, length, get_or}
use Rattle.layout.specs.Setting.{Lists}
use Rattle.doubles.specs.Alike.{Alike}

-- its entries
abbrev pub places : ℕ
places = 2048

-- hashes lie below
abbrev pub hash_bound : ℕ
hash_bound = 4294967296

-- every entry of the table stays, or is x's index
abbrev pub Entered : ℕ → List ℕ → List ℕ → Type 0
Entered x before after = (length after ≡ length before) × ((i : ℕ) → (get_or after i 0 ≡ get_or before i 0) ⊎ (get_or after i 0 ≡ x))

-- A tuple y before x is an entry with x's values; of the table no other entry changes than one that is x's index now.
pub record FirstAlike (L : Lists) (set r x : ℕ) (before : List ℕ) (y : ℕ) (after : List ℕ) : Type 0 where
  pub entered : Entered x before after
  pub entry : y < x → (i : ℕ) × (i < length before) × (get_or before i 0 ≡ y)
  pub alike : y < x → Alike L set r x y
