-- A pair of combination and member, numbered by the member's place in the list of all combinations' members: its combination, its
-- member's tuples, and where their numbers stand in the support list.
use Rattle.std.specs.Prelude.{List, ℕ, ◌+◌, ◌*◌, take, drop}
use Rattle.model.specs.Network.{size, first_id}
use Rattle.model.specs.Combination.{Combination, pair_combination, pair_member}
use Rattle.model.specs.Consistency.{support_start}
use Rattle.layout.specs.Setting.{Setting, network}

abbrev pub combination_of : Setting → ℕ → Combination
combination_of G p = pair_combination G.m G.members p

-- how many tuples its member has
abbrev pub size_of : Setting → ℕ → ℕ
size_of G p = size (network G) (pair_member G.members p)

-- the id of its member's tuple x
abbrev pub tuple_id : Setting → ℕ → ℕ → ℕ
tuple_id G p x = first_id (network G) (pair_member G.members p) + x

-- where that tuple's numbers begin in the support list
abbrev pub place_of : Setting → ℕ → ℕ → ℕ
place_of G p x = support_start (network G) G.m G.members p + x * G.m

-- the numbers held for it
abbrev pub held : Setting → List ℕ → ℕ → ℕ → List ℕ
held G numbers p x = take G.m (drop (place_of G p x) numbers)
