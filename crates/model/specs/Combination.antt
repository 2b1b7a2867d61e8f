-- Combinations of relations: connected ones, and chains of them.
use Rattle.std.specs.Prelude.{◌≡◌, Bool, true, ◌||◌, ℕ, ◌*◌, ◌/◌, ◌<◌, length, get_or, take, drop}
use mathlib.Core.List.{List, [], ◌∷◌, map, Memᴰ}
use Rattle.model.specs.Lists.{from, all, any, elem, empty}
use Rattle.model.specs.Network.{Network, scope_of}
use Rattle.model.specs.Agreement.{share}

-- A combination: the numbers of its member relations.
abbrev pub Combination : Type 0
Combination = List ℕ

-- the combinations of a list that holds m members of each, end to end
unfoldable pub combinations : ℕ → List ℕ → List Combination
combinations m list = map (λ (k : ℕ). take m (drop (k * m) list)) (from 0 (length list / m))

-- A pair of combination and member is numbered by the member's place in that list: the combination, and the member.
abbrev pub pair_combination : ℕ → List ℕ → ℕ → Combination
pair_combination m list p = take m (drop (p / m * m) list)

abbrev pub pair_member : List ℕ → ℕ → ℕ
pair_member list p = get_or list p 0

-- every variable of the members, but for those of the one at place j, passes the test
abbrev pub Covers : Network → Combination → ℕ → (ℕ → Bool) → Type 0
Covers N c j test = (i : ℕ) → i < length c → (i ≡ j → ⊥) → (v : ℕ) → elem v (scope_of N (get_or c i 0)) ≡ true → test v ≡ true

-- Two groups.
abbrev pub Division : Type 0
Division = List ℕ × List ℕ

abbrev pub add_to_either : ℕ → List Division → List Division
add_to_either r [] = []
add_to_either r (d ∷ ds) = (r ∷ d.0, d.1) ∷ (d.0, r ∷ d.1) ∷ add_to_either r ds

-- every way to divide the members into two groups
abbrev pub divisions : Combination → List Division
divisions [] = ([], []) ∷ []
divisions (r ∷ c) = add_to_either r (divisions c)

-- some relation of the one group shares a variable with one of the other
abbrev pub linked : Network → Division → Bool
linked N d = any (λ (r : ℕ). any (share N r) d.1) d.0

-- connected: no division into two groups, neither of them empty, shares no variable
unfoldable pub connected : Network → Combination → Bool
connected N c = all (λ (d : Division). empty d.0 || empty d.1 || linked N d) (divisions c)

-- A chain of combinations from relation r to relation t: each two neighbours stand in one listed combination.
pub data Chain (cs : List Combination) : ℕ → ℕ → Type 0 where
  stop : {r : ℕ} → Chain cs r r
  link : {r s t : ℕ} (c : Combination) → Memᴰ c cs → Memᴰ r c → Memᴰ s c → Chain cs s t → Chain cs r t
