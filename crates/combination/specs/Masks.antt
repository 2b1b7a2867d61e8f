-- Masks: the variables of each relation as the bits of a word, and what a set of variables takes in of a combination.
use Rattle.std.specs.Prelude.{◌≡◌, Bool, not, ◌&&◌, ◌||◌, cond, List, [], ◌∷◌, ℕ, ltb, eqb, get_or}
use Rattle.std.specs.Int.Bits.{bit_and, bit_or}
use Rattle.model.specs.Limits.{max_relations}
use Rattle.model.specs.Lists.{all, any, empty, elem}
use Rattle.model.specs.Network.{Network, scope_of}
use Rattle.model.specs.Combination.{Combination, Division, divisions}
use Rattle.model.specs.LiveWords.{is_set}

-- bit x of word r is set exactly if variable x is in the scope of relation r
abbrev pub Masks : Network → List ℕ → Type 0
Masks N ms = (r x : ℕ) → is_set (get_or ms r 0) x ≡ elem x (scope_of N r)

-- relation r has a variable of the set w
abbrev pub meets : List ℕ → ℕ → ℕ → Bool
meets ms w r = not (eqb (bit_and (get_or ms r 0) w) 0)

-- relations r and s have a variable in common
abbrev pub common : List ℕ → ℕ → ℕ → Bool
common ms r s = meets ms (get_or ms r 0) s

-- connected by the masks: no division into two groups, neither of them empty, has no variable in common
abbrev pub connected_in : List ℕ → Combination → Bool
connected_in ms c =
    all (λ (d : Division). empty d.0 || empty d.1 || any (λ (r : ℕ). any (common ms r) d.1) d.0) (divisions c)

-- relation r is one of 64, and has a variable
abbrev pub known : List ℕ → ℕ → Bool
known ms r = ltb r max_relations && common ms r r

-- the set w, with the variables of relation r if it meets w
abbrev pub grown : List ℕ → ℕ → ℕ → ℕ
grown ms w r = cond (meets ms w r) (bit_or w (get_or ms r 0)) w

-- .. and so for one relation after the other
abbrev pub absorbed : List ℕ → List ℕ → ℕ → ℕ
absorbed ms [] w = w
absorbed ms (r ∷ rs) w = absorbed ms rs (grown ms w r)
