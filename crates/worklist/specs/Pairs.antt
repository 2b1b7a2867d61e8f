-- Which pairs of combination and member wait, and which ones a removal adds. A pair is numbered by the member's place in the list of
-- all combinations' members.
use Rattle.std.specs.Prelude.{◌≡◌, Bool, not, ◌&&◌, ◌||◌, List, ℕ, ◌/◌, ◌<◌, ltb, leb, eqb}
use Rattle.model.specs.Limits.{max_pairs}
use Rattle.model.specs.Lists.{elem}
use Rattle.model.specs.LiveWords.{is_live}
use Rattle.model.specs.Combination.{pair_combination, pair_member}

-- the pairs that wait after are those that waited before and those that pass the test
abbrev pub WaitToo : List ℕ → (ℕ → Bool) → List ℕ → Type 0
WaitToo before test after = (q : ℕ) → q < max_pairs → is_live after q ≡ (is_live before q || test q)

-- pair q is one of those from base on and below end, and its member is not relation r
unfoldable pub others : ℕ → ℕ → List ℕ → ℕ → ℕ → Bool
others base end members r q = leb base q && ltb q end && not (eqb (pair_member members q) r)

-- A tuple removed in a visit of pair p queues pair q: of another combination, which holds p's relation, and of another member
-- (document 01: "the other members of every other combination with that sheet").
unfoldable pub queues : ℕ → List ℕ → ℕ → ℕ → Bool
queues m members p q =
    not (eqb (q / m) (p / m))
    && elem (pair_member members p) (pair_combination m members q)
    && not (eqb (pair_member members q) (pair_member members p))
