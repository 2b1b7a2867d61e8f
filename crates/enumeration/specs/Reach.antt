-- Sets of neighbours: of each relation the relations that share a variable with it, and of each member chosen the neighbours of all that
-- it reaches among those chosen.
use Rattle.std.specs.Prelude.{◌≡◌, Bool, true, false, not, ◌&&◌, cond, List, [], ◌∷◌, ◌++◌, map, ℕ, ◌-◌, ◌/◌, ◌^◌, ◌≤◌, ◌<◌, ltb, eqb, length, get_or}
use Rattle.std.specs.Int.Bits.{bit_or}
use Rattle.model.specs.Limits.{max_relations}
use Rattle.model.specs.Lists.{from, all, any, select, first_or}
use Rattle.model.specs.Network.{Network}
use Rattle.model.specs.Agreement.{share}
use Rattle.model.specs.Combination.{Combination}
use Rattle.model.specs.LiveWords.{is_set}
use Rattle.model.specs.Enumeration.{chosen}
use Rattle.combination.specs.Masks.{meets}

-- of so many members the sets are kept: of all but the last two
abbrev pub max_sets : ℕ
max_sets = 2

-- bit s of word r is set exactly if relations r and s share a variable
abbrev pub Neighbours : Network → List ℕ → Type 0
Neighbours N near = (r s : ℕ) → r < length N.relations → s < length N.relations → is_set (get_or near r 0) s ≡ share N r s

-- .. by the masks of so many relations
abbrev pub Near : List ℕ → ℕ → List ℕ → Type 0
Near ms count near = (r s : ℕ) → r < count → is_set (get_or near r 0) s ≡ (ltb s count && meets ms (get_or ms r 0) s)

-- the set w, with every one of the sets that relation r is in
abbrev pub reach : ℕ → ℕ → List ℕ → ℕ
reach r w [] = w
reach r w (n ∷ ns) = reach r (cond (is_set n r) (bit_or w n) w) ns

-- the members' sets once relation r is chosen too, whose neighbours are w: those that r is in become one
abbrev pub joined : ℕ → ℕ → List ℕ → List ℕ
joined r w ns = map (λ (n : ℕ). cond (is_set n r) (reach r w ns) n) ns ++ (reach r w ns ∷ [])

-- .. at place j, where `all` is the new member's, at place k
abbrev pub widened : ℕ → ℕ → ℕ → ℕ → ℕ → ℕ
widened r all k j n = cond (eqb j k) all (cond (is_set n r) all n)

-- relation r is in every one of the sets
abbrev pub common : List ℕ → ℕ → Bool
common ns r = all (λ (n : ℕ). is_set n r) ns

-- a word has those that are in every set, once relation r is chosen too
abbrev pub Joining : ℕ → ℕ → ℕ → List ℕ → Type 0
Joining word r w ns = (s : ℕ) → s < max_relations → is_set word s ≡ common (joined r w ns) s

-- .. those in some set, and those in each
abbrev pub Union : ℕ → List ℕ → Type 0
Union word ns = (r : ℕ) → r < max_relations → is_set word r ≡ any (λ (n : ℕ). is_set n r) ns

abbrev pub Common : ℕ → List ℕ → Type 0
Common word ns = (r : ℕ) → r < max_relations → is_set word r ≡ common ns r

-- the members with these sets make, with the relations chosen behind them, a connected combination: the last one is in every set
abbrev pub completes : List ℕ → List ℕ → List ℕ → Bool
completes near ns [] = true
completes near ns (r ∷ []) = common ns r
completes near ns (r ∷ s ∷ t) = completes near (joined r (get_or near r 0) ns) (s ∷ t)

-- the choices of k relations from i on and below end that complete them
unfoldable pub completions : List ℕ → List ℕ → ℕ → ℕ → ℕ → List Combination
completions near ns k i end = select (completes near ns) (chosen k (from i (end - i)))

-- the first relation of a word from i on and below end; end where there is none
unfoldable pub next_in : ℕ → ℕ → ℕ → ℕ
next_in word i end = first_or end (select (is_set word) (from i (end - i)))

-- a word has those in some set, and the neighbours of those from i on in each
abbrev pub Tries : ℕ → List ℕ → ℕ → ℕ → ℕ → ℕ → Type 0
Tries word near count some all i =
    (r : ℕ) → is_set word r ≡ false → (is_set some r ≡ false) × ((s : ℕ) → i ≤ s → s < count → is_set all s ≡ true → is_set (get_or near s 0) r ≡ false)

-- .. of which each is its neighbours' neighbour
abbrev pub Mutual : List ℕ → ℕ → Type 0
Mutual near count = (r s : ℕ) → r < count → s < count → is_set (get_or near r 0) s ≡ is_set (get_or near s 0) r

-- every one of the sets has a relation from i on
abbrev pub extendable : List ℕ → ℕ → Bool
extendable ns i = all (λ (n : ℕ). not (eqb (n / 2 ^ i) 0)) ns
