-- What the test asks, and what it tests: of one tuple, of one pair of combination and member, and of all.
use Rattle.std.specs.Prelude.{Bool, not, ◌||◌, List, ℕ, ◌<◌, length, replicate, set}
use Rattle.model.specs.Limits.{max_members}
use Rattle.model.specs.Lists.{all, any}
use Rattle.model.specs.TupleSet.{TupleSet, has}
use Rattle.model.specs.Network.{Network, ids_of}
use Rattle.model.specs.Combination.{Combination, pair_member}
use Rattle.model.specs.Support.{candidates, is_support}
use Rattle.model.specs.Consistency.{is_consistent}
use Rattle.layout.specs.Setting.{Setting, network, listed, live_in, Sound}
use Rattle.layout.specs.Pairs.{combination_of}
use Rattle.value_index.specs.Index.{Indexed}
use Rattle.support.specs.Search.{Search, net_of, live_of, seeker}

-- ---- One tuple

-- the lowest indices of a candidate that has tuple `own` at `place`
abbrev pub lowest : ℕ → ℕ → List ℕ
lowest place own = set (replicate max_members 0) place own

-- the seeking tuple has a support
abbrev pub has_support : Search → Bool
has_support Q = any (is_support (net_of Q) (live_of Q) (seeker Q)) (candidates (net_of Q) Q.members)

-- ---- One pair

-- What the test of pair p asks.
pub record PairAt (G : Setting) (index : List ℕ) (p : ℕ) : Type 0 where
  pub sound : Sound G
  pub indexed : Indexed (network G) index
  pub pair : p < length G.members

-- every live tuple of relation r has a support in combination c
unfoldable pub consistent_in : Network → TupleSet → Combination → ℕ → Bool
consistent_in N S c r = all (λ (g : ℕ). not (has S g) || any (is_support N S g) (candidates N c)) (ids_of N r)

-- .. of pair p's member and combination
abbrev pub pair_consistent : Setting → List ℕ → ℕ → Bool
pair_consistent G words p = consistent_in (network G) (live_in G words) (combination_of G p) (pair_member G.members p)

-- ---- All

-- the live tuples are consistent
abbrev pub all_consistent : Setting → List ℕ → Bool
all_consistent G words = is_consistent (network G) (listed G) (live_in G words)
