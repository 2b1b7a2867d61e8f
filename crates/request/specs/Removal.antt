-- The ids that a change removes, as words, and the live words without them.
use Rattle.std.specs.Prelude.{◌≡◌, Bool, false, ◌&&◌, ◌||◌, cond, List, ℕ, ◌+◌, ◌*◌, ◌≤◌, ◌<◌, leb, ltb, length}
use Rattle.model.specs.Limits.{max_tuples, word_bits}
use Rattle.model.specs.Lists.{elem}
use Rattle.model.specs.TupleSet.{without}
use Rattle.model.specs.Network.{Network, total}
use Rattle.model.specs.LiveWords.{is_live, living, written, raised}
use Rattle.model.specs.Request.{Change, removes}
use Rattle.live.specs.Words.{WordArray}
use Rattle.layout.specs.Starts.{tuple_start}
use Rattle.layout.specs.Setting.{Lists, network_in}
use Rattle.combination.specs.Proper.{below}
use Rattle.request.specs.declared.removal.Ids.{Ids}

-- of the ids below 4,096 the words hold those that pass
abbrev pub Holds : List ℕ → (ℕ → Bool) → Type 0
Holds ws p = (g : ℕ) → g < max_tuples → is_live ws g ≡ p g

-- the words with id g set, if they have a bit for it
unfoldable pub added : ℕ → List ℕ → List ℕ
added g ws = cond (ltb g max_tuples) (raised g ws) ws

-- the least number that is above id g and not below the bound
unfoldable pub above : ℕ → ℕ → ℕ
above bound g = cond (ltb bound (g + 1)) (g + 1) bound

-- The ids of a list, as words and by the least number above all.
pub record IdsOf (r : Ids) (ids : List ℕ) : Type 0 where
  pub held : Holds r.words (λ (g : ℕ). elem g ids)
  pub highest : (n : ℕ) → leb r.bound n ≡ below n ids

-- id g is a tuple of the network's that the change removes
abbrev pub removed_by : Network → Change → ℕ → Bool
removed_by N change g = ltb g (total N) && removes N change g

-- id g is one from start on and below end
abbrev pub between : ℕ → ℕ → ℕ → Bool
between start end g = leb start g && ltb g end

-- id g is a tuple of relation r that the change removes
abbrev pub removed_in : Lists → ℕ → Change → ℕ → Bool
removed_in L r change g = between (tuple_start L.starts r) (tuple_start L.starts (r + 1)) g && removes (network_in L) change g

-- The words vs are ws with the ids that pass besides.
pub record Added (ws vs : List ℕ) (p : ℕ → Bool) : Type 0 where
  pub full : WordArray vs
  pub bits : (g : ℕ) → g < max_tuples → is_live vs g ≡ (is_live ws g || p g)

-- There is a live bit for each of the n ids, and no other id is removed.
pub record Room (words removed : List ℕ) (n : ℕ) : Type 0 where
  pub few : n ≤ max_tuples
  pub bits : n ≤ word_bits * length words
  pub full : WordArray removed
  pub inside : (g : ℕ) → n ≤ g → g < max_tuples → is_live removed g ≡ false

-- the words once the ids below n that pass are dead, every other bit as it was
abbrev pub without_ids : ℕ → (ℕ → Bool) → List ℕ → List ℕ
without_ids n p ws = written n (without p (living n ws)) ws
