-- Twins: an earlier tuple of the same relation, with the same values under every variable that the other members of the combination have;
-- which tuples were sought in a visit; and what it asks and gives to take a twin's first support, or to fall where it fell.
use Rattle.std.specs.Prelude.{◌≡◌, true, false, cond, List, ℕ, ◌+◌, ◌*◌, ◌%◌, ◌≤◌, ◌<◌, length, get_or}
use Rattle.model.specs.Limits.{no_support, word_bits}
use Rattle.model.specs.TupleSet.{has}
use Rattle.model.specs.Network.{size, total, first_id}
use Rattle.model.specs.Agreement.{agree}
use Rattle.model.specs.Support.{first_support, Partners}
use Rattle.model.specs.LiveWords.{is_set, is_live}
use Rattle.model.specs.Combination.{pair_member}
use Rattle.model.specs.Consistency.{needed}
use Rattle.layout.specs.Setting.{Lists, Setting, network, listed, live_in}
use Rattle.layout.specs.Pairs.{combination_of, size_of, tuple_id, place_of}
use Rattle.worklist.specs.Supports.{replaced, Supported, Done}
use Rattle.doubles.specs.Alike.{PairAt, Alike}
use Rattle.doubles.specs.Doubles.{places, FirstAlike}
use Rattle.twins.specs.declared.sides.Sides.{Sides}
use Rattle.twins.specs.declared.Twin.{Twin}
use Rattle.twins.specs.declared.Twin.TheVariants as twin

-- ---- In a pair's combination

-- the tuple whose index stands at j, of the member at j
abbrev pub beside_id : Setting → ℕ → List ℕ → ℕ → ℕ
beside_id G p tuples j = first_id (network G) (get_or (combination_of G p) j 0) + get_or tuples j 0

-- Tuple x of the pair's member, beside tuples of all members.
pub record Beside (G : Setting) (p x : ℕ) (tuples : List ℕ) : Type 0 where
  pub at : PairAt G p
  pub index : x < size_of G p
  pub within : (j : ℕ) → j < G.m → get_or tuples j 0 < size (network G) (get_or (combination_of G p) j 0)

-- it agrees with those of the other members
abbrev pub AgreesWith : Setting → ℕ → ℕ → List ℕ → Type 0
AgreesWith G p x tuples = (j : ℕ) → j < G.m → (j ≡ p % G.m → ⊥) → agree (network G) (tuple_id G p x) (beside_id G p tuples j) ≡ true

-- ---- The tuples that were sought

-- Tuple y of pair p's member was sought before tuple k: if it is dead, it has no partners.
pub record WasSought (G : Setting) (words : List ℕ) (p k y : ℕ) : Type 0 where
  pub before : y < k
  pub fell : has (live_in G words) (tuple_id G p y) ≡ false → Partners (network G) (live_in G words) (combination_of G p) (p % G.m) (tuple_id G p y) → ⊥

-- Every entry of the table that is not 65,535 was sought before tuple k.
pub record Noted (G : Setting) (words : List ℕ) (p k : ℕ) (sought : List ℕ) : Type 0 where
  pub long : length sought ≡ places
  pub entries : (i : ℕ) → i < places → (get_or sought i 0 ≡ no_support → ⊥) → WasSought G words p k (get_or sought i 0)

-- ---- Its first support

-- A live tuple x of pair p's member, before which all are done, and where its numbers begin.
pub record TwinAt (G : Setting) (words numbers : List ℕ) (p x place : ℕ) : Type 0 where
  pub at : PairAt G p
  pub index : x < size_of G p
  pub lives : has (live_in G words) (tuple_id G p x) ≡ true
  pub enough : total (network G) ≤ word_bits * length words
  pub room : needed (network G) (listed G) ≤ length numbers
  pub done : Done G words numbers p x
  pub begins : place ≡ place_of G p x

-- ---- Its twins

-- If tuple y is before x: it has x's values under the variables of the set, and was sought.
pub record Earlier (G : Setting) (words : List ℕ) (p x set y : ℕ) : Type 0 where
  pub alike : y < x → Alike G.lists set (pair_member G.members p) x y
  pub sought : y < x → WasSought G words p x y

-- Of the near side y is such a tuple, and z of the far one; where no member is far, z is y.
pub record Twins (G : Setting) (words : List ℕ) (p x : ℕ) (sides : Sides) (y z : ℕ) : Type 0 where
  pub near : Earlier G words p x sides.near y
  pub far : (sides.places ≡ 0 → ⊥) → Earlier G words p x sides.far z
  pub one : sides.places ≡ 0 → z ≡ y

-- Both are before x, and live.
pub record LiveTwins (G : Setting) (words : List ℕ) (p x y z : ℕ) : Type 0 where
  pub y-before : y < x
  pub z-before : z < x
  pub y-lives : has (live_in G words) (tuple_id G p y) ≡ true
  pub z-lives : has (live_in G words) (tuple_id G p z) ≡ true

-- A tuple z before x is an entry with x's values under the variables of the set, and lives, by its id.
pub record FarTwin (L : Lists) (words : List ℕ) (set r first x : ℕ) (before : List ℕ) (z : ℕ) (after : List ℕ) : Type 0 where
  pub found : FirstAlike L set r x before z after
  pub lives : z < x → is_live words (first + z) ≡ true

-- the numbers from `far` on at the places of the set, and from `near` on at the others
abbrev pub LoadsSides : List ℕ → ℕ → ℕ → ℕ → ℕ → List ℕ → Type 0
LoadsSides numbers near far m places tuples = (j : ℕ) → j < m → get_or tuples j 0 ≡ get_or numbers (cond (is_set places j) far near + j) 0

-- What comes of a twin of x: x's numbers are its first support; or it has none, and no number changes; or no number changes.
abbrev pub Outcome : Setting → ℕ → ℕ → List ℕ → List ℕ → Twin → List ℕ → Type 0
Outcome G p x words numbers twin.Taken after =
    (after ≡ replaced numbers (first_support (network G) (live_in G words) (combination_of G p) (tuple_id G p x)) (place_of G p x) G.m)
    × Supported G (live_in G words) (combination_of G p) (tuple_id G p x)
Outcome G p x words numbers twin.Fallen after = (after ≡ numbers) × (Supported G (live_in G words) (combination_of G p) (tuple_id G p x) → ⊥)
Outcome G p x words numbers twin.None after = after ≡ numbers
