-- A relation narrowed through two others at once, by the classes of the values that they share.
use Rattle.std.specs.Prelude.{◌≡◌, Bool, true, false, cond, List, ◌⊎◌, ℕ, ◌+◌, ◌*◌, ◌/◌, ◌%◌, ◌≤◌, ◌<◌, eqb, length, get_or, set}
use Rattle.std.specs.Int.Bits.{bit_or}
use Rattle.model.specs.Limits.{max_relations, max_width}
use Rattle.model.specs.Network.{Network, width, size, first_id}
use Rattle.model.specs.Agreement.{is_any, agree}
use Rattle.model.specs.LiveWords.{is_set, is_live}
use Rattle.narrowing.specs.Narrows.{Long, Dead}
use Rattle.narrowing.specs.Sieve.{value_in}
use Rattle.value_index.specs.Plan.{mixed}

-- ---- Classes of values

-- the class of any, behind those of all other values
abbrev pub of_any : ℕ
of_any = 256

-- the row that has the classes of all tuples
abbrev pub of_all : ℕ
of_all = 257

-- the words of a table
abbrev pub cells : ℕ
cells = 1032

-- the class of a value, by a factor
unfoldable pub class_of : ℕ → ℕ → ℕ
class_of factor v = cond (is_any v) of_any (mixed (v * (factor % 65536) % 4294967296) / 16777216)

-- the column is one of relation r's, or past all columns
abbrev pub ColumnOr : Network → ℕ → ℕ → Type 0
ColumnOr N r column = (column ≡ max_width → ⊥) → column < width N r

-- the class of the value that tuple x of relation r has in a column; that of any past all columns
abbrev pub class_at : Network → ℕ → ℕ → ℕ → ℕ → ℕ
class_at N r x column factor = cond (eqb column max_width) of_any (class_of factor (value_in N r x column))

-- the row in which what fits a value of a class is found, beside that of any
abbrev pub sought_row : ℕ → ℕ
sought_row class = cond (eqb class of_any) of_all class

-- ---- Tables

-- more bits in a word
unfoldable pub raised : ℕ → ℕ → List ℕ → List ℕ
raised word bits table = set table word (bit_or (get_or table word 0) bits)

-- a row has a class
abbrev pub Has : List ℕ → ℕ → ℕ → Type 0
Has table row c = is_set (get_or table (4 * row + c / 64) 0) (c % 64) ≡ true

-- c is the class of a value, or that is any
abbrev pub Of : ℕ → ℕ → Type 0
Of class c = (class ≡ of_any) ⊎ (class ≡ c)

-- A class more in a row, of any all; what was there stays.
pub record Adds (row class : ℕ) (before after : List ℕ) : Type 0 where
  pub long : length after ≡ cells
  pub stays : (r c : ℕ) → Has before r c → Has after r c
  pub added : (c : ℕ) → c < of_any → Of class c → Has after row c

-- Of every live tuple of relation s, the row of its class in the one column has its class in the other, and so has the row of all.
pub record Reaches (N : Network) (s key over factor : ℕ) (words table : List ℕ) : Type 0 where
  pub long : length table ≡ cells
  pub own : (z c : ℕ) → z < size N s → is_live words (first_id N s + z) ≡ true → c < of_any → Of (class_at N s z over factor) c → Has table (class_at N s z key factor) c
  pub all : (z c : ℕ) → z < size N s → is_live words (first_id N s + z) ≡ true → c < of_any → Of (class_at N s z over factor) c → Has table of_all c

-- a class is in a row or in that of any
abbrev pub Reached : List ℕ → ℕ → ℕ → Type 0
Reached table row c = Has table row c ⊎ Has table of_any c

-- true where some class is in both
abbrev pub Meets : List ℕ → List ℕ → ℕ → ℕ → Bool → Type 0
Meets near far a b r = (c : ℕ) → c < of_any → Reached near a c → Reached far b c → r ≡ true

-- ---- Narrowing

-- two columns of relation r, or past all columns, and two tables
abbrev pub PassesAt : Network → ℕ → ℕ → ℕ → List ℕ → List ℕ → Type 0
PassesAt N r a b near far = (ColumnOr N r a × ColumnOr N r b) × ((length near ≡ cells) × (length far ≡ cells))

-- Tuple x of relation r has, by its classes in columns a and b, a class in both tables.
pub record Passes (N : Network) (r a b factor : ℕ) (near far : List ℕ) (x : ℕ) : Type 0 where
  pub c : ℕ
  pub below : c < of_any
  pub in_near : Reached near (sought_row (class_at N r x a factor)) c
  pub in-far : Reached far (sought_row (class_at N r x b factor)) c

-- No id is raised, the ids outside relation r stay, and so does a tuple of which the test holds.
pub record Narrowing (N : Network) (r : ℕ) (test : ℕ → Type 0) (before after : List ℕ) : Type 0 where
  pub long : Long after
  pub inside : (g : ℕ) → is_live after g ≡ true → is_live before g ≡ true
  pub outside : (g : ℕ) → (g < first_id N r) ⊎ (first_id N r + size N r ≤ g) → is_live after g ≡ is_live before g
  pub keeps : (x : ℕ) → x < size N r → test x → is_live before (first_id N r + x) ≡ true → is_live after (first_id N r + x) ≡ true

-- .. false only where none of its tuples is live any more
abbrev pub Narrows : Network → ℕ → (ℕ → Type 0) → List ℕ → List ℕ → Bool → Type 0
Narrows N r test before after found = Narrowing N r test before after × (found ≡ false → Dead N r after)

-- numbers of relations
abbrev pub Three : ℕ → ℕ → ℕ → Type 0
Three r s t = (r < max_relations) × ((s < max_relations) × (t < max_relations))

-- Tuple x of relation r agrees with a live tuple of s and one of t, which agree with each other.
pub record Between (N : Network) (r s t : ℕ) (words : List ℕ) (x : ℕ) : Type 0 where
  pub y : ℕ
  pub z : ℕ
  pub y-in : y < size N s
  pub z-in : z < size N t
  pub y-lives : is_live words (first_id N s + y) ≡ true
  pub z-lives : is_live words (first_id N t + z) ≡ true
  pub with-y : agree N (first_id N r + x) (first_id N s + y) ≡ true
  pub with-z : agree N (first_id N r + x) (first_id N t + z) ≡ true
  pub each-other : agree N (first_id N s + y) (first_id N t + z) ≡ true

-- relation r narrowed so that such tuples stay
abbrev pub Bridged : Network → ℕ → ℕ → ℕ → List ℕ → List ℕ → Bool → Type 0
Bridged N r s t before after found = Narrows N r (Between N r s t before) before after found
