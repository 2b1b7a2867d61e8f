-- Lean words: live words without tuples of other members that have an earlier double.
use Rattle.std.specs.Prelude.{◌≡◌, true, false, List, ◌⊎◌, ℕ, ◌+◌, ◌≤◌, ◌<◌, length, get_or}
use Rattle.model.specs.Network.{size, first_id}
use Rattle.model.specs.Combination.{Combination, Covers}
use Rattle.model.specs.LiveWords.{is_set, is_live}
use Rattle.layout.specs.Setting.{Lists, network_in, SoundLists}
use Rattle.narrowing.specs.Narrows.{Long}
use Rattle.spreading.specs.Spread.{Members}
use Rattle.doubles.specs.Alike.{Alike}

-- no id is raised
abbrev pub Fewer : List ℕ → List ℕ → Type 0
Fewer before after = (g : ℕ) → is_live after g ≡ true → is_live before g ≡ true

-- ---- One relation

-- A live tuple y of relation r before x has x's values under the variables of the set.
pub record Repeated (L : Lists) (set r : ℕ) (words : List ℕ) (x : ℕ) : Type 0 where
  pub y : ℕ
  pub before : y < x
  pub lives : is_live words (first_id (network_in L) r + y) ≡ true
  pub alike : Alike L set r x y

-- No id is raised, the ids outside relation r stay, and a tuple of it that falls has the values of a live one before it.
pub record Thinned (L : Lists) (set r : ℕ) (before after : List ℕ) : Type 0 where
  pub long : Long after
  pub inside : Fewer before after
  pub outside : (g : ℕ) → (g < first_id (network_in L) r) ⊎ (first_id (network_in L) r + size (network_in L) r ≤ g) → is_live after g ≡ is_live before g
  pub repeats : (x : ℕ) → x < size (network_in L) r → is_live before (first_id (network_in L) r + x) ≡ true → is_live after (first_id (network_in L) r + x) ≡ false → Repeated L set r before x

-- ---- A combination

-- The members of a combination in sound lists, and the place of one of them.
pub record LeanAt (L : Lists) (c : Combination) (place : ℕ) : Type 0 where
  pub laid : SoundLists L
  pub members : Members (network_in L) c
  pub inside : place < length c

-- Tuple x of the member at j has a double: a live tuple before it with its values under every variable that the other members have.
pub record Double (L : Lists) (c : Combination) (j : ℕ) (words : List ℕ) (x : ℕ) : Type 0 where
  pub set : ℕ
  pub covers : Covers (network_in L) c j (is_set set)
  pub repeated : Repeated L set (get_or c j 0) words x

-- Of the member at `place` every live tuple is in the lean words; of another one only live tuples are, and a live one that is not has a
-- double.
pub record Lean (L : Lists) (c : Combination) (place : ℕ) (words lean : List ℕ) : Type 0 where
  pub long : Long lean
  pub own : (x : ℕ) → x < size (network_in L) (get_or c place 0) → is_live words (first_id (network_in L) (get_or c place 0) + x) ≡ true → is_live lean (first_id (network_in L) (get_or c place 0) + x) ≡ true
  pub others : (j x : ℕ) → j < length c → (j ≡ place → ⊥) → x < size (network_in L) (get_or c j 0) → is_live lean (first_id (network_in L) (get_or c j 0) + x) ≡ true → is_live words (first_id (network_in L) (get_or c j 0) + x) ≡ true
  pub doubles : (j x : ℕ) → j < length c → (j ≡ place → ⊥) → x < size (network_in L) (get_or c j 0) → is_live words (first_id (network_in L) (get_or c j 0) + x) ≡ true → is_live lean (first_id (network_in L) (get_or c j 0) + x) ≡ false → Double L c j words x

-- .. and no id is raised
abbrev pub LeanFrom : Lists → Combination → ℕ → List ℕ → List ℕ → Type 0
LeanFrom L c place words lean = Lean L c place words lean × Fewer words lean
