-- Fresh tuples: every support of the tuples in question has one beside the seeking tuple; and members narrowed through them.
use Rattle.std.specs.Prelude.{◌≡◌, true, ℕ, ◌+◌, ◌<◌, length, get_or}
use mathlib.Core.List.{List, Memᴰ}
use Rattle.model.specs.Lists.{pairwise}
use Rattle.model.specs.Network.{Network, size, first_id}
use Rattle.model.specs.Agreement.{agree}
use Rattle.model.specs.Combination.{Combination}
use Rattle.model.specs.Support.{candidates}
use Rattle.model.specs.LiveWords.{is_live}
use Rattle.narrowing.specs.Narrows.{Long}
use Rattle.spreading.specs.Spread.{AllLive}

-- ---- Every support has one

-- One of these tuples, not that at `place`, is fresh.
pub record HasFresh (t : List ℕ) (place : ℕ) (fresh : List ℕ) : Type 0 where
  pub j : ℕ
  pub inside : j < length t
  pub other : j ≡ place → ⊥
  pub is-fresh : is_live fresh (get_or t j 0) ≡ true

-- live tuples of all members, of which every two agree, have a fresh one, not that at `place`
abbrev pub Meets : Network → Combination → ℕ → List ℕ → List ℕ → Type 0
Meets N members place words fresh = (t : List ℕ) → Memᴰ t (candidates N members) → pairwise (agree N) t ≡ true → AllLive words t → HasFresh t place fresh

-- ---- Tuples gathered

-- What was live is, and so is every live tuple of relation s that agrees with a fresh one of relation r.
pub record GathersFrom (N : Network) (r s : ℕ) (fresh words before after : List ℕ) : Type 0 where
  pub long : Long after
  pub keeps : (z : ℕ) → z < size N s → is_live before (first_id N s + z) ≡ true → is_live after (first_id N s + z) ≡ true
  pub adds : (x z : ℕ) → x < size N r → z < size N s → agree N (first_id N r + x) (first_id N s + z) ≡ true → is_live fresh (first_id N r + x) ≡ true → is_live words (first_id N s + z) ≡ true → is_live after (first_id N s + z) ≡ true

-- .. of the member at j, with one of each other but that at `place`.
pub record GathersOthers (N : Network) (members : Combination) (place j : ℕ) (fresh words before after : List ℕ) : Type 0 where
  pub long : Long after
  pub keeps : (z : ℕ) → z < size N (get_or members j 0) → is_live before (first_id N (get_or members j 0) + z) ≡ true → is_live after (first_id N (get_or members j 0) + z) ≡ true
  pub adds : (i x z : ℕ) → i < length members → (i ≡ place → ⊥) → (i ≡ j → ⊥) → x < size N (get_or members i 0) → z < size N (get_or members j 0) → agree N (first_id N (get_or members i 0) + x) (first_id N (get_or members j 0) + z) ≡ true → is_live fresh (first_id N (get_or members i 0) + x) ≡ true → is_live words (first_id N (get_or members j 0) + z) ≡ true → is_live after (first_id N (get_or members j 0) + z) ≡ true
