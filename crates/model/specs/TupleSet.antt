-- Sets of tuples, and the largest consistent set inside a set, for any rule that says which tuples may stay.
use Rattle.std.specs.Prelude.{◌≡◌, Bool, true, false, not, ◌&&◌, List, [], ◌∷◌, ℕ, suc, length, get_or}
use Rattle.model.specs.Lists.{iterate}

-- A set of tuples: a Bool for each id, from id 0.
abbrev pub TupleSet : Type 0
TupleSet = List Bool

abbrev pub has : TupleSet → ℕ → Bool
has S g = get_or S g false

-- how many tuples S has
abbrev pub count : TupleSet → ℕ
count [] = 0
count (true ∷ S) = suc (count S)
count (false ∷ S) = count S

abbrev pub restrict_from : ℕ → (ℕ → Bool) → TupleSet → TupleSet
restrict_from i p [] = []
restrict_from i p (x ∷ S) = (x && p i) ∷ restrict_from (suc i) p S

-- the tuples of S whose ids pass the test
abbrev pub restrict : (ℕ → Bool) → TupleSet → TupleSet
restrict p S = restrict_from 0 p S

-- S without the tuples whose ids pass the test
abbrev pub without : (ℕ → Bool) → TupleSet → TupleSet
without p S = restrict (λ (g : ℕ). not (p g)) S

-- every tuple of S is in T
abbrev pub Inside : TupleSet → TupleSet → Type 0
Inside S T = (g : ℕ) → has S g ≡ true → has T g ≡ true

-- A rule says of a tuple whether it may stay while the live tuples are S.
abbrev pub Rule : Type 0
Rule = TupleSet → ℕ → Bool

-- S is consistent: each of its tuples may stay.
abbrev pub Consistent : Rule → TupleSet → Type 0
Consistent rule S = (g : ℕ) → has S g ≡ true → rule S g ≡ true

-- T is the largest consistent set inside S.
pub record Largest (rule : Rule) (S T : TupleSet) : Type 0 where
  pub consistent : Consistent rule T
  pub inside : Inside T S
  pub above : (U : TupleSet) → Consistent rule U → Inside U S → Inside U T

-- one round: the tuples that may stay
abbrev pub round : Rule → TupleSet → TupleSet
round rule S = restrict (rule S) S

-- rounds, as many as there are ids: enough to reach the largest consistent set
unfoldable pub closure : Rule → TupleSet → TupleSet
closure rule S = iterate (length S) (round rule) S
