-- Bigger combinations only tighten, and filtering again changes nothing (card 14): what is promised of two change calls on one
-- network. proofs/Tighter.antt, Extension.antt and Repeats.antt prove it of `reply`.
use Rattle.std.specs.Prelude.{◌≡◌, Bool, true, ◌⊎◌, ℕ, ◌≤◌, ◌<◌, length, take, drop}
use mathlib.Core.List.{List, ◌++◌, Memᴰ}
use Rattle.model.specs.Lists.{all, any, elem}
use Rattle.model.specs.TupleSet.{Inside}
use Rattle.model.specs.Network.{Network}
use Rattle.model.specs.Agreement.{share}
use Rattle.model.specs.Combination.{Combination}
use Rattle.model.specs.Consistency.{needed}
use Rattle.model.specs.LiveWords.{is_live}
use Rattle.model.specs.Request.{Change, filter, combinations_of, Request}
use Rattle.model.specs.Reply.{Numbers, Reply}
use Rattle.model.specs.Enumeration.{IsConnected}
use Rattle.model.specs.Promises.{left_tuples}

-- ---- Combinations inside others

-- combination c lies inside combination d: every member of c is one of d
unfoldable pub lies_inside : Combination → Combination → Bool
lies_inside c d = all (λ (r : ℕ). elem r d) c

-- each combination of the first list lies inside some combination of the second; repeats and order do not matter
unfoldable pub all_inside : List Combination → List Combination → Bool
all_inside cs ds = all (λ (c : Combination). any (lies_inside c) ds) cs

-- each of the list lies inside a proper connected combination of m members
abbrev pub LieInConnected : Network → ℕ → List Combination → Type 0
LieInConnected N m cs = (c : Combination) → Memᴰ c cs → (d : Combination) × IsConnected N m d × (lies_inside c d ≡ true)

-- A relation outside combination c that shares a variable with a member of c.
pub record Beside (N : Network) (c : Combination) : Type 0 where
  pub relation : ℕ
  pub exists : relation < length N.relations
  pub outside : Memᴰ relation c → ⊥
  pub member : ℕ
  pub listed : Memᴰ member c
  pub shares : share N member relation ≡ true

-- each of the list has one
abbrev pub HaveBeside : Network → List Combination → Type 0
HaveBeside N cs = (c : Combination) → Memᴰ c cs → Beside N c

-- ---- Two calls from the same start

-- Two requests on one network, with the same live words and the same change; m, the combinations and the supports lent may differ.
pub record SameStart (first second : Request) : Type 0 where
  pub network : first.given.network ≡ second.given.network
  pub words : first.words ≡ second.words
  pub change : first.change ≡ second.change

-- The second call, whose reply is r, leaves no tuple that the first, whose reply is p, removed.
pub record Tighter (first : Request) (p : Reply) (second : Request) (r : Reply) : Type 0 where
  -- every tuple that lives after the second lives after the first
  pub tuples : Inside (left_tuples second r) (left_tuples first p)
  -- .. and so with every bit of their words, the spare ones too
  pub bits : (g : ℕ) → is_live r.words g ≡ true → is_live p.words g ≡ true
  -- the second leaves no more, withdraws as many, and deletes no fewer
  pub left : r.answer.left ≤ p.answer.left
  pub withdrawn : r.answer.withdrawn ≡ p.answer.withdrawn
  pub deleted : p.answer.deleted ≤ r.answer.deleted

-- ---- A call after a call

-- a change that finds nothing to remove after q: filter, or q's own change once more
abbrev pub Spent : Request → Change → Type 0
Spent q change = (change ≡ filter) ⊎ (change ≡ q.change)

-- the request of a change on the lists that q leaves, where p is its reply, with these supports lent
abbrev pub again : Request → Reply → Change → List ℕ → Request
again q p change supports = record { given = q.given; words = p.words; supports = supports; counts = p.counts; change = change }

-- the same kind, subject and tuples left, with nothing withdrawn and nothing deleted
abbrev pub nothing_gone : Numbers → Numbers
nothing_gone a = record { kind = a.kind; subject = a.subject; left = a.left; withdrawn = 0; deleted = 0 }

-- The second call, which is lent these supports and whose reply is r, changes nothing that q left, where p is q's reply: no word, no
-- count, and no number over the needed length of the supports, beyond which they are as lent. It removes nothing.
pub record Repeats (q : Request) (p : Reply) (supports : List ℕ) (r : Reply) : Type 0 where
  pub answer : r.answer ≡ nothing_gone p.answer
  pub words : r.words ≡ p.words
  pub counts : r.counts ≡ p.counts
  pub numbers : (let k = needed q.given.network (combinations_of q.given) in r.supports ≡ take k p.supports ++ drop k supports)
  -- .. so that all of them are as they were, where it is lent those that q left
  pub same_numbers : supports ≡ p.supports → r.supports ≡ p.supports
