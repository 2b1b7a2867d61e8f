-- The support list: where each pair's numbers begin, the tuples that a support names, and when a pair's tuples are done.
use Rattle.std.specs.Prelude.{◌≡◌, Bool, true, ℕ, ◌+◌, ◌*◌, ◌≤◌, ◌<◌, length, get_or, take, drop}
use mathlib.Core.List.{List, ◌++◌, Memᴰ}
use Rattle.model.specs.Limits.{max_relations, max_tuples, max_members, max_support_numbers, word_bits}
use Rattle.model.specs.Lists.{from, all}
use Rattle.model.specs.TupleSet.{TupleSet, has}
use Rattle.model.specs.LiveWords.{is_live}
use Rattle.model.specs.Combination.{Combination, combinations}
use Rattle.model.specs.Support.{candidates, is_support, first_support}
use Rattle.model.specs.Consistency.{needed, support_start}
use Rattle.layout.specs.Starts.{tuple_start, outline}
use Rattle.layout.specs.Setting.{Setting, network, live_in}
use Rattle.layout.specs.Pairs.{combination_of, tuple_id, held}

-- the list with `new` in place of the m elements from `at` on
abbrev pub replaced {ℓ} : {A : Type ℓ} → List A → List A → ℕ → ℕ → List A
replaced list new at m = take at list ++ new ++ drop (at + m) list

-- ---- Where each pair's numbers begin

-- the supports do not need too many numbers: no fault 12
abbrev pub SupportsFit : List ℕ → ℕ → List ℕ → Type 0
SupportsFit starts m members = needed (outline starts) (combinations m members) ≤ max_support_numbers

-- where each pair's numbers begin, and behind the last pair how many numbers there are
abbrev pub PairsBegin : List ℕ → ℕ → List ℕ → List ℕ → Type 0
PairsBegin starts m members begins = (p : ℕ) → p ≤ length members → get_or begins p 0 ≡ support_start (outline starts) m members p

-- ---- The tuples of a support

-- the id of the tuple whose index stands at j, in the relation that is member j from base on
abbrev pub chosen_id : List ℕ → List ℕ → ℕ → List ℕ → ℕ → ℕ
chosen_id starts members base tuples j = tuple_start starts (get_or members (base + j) 0) + get_or tuples j 0

-- it is live
abbrev pub is_chosen_live : List ℕ → List ℕ → List ℕ → ℕ → List ℕ → ℕ → Bool
is_chosen_live words starts members base tuples j = is_live words (chosen_id starts members base tuples j)

-- all m are
abbrev pub all_live : List ℕ → List ℕ → List ℕ → ℕ → ℕ → List ℕ → Bool
all_live words starts members base m tuples = all (is_chosen_live words starts members base tuples) (from 0 m)

-- There is a bit for each of the tuples chosen for the m members from base on.
pub record Chosen (words starts members : List ℕ) (base m : ℕ) (tuples : List ℕ) : Type 0 where
  pub few : m ≤ max_members
  pub inside : base + m ≤ length members
  pub relations : (j : ℕ) → j < m → get_or members (base + j) 0 < max_relations
  pub ids : (j : ℕ) → j < m → chosen_id starts members base tuples j < max_tuples
  pub bits : (j : ℕ) → j < m → chosen_id starts members base tuples j < word_bits * length words

-- ---- What is done

-- tuple g has a support in combination c while S lives
abbrev pub Supported : Setting → TupleSet → Combination → ℕ → Type 0
Supported G S c g = (t : List ℕ) × Memᴰ t (candidates (network G) c) × (is_support (network G) S g t ≡ true)

-- The first k tuples of pair p's member are done: those that live have their first support in the list.
abbrev pub Done : Setting → List ℕ → List ℕ → ℕ → ℕ → Type 0
Done G words numbers p k =
    (x : ℕ)
    → x < k
    → has (live_in G words) (tuple_id G p x) ≡ true
    → Supported G (live_in G words) (combination_of G p) (tuple_id G p x) × (held G numbers p x ≡ first_support (network G) (live_in G words) (combination_of G p) (tuple_id G p x))
