-- The rest of a pair's tuples sought together: which of them seek, and what the search leaves.
use Rattle.std.specs.Prelude.{◌≡◌, true, List, ◌++◌, ℕ, ◌+◌, ◌-◌, ◌*◌, ◌≤◌, ◌<◌, length, get_or, take, drop, replicate}
use Rattle.model.specs.Limits.{max_members, max_tuples, max_support_numbers, no_support, word_bits}
use Rattle.model.specs.LiveWords.{is_live}
use Rattle.model.specs.Consistency.{needed, support_start}
use Rattle.value_index.specs.Index.{Indexed}
use Rattle.narrowing.specs.Narrows.{Long}
use Rattle.worklist.specs.Supports.{Chosen, Supported}
use Rattle.layout.specs.Setting.{Setting, network, listed, live_in, Sound}
use Rattle.layout.specs.Pairs.{combination_of, size_of, tuple_id, held}
use Rattle.engine.specs.Work.{Working, LeanIn}

-- ---- The tuples that seek

-- The m numbers from `at` on are the indices of tuples, one of each member from base on, unless the first is 65,535.
pub record HeldAt (words starts members numbers : List ℕ) (base m at : ℕ) : Type 0 where
  pub positive : 0 < m
  pub few : m ≤ max_members
  pub inside : at + m ≤ length numbers
  pub chosen : (get_or numbers at 0 ≡ no_support → ⊥) → Chosen words starts members base m (take m (drop at numbers) ++ replicate (max_members - m) 0)

-- The ids of tuples from `first` on and below `end`, of which those from `from` on may seek; where their numbers begin.
pub record SeekingAt (words starts members numbers : List ℕ) (base m start first from end : ℕ) : Type 0 where
  pub after_first : first ≤ from
  pub before-end : from ≤ end
  pub bits : end ≤ word_bits * length words
  pub few : end ≤ max_tuples
  pub places : (g : ℕ) → first ≤ g → g < end → start + (g - first) * m ≤ max_support_numbers
  pub holding : (g : ℕ) → first ≤ g → g < end → is_live words g ≡ true → HeldAt words starts members numbers base m (start + (g - first) * m)

-- Only live ids from `from` on are in the pending words.
pub record Seeking (words : List ℕ) (from : ℕ) (pending : List ℕ) : Type 0 where
  pub long : Long pending
  pub only : (g : ℕ) → g < max_tuples → is_live pending g ≡ true → (from ≤ g) × (is_live words g ≡ true)

-- ---- The search

-- no tuple of pair p's member that is doomed has a support
abbrev pub Doomed : Setting → ℕ → List ℕ → List ℕ → Type 0
Doomed G p words doomed =
    (x : ℕ) → x < size_of G p → is_live doomed (tuple_id G p x) ≡ true → Supported G (live_in G words) (combination_of G p) (tuple_id G p x) → ⊥

-- What the search for the rest asks: `start` is where the numbers of pair p begin, and `from` an id of its member, or the end.
pub record RestAt (G : Setting) (index words lean numbers : List ℕ) (p start from : ℕ) : Type 0 where
  pub sound : Sound G
  pub indexed : Indexed (network G) index
  pub working : Working G words numbers
  pub leaner : LeanIn G p words lean
  pub pair : p < length G.members
  pub begin : start ≡ support_start (network G) G.m G.members p
  pub after_first : tuple_id G p 0 ≤ from
  pub before-end : from ≤ tuple_id G p (size_of G p)

-- The numbers are still bounds, and those of other pairs and of the tuples before stay; no doomed tuple has a support.
pub record Rested (G : Setting) (p from : ℕ) (words numbers doomed numbers' doomed' : List ℕ) : Type 0 where
  pub working : Working G words numbers'
  pub room : length numbers' ≡ length numbers
  pub beyond : drop (needed (network G) (listed G)) numbers' ≡ drop (needed (network G) (listed G)) numbers
  pub same : (q y : ℕ) → q < length G.members → y < size_of G q → (q ≡ p → tuple_id G p y < from) → held G numbers' q y ≡ held G numbers q y
  pub long : Long doomed'
  pub none : Doomed G p words doomed → Doomed G p words doomed'
