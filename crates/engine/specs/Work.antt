-- What the filter prepares, what it keeps true while it works, and what each of its steps does.
use Rattle.std.specs.Prelude.{◌≡◌, Bool, true, false, ◌⊎◌, ℕ, ◌+◌, ◌*◌, ◌%◌, ◌≤◌, ◌<◌, length, take, drop, replicate}
use mathlib.Core.List.{List, ◌++◌, map, Memᴰ}
use Rattle.model.specs.Limits.{word_bits, no_support, max_support_numbers}
use Rattle.model.specs.Lists.{pairwise, earlier}
use Rattle.model.specs.TupleSet.{TupleSet, has, count}
use Rattle.model.specs.Network.{total, index_of}
use Rattle.model.specs.Agreement.{agree}
use Rattle.model.specs.Combination.{Combination}
use Rattle.model.specs.Support.{candidates, is_support, first_support}
use Rattle.model.specs.Consistency.{filtered, support_list, needed}
use Rattle.model.specs.LiveWords.{is_live, cleared, written}
use Rattle.value_index.specs.Index.{Indexed}
use Rattle.narrowing.specs.Narrows.{Long}
use Rattle.spreading.specs.Fresh.{Meets}
use Rattle.lean.specs.Lean.{Lean, LeanFrom}
use Rattle.sweeping.specs.Shrunk.{Shrunk}
use Rattle.worklist.specs.Supports.{SupportsFit, PairsBegin, Supported, Done}
use Rattle.twins.specs.declared.sides.Sides.{Sides}
use Rattle.twins.specs.Sides.{Sided}
use Rattle.twins.specs.Twins.{Noted}
use Rattle.layout.specs.Setting.{Setting, network, listed, live_in, Sound}
use Rattle.layout.specs.Pairs.{combination_of, size_of, tuple_id, place_of, held}

-- Words for every tuple, and numbers for every pair, which are not too many: no fault 11 or 12.
pub record Room (G : Setting) (words numbers : List ℕ) : Type 0 where
  pub enough : total (network G) ≤ word_bits * length words
  pub short : needed (network G) (listed G) ≤ max_support_numbers
  pub room : needed (network G) (listed G) ≤ length numbers

-- ---- What is prepared once

-- What the preparation asks.
pub record SoundShort (G : Setting) : Type 0 where
  pub sound : Sound G
  pub short : SupportsFit G.lists.starts G.m G.members

-- The value index, and where each pair's numbers begin.
pub record Prepared (G : Setting) (index begins : List ℕ) : Type 0 where
  pub sound : Sound G
  pub indexed : Indexed (network G) index
  pub places : PairsBegin G.lists.starts G.m G.members begins

-- ---- What holds while the filter works

-- The numbers are the indices of a candidate with tuple g, every two of which agree, and no support of g is earlier.
pub record Candidate (G : Setting) (S : TupleSet) (c : Combination) (g : ℕ) (numbers : List ℕ) : Type 0 where
  pub tuples : List ℕ
  pub candidate : Memᴰ tuples (candidates (network G) c)
  pub own : Memᴰ g tuples
  pub agreeing : pairwise (agree (network G)) tuples ≡ true
  pub indices : numbers ≡ map (index_of (network G)) tuples
  pub lowest : (u : List ℕ) → Memᴰ u (candidates (network G) c) → is_support (network G) S g u ≡ true → earlier (map (index_of (network G)) u) numbers ≡ false

-- the numbers held for tuple g are a bound from below: none yet, 65,535 each, or those of such a candidate
abbrev pub Bound : Setting → TupleSet → Combination → ℕ → List ℕ → Type 0
Bound G S c g numbers = (numbers ≡ replicate G.m no_support) ⊎ Candidate G S c g numbers

-- What holds all the while: words for every tuple, numbers for every pair, and a bound for every live tuple.
pub record Working (G : Setting) (words numbers : List ℕ) : Type 0 where
  pub space : Room G words numbers
  pub bounds : (p x : ℕ) → p < length G.members → x < size_of G p → has (live_in G words) (tuple_id G p x) ≡ true → Bound G (live_in G words) (combination_of G p) (tuple_id G p x) (held G numbers p x)

-- Every pair that does not wait is done, but for those of which `but` holds.
abbrev pub Rest : Setting → List ℕ → List ℕ → List ℕ → (ℕ → Type 0) → Type 0
Rest G queue words numbers but =
    (q : ℕ) → q < length G.members → is_live queue q ≡ false → (but q → ⊥) → Done G words numbers q (size_of G q)

-- ---- One tuple

-- A live tuple, with index x in pair p's member.
pub record Seeker (G : Setting) (words numbers : List ℕ) (p x : ℕ) : Type 0 where
  pub sound : Sound G
  pub working : Working G words numbers
  pub pair : p < length G.members
  pub index : x < size_of G p
  pub lives : has (live_in G words) (tuple_id G p x) ≡ true

-- What the search for its first support asks: the value index, and where its numbers begin.
pub record SeekAt (G : Setting) (index words numbers : List ℕ) (p x at : ℕ) : Type 0 where
  pub seeker : Seeker G words numbers p x
  pub indexed : Indexed (network G) index
  pub place : at ≡ place_of G p x

-- What its renewal asks: the tuples before it are done and noted, and the other members have these sides.
pub record RenewAt (G : Setting) (index words numbers sought : List ℕ) (p x at : ℕ) (sides : Sides) : Type 0 where
  pub seek : SeekAt G index words numbers p x at
  pub done : Done G words numbers p x
  pub noted : Noted G words p x sought
  pub sided : Sided G p sides

-- what is known of fresh tuples in a visit of pair p: every support in its combination has one beside the member's own
abbrev pub Beside : Setting → ℕ → List ℕ → List ℕ → Type 0
Beside G p words fresh = Long fresh × (1 < length (combination_of G p) → Meets (network G) (combination_of G p) (p % G.m) words fresh)

-- the words over which pair p's tuples seek their supports
abbrev pub LeanIn : Setting → ℕ → List ℕ → List ℕ → Type 0
LeanIn G p words lean = Lean G.lists (combination_of G p) (p % G.m) words lean

-- .. made of others
abbrev pub LeanOf : Setting → ℕ → List ℕ → List ℕ → Type 0
LeanOf G p words lean = LeanFrom G.lists (combination_of G p) (p % G.m) words lean

-- Tuple x of pair p's member has its first support in the list, or has none and is dead; nothing else changes.
pub record Renewed (G : Setting) (p x : ℕ) (words numbers : List ℕ) (found : Bool) (words' numbers' : List ℕ) : Type 0 where
  pub kept : found ≡ true → (words' ≡ words) × (numbers' ≡ take (place_of G p x) numbers ++ first_support (network G) (live_in G words) (combination_of G p) (tuple_id G p x) ++ drop (place_of G p x + G.m) numbers) × Supported G (live_in G words) (combination_of G p) (tuple_id G p x)
  pub removed : found ≡ false → (words' ≡ cleared (tuple_id G p x) words) × (numbers' ≡ numbers) × (Supported G (live_in G words) (combination_of G p) (tuple_id G p x) → ⊥)

-- ---- One pair

-- What a visit of pair p asks.
pub record VisitAt (G : Setting) (index begins words numbers : List ℕ) (p : ℕ) : Type 0 where
  pub prepared : Prepared G index begins
  pub working : Working G words numbers
  pub pair : p < length G.members

-- Pair p is visited: where every pair was done but p and those that wait, every pair is that does not wait now. Either nothing
-- was removed, and the same pairs wait, or fewer tuples live.
pub record Visited (G : Setting) (p : ℕ) (queue words numbers queue' words' numbers' : List ℕ) : Type 0 where
  pub working : Working G words' numbers'
  pub shrunk : Shrunk G words words'
  pub beyond : drop (needed (network G) (listed G)) numbers' ≡ drop (needed (network G) (listed G)) numbers
  pub long : length numbers' ≡ length numbers
  pub done : Rest G queue words numbers (λ q. q ≡ p) → Rest G queue' words' numbers' (λ q. ⊥)
  pub progress : ((queue' ≡ queue) × (words' ≡ words)) ⊎ (count (live_in G words') < count (live_in G words))

-- ---- The filter

-- the live tuples are the largest consistent set of those that lived, and the list holds their first supports; every other bit and
-- number is as it was
abbrev pub Filtered : Setting → List ℕ → List ℕ → List ℕ → List ℕ → Type 0
Filtered G words numbers words' numbers' =
    let L = filtered (network G) (listed G) (live_in G words) in
    (words' ≡ written (total (network G)) L words)
    × (numbers' ≡ support_list (network G) (listed G) L ++ drop (needed (network G) (listed G)) numbers)

-- .. of the lists lent, before and after
abbrev pub Filters : Setting → List ℕ → List ℕ → List ℕ → List ℕ → Type 0
Filters G words words' numbers numbers' = Filtered G words numbers words' numbers'
