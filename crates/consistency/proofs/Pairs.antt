-- Laws of the test of one pair of combination and member: what its search asks, and the walk from one live tuple to the next.
-- From the laws of pairs and of sound starts, and the model's laws of live words and of consistency.
use mathlib.Core.Path.{◌≡◌, refl, sym, ◌∙◌, ap, subst}
use mathlib.Core.Bool.{Bool, true, false, not, ◌||◌, false≢true}
use mathlib.Core.List.{List, Memᴰ}
use Prim.Native.Nat.{ℕ, zero, suc, ◌+◌, ◌-◌, ◌*◌, ◌%◌, ◌≤◌, ◌<◌}
use native.Mathlib.Decide.{ℕ_discrete, dec_lt}
use native.Mathlib.Omega.{arith}
use lib.ListN.{length, get_or, replicate}
use lib.Seq.{get_or-set_same, get_or-set_other}
use Rattle.model.specs.Limits.{max_members, word_bits}
use Rattle.model.specs.Lists.{any}
use Rattle.model.specs.TupleSet.{TupleSet, has}
use Rattle.model.specs.Network.{Network, size, total, first_id, ids_of}
use Rattle.model.specs.Combination.{Combination, pair_member}
use Rattle.model.specs.Support.{candidates, is_support}
use Rattle.model.specs.LiveWords.{is_live}
use Rattle.model.proofs.Bools.{iff-eq, implies-intro, implies-elim, not-both}
use Rattle.model.proofs.Lists.{all-at, all-intro, any_at, any-intro, from-mem, mem-from}
use Rattle.model.proofs.LiveWords.{living-length, living-has}
use Rattle.model.proofs.Support.{Supported}
use Rattle.model.proofs.Consistency.{is_consistent-pairs}
use Rattle.layout.specs.Setting.{Setting, network, live_in, Sound}
use Rattle.layout.specs.Pairs.{combination_of, size_of}
use Rattle.layout.proofs.SoundStarts.{tuples-few}
use Rattle.layout.proofs.Pairs.{combination-length, combination-proper, place-below, member-at}
use Rattle.layout.proofs.Rows.{Row, row-total, row-index, row-id}
use Rattle.narrowing.specs.Narrows.{Long}
use Rattle.spreading.specs.Fresh.{Meets}
use Rattle.support.specs.Search.{Search, SoundSearch}
use Rattle.lean.specs.Lean.{Lean}
use Rattle.lean.proofs.Leaner.{pair-asks}
use Rattle.lean.proofs.Supports.{lean-any}
use Rattle.consistency.specs.Consistent.{lowest, has_support, consistent_in, pair_consistent, all_consistent}

-- ---- The lowest indices

noughts : (n k : ℕ) → ◌≡◌ {A = ℕ} (get_or (replicate n zero) k zero) zero
noughts zero k = refl
noughts (suc n) zero = refl
noughts (suc n) (suc k) = noughts n k

module _ (place own : ℕ) where
  lowest-own : place < max_members → get_or (lowest place own) place 0 ≡ own
  lowest-own h = get_or-set_same (replicate max_members 0) place own 0 h

  pub lowest-other : (j : ℕ) → (j ≡ place → ⊥) → get_or (lowest place own) j 0 ≡ 0
  lowest-other j d = get_or-set_other (replicate max_members 0) place j own 0 d ∙ noughts max_members j

-- ---- One relation in one combination

module _ (N : Network) (S : TupleSet) (c : Combination) (r : ℕ) where
  -- tuple g, if it lives, has a support
  abbrev tested : ℕ → Bool
  tested g = not (has S g) || any (is_support N S g) (candidates N c)

  consistent_in-at : consistent_in N S c r ≡ true → (g : ℕ) → Memᴰ g (ids_of N r) → has S g ≡ true → Supported N S c g
  unfolding consistent_in
  consistent_in-at e g m l =
      any_at (is_support N S g) (candidates N c)
      (implies-elim (has S g) (any (is_support N S g) (candidates N c)) (all-at tested (ids_of N r) e m) l)

  consistent_in-intro : ((g : ℕ) → Memᴰ g (ids_of N r) → has S g ≡ true → Supported N S c g) → consistent_in N S c r ≡ true
  unfolding consistent_in
  consistent_in-intro f =
      all-intro tested (ids_of N r)
      (λ g m. implies-intro (has S g) (any (is_support N S g) (candidates N c))
      (λ l. let s = f g m l in any-intro (is_support N S g) (candidates N c) s.1 s.2))

  -- one live tuple without a support
  consistent_in-not : (g : ℕ) → Memᴰ g (ids_of N r) → has S g ≡ true → any (is_support N S g) (candidates N c) ≡ false → false ≡ consistent_in N S c r
  consistent_in-not g m l e =
      iff-eq false (consistent_in N S c r) (λ q. absurd (false≢true q))
      (λ q. let s = consistent_in-at q g m l in absurd (not-both (any-intro (is_support N S g) (candidates N c) s.1 s.2) e))

-- ---- All pairs

module _ {G : Setting} (sound : Sound G) (words : List ℕ) where
  long : length (live_in G words) ≡ total (network G)
  long = living-length (total (network G)) words

  pub all-consistent : ((p : ℕ) → p < length G.members → pair_consistent G words p ≡ true) → true ≡ all_consistent G words
  all-consistent f =
      sym ((is_consistent-pairs (network G) G.m G.members (live_in G words) sound.paired.list.positive sound.paired.list.whole long).1
      (λ p g h m l. consistent_in-at (network G) (live_in G words) (combination_of G p) (pair_member G.members p) (f p h) g m l))

  pub not-consistent : (p : ℕ) → p < length G.members → pair_consistent G words p ≡ false → false ≡ all_consistent G words
  not-consistent p h e =
      iff-eq false (all_consistent G words) (λ q. absurd (false≢true q))
      (λ q. absurd (not-both
      (consistent_in-intro (network G) (live_in G words) (combination_of G p) (pair_member G.members p)
      (λ g m l. (is_consistent-pairs (network G) G.m G.members (live_in G words) sound.paired.list.positive sound.paired.list.whole long).0 q p g h m l))
      e))

-- ---- One pair

-- every support in pair p's combination has a fresh tuple beside the member's own, if there is another member
abbrev pub FreshIn : Setting → ℕ → List ℕ → List ℕ → Type 0
FreshIn G p words fresh = Long fresh × (1 < length (combination_of G p) → Meets (network G) (combination_of G p) (p % G.m) words fresh)

-- the words over which its tuples seek their supports
abbrev pub LeanIn : Setting → ℕ → List ℕ → List ℕ → Type 0
LeanIn G p words lean = Lean G.lists (combination_of G p) (p % G.m) words lean

-- every live tuple of pair p's member before id g has a support
abbrev pub Passed : Setting → List ℕ → ℕ → ℕ → ℕ → Type 0
Passed G words p first g = (i : ℕ) → first ≤ i → i < g → has (live_in G words) i ≡ true → Supported (network G) (live_in G words) (combination_of G p) i

-- The walk over the ids of pair p's member has come to id g, which is live or the end: every live tuple before it has a support.
pub record WalkAt (G : Setting) (words : List ℕ) (p first end g : ℕ) : Type 0 where
  pub from_first : first ≤ g
  pub to_end : g ≤ end
  pub lives : g < end → has (live_in G words) g ≡ true
  pub passed : Passed G words p first g

module _ {G : Setting} (words : List ℕ) {p first end : ℕ} (long : Long words) (row : Row G p first end) where
  abbrev N : Network
  N = network G

  abbrev S : TupleSet
  S = live_in G words

  abbrev c : Combination
  c = combination_of G p

  abbrev place : ℕ
  place = p % G.m

  pub words-enough : total N ≤ word_bits * length words
  words-enough = omega (arith, long, tuples-few row.sound.laid.framed)

  -- all before `at` are passed, and none lives from there to g
  pub walk-at : {at g : ℕ} → Passed G words p first at → first ≤ at → at ≤ g → g ≤ end → (g < end → is_live words g ≡ true) → ((i : ℕ) → at ≤ i → i < g → is_live words i ≡ false) → WalkAt G words p first end g
  walk-at {at} {g} before low here high live none =
      record {
        from_first = omega (arith, low, here);
        to_end = high;
        lives = λ l. living-has (total N) words g (omega (arith, l, row-total row)) ∙ live l;
        passed = λ j k l e. earlier j k l e (dec_lt j at);
      }
    where
      earlier : (j : ℕ) → first ≤ j → j < g → has S j ≡ true → Dec (j < at) → Supported N S c j
      earlier j k l e (yes b) = before j k b e
      earlier j k l e (no b) = absurd (not-both e (living-has (total N) words j (omega (arith, l, high, row-total row)) ∙ none j (omega (arith, b)) l))

  module _ {g : ℕ} (w : WalkAt G words p first end g) where
    -- every tuple has a support
    pub walk_ends : end ≤ g → true ≡ pair_consistent G words p
    walk_ends b =
        sym (consistent_in-intro N S c (pair_member G.members p)
        (λ i m l.
        let k = from-mem (first_id N (pair_member G.members p)) (size_of G p) i m in
        w.passed i (omega (arith, row.is-first, k.0)) (omega (arith, row.is-first, row.is-end, k.1)) l))

    module _ (b : g < end) where
      -- ---- The search for the support of tuple g

      -- over lean words
      abbrev pub searched : List ℕ → Search
      searched lean =
          record { lists = G.lists; words = lean; members = c; place = place; own = g - first; low = lowest place (g - first) }

      own_is : get_or c place 0 ≡ pair_member G.members p
      own_is = member-at row.sound.laid.framed row.sound.paired p row.pair

      own-within : g - first < size N (get_or c place 0)
      own-within = omega (arith, ap (size N) own_is, row-index row w.from_first b)

      own-low : get_or (lowest place (g - first)) place 0 ≡ g - first
      own-low =
          lowest-own place (g - first) (omega (arith, place-below row.sound.laid.framed row.sound.paired p row.pair, row.sound.paired.list.few))

      low-within : (j : ℕ) → Dec (j ≡ place) → get_or (lowest place (g - first)) j 0 ≤ size N (get_or c j 0)
      low-within j (yes q) = rw q (omega (arith, own-low, own-within))
      low-within j (no d) = omega (arith, lowest-other place (g - first) j d)

      -- what it asks
      pub searched-sound : {lean : List ℕ} → Long lean → SoundSearch (searched lean)
      searched-sound sized =
          let few = combination-length row.sound.laid.framed row.sound.paired p row.pair in
          record {
            laid = row.sound.laid;
            words = omega (arith, sized, tuples-few row.sound.laid.framed);
            members = combination-proper row.sound.laid.framed row.sound.paired p row.pair;
            few = omega (arith, few, row.sound.paired.list.few);
            place = omega (arith, few, place-below row.sound.laid.framed row.sound.paired p row.pair);
            own = own-within;
            low-own = own-low;
            low-within = λ j l. low-within j (ℕ_discrete j place);
          }

      -- it seeks for g
      own-id : first_id N (get_or c place 0) + (g - first) ≡ g
      own-id = ap (λ (r : ℕ). first_id N r + (g - first)) own_is ∙ row-id row w.from_first

      searched-is : has_support (searched words) ≡ any (is_support N S g) (candidates N c)
      searched-is = ap (λ (h : ℕ). any (is_support N S h) (candidates N c)) own-id

      -- over lean words the same is found
      pub searched-lean : {lean : List ℕ} → Lean G.lists c place words lean → has_support (searched lean) ≡ has_support (searched words)
      searched-lean E =
          lean-any (pair-asks row.sound p row.pair) E (g - first) own-within
          (ap (is_live words) own-id ∙ sym (living-has (total N) words g (omega (arith, b, row-total row))) ∙ w.lives b)

      -- there is none
      pub walk-fails : false ≡ has_support (searched words) → false ≡ pair_consistent G words p
      walk-fails e =
          let m = mem-from (first_id N (pair_member G.members p)) (size_of G p) g (omega (arith, row.is-first, w.from_first)) (omega (arith, row.is-first, row.is-end)) in
          consistent_in-not N S c (pair_member G.members p) g m (w.lives b) (sym (e ∙ searched-is))

      -- there is one
      pub walk-goes : true ≡ has_support (searched words) → Passed G words p first (g + 1)
      walk-goes e = λ j l m a. before j l a (dec_lt j g) m
        where
          before : (j : ℕ) → first ≤ j → has S j ≡ true → Dec (j < g) → j < g + 1 → Supported N S c j
          before j l a (yes d) m = w.passed j l d a
          before j l a (no d) m =
              let s : g ≡ j = omega arith in
              subst (Supported N S c) s (any_at (is_support N S g) (candidates N c) (sym (e ∙ searched-is)))
