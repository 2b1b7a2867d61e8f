-- Laws of pairs of combination and member: their combination is listed and rises, its members exist, and the numbers of their tuples
-- lie within the support list and apart.
-- From the laws of sound starts, and the model's laws of combinations and of where pairs' numbers begin.
use mathlib.Core.Path.{◌≡◌, sym, ◌∙◌, ap, subst}
use mathlib.Core.Bool.{true}
use mathlib.Core.Logic.{◌⊎◌, inl, inr}
use mathlib.Core.List.Memᴰ
use mathlib.Core.List.{List, [], Memᴰ}
use Prim.Native.Nat.{ℕ, suc, ◌+◌, ◌-◌, ◌*◌, ◌/◌, ◌%◌, ◌≤◌, ◌<◌}
use native.Mathlib.Nat.{zero-mul, div-lt_iff_lt-mul, mod-lt, mul-le-mul_right}
use native.Mathlib.Numerals.{add-one}
use native.Mathlib.Decide.{dec_lt, ℕ_discrete}
use native.Mathlib.Omega.{arith}
use borrow.Author.Tests.{ltb-true}
use lib.Dec.{ltb}
use lib.ListN.{length, get_or, drop}
use lib.Seq.{get_or-take, get_or-drop}
use Rattle.model.specs.Limits.{max_relations}
use Rattle.model.specs.Lists.{all, pairwise}
use Rattle.model.specs.Network.{total, first_id, relation_of, tuples_in}
use Rattle.model.specs.Combination.{combinations, pair_combination, pair_member}
use Rattle.model.specs.Consistency.{needed, support_start}
use Rattle.model.specs.Fault.{proper_members}
use Rattle.model.proofs.Bools.{and_left, and_right}
use Rattle.model.proofs.Lists.{all-at}
use Rattle.model.proofs.Network.{relation_of-at, before-within}
use Rattle.model.proofs.Combination.{combination-within, pair-length, pair-listed, pair_place, pair-member}
use Rattle.model.proofs.SupportList.{needed-pairs, support_start-suc, support_start-mono, support_start-within}
use Rattle.layout.specs.Starts.{tuple_start, records_in, outline, SoundStarts}
use Rattle.layout.specs.Setting.{Setting, network, listed, SoundPairs, Sound}
use Rattle.layout.specs.Pairs.{combination_of, size_of, tuple_id, place_of}
use Rattle.layout.proofs.SoundStarts.{relations-few, tuple-start, size_in}

-- ---- By the starts and the members

module _ {xs : List ℕ} (framed : SoundStarts xs) {m : ℕ} {members : List ℕ} (paired : SoundPairs xs m members) where
  module _ (p : ℕ) (h : p < length members) where
    abbrev base : ℕ
    base = p / m * m

    pub combination-listed : Memᴰ (pair_combination m members p) (combinations m members)
    combination-listed = pair-listed m members paired.list.positive paired.list.whole p h

    pub combination-length : length (pair_combination m members p) ≡ m
    combination-length = pair-length m members paired.list.positive paired.list.whole p h

    pub combination-proper : proper_members (outline xs) (pair_combination m members p) ≡ true
    combination-proper = all-at (proper_members (outline xs)) (combinations m members) paired.proper combination-listed

    pub combination-rises : pairwise ltb (pair_combination m members p) ≡ true
    combination-rises =
        and_right (all (λ (r : ℕ). ltb r (length (records_in xs))) (pair_combination m members p)) (pairwise ltb (pair_combination m members p)) combination-proper

    pub base-within : base + m ≤ length members
    base-within =
        combination-within m members (p / m) ((div-lt_iff_lt-mul paired.list.positive).1 (subst (λ (n : ℕ). p < n) (sym paired.list.whole) h))

    -- the pair's member stands in its combination
    pub place-below : p % m < m
    place-below = mod-lt p paired.list.positive

    pub member-at : get_or (pair_combination m members p) (p % m) 0 ≡ pair_member members p
    member-at = pair_place m members paired.list.positive paired.list.whole p h

    pub member-in : Memᴰ (pair_member members p) (pair_combination m members p)
    member-in = pair-member m members paired.list.positive paired.list.whole p h

    pub member-exists : pair_member members p < length (records_in xs)
    member-exists =
        ltb-true (pair_member members p) (length (records_in xs))
        (all-at (λ (r : ℕ). ltb r (length (records_in xs))) (pair_combination m members p)
        (and_left (all (λ (r : ℕ). ltb r (length (records_in xs))) (pair_combination m members p)) (pairwise ltb (pair_combination m members p)) combination-proper)
        member-in)

    pub member_below : pair_member members p < max_relations
    member_below = omega (arith, member-exists, relations-few framed)

    -- where the next pair's numbers begin
    pub pair-next : support_start (outline xs) m members p + (tuple_start xs (pair_member members p + 1) - tuple_start xs (pair_member members p)) * m ≡ support_start (outline xs) m members (p + 1)
    pair-next =
        ap (λ (n : ℕ). support_start (outline xs) m members p + n * m) (size_in framed (pair_member members p) member_below)
        ∙ sym (support_start-suc (outline xs) m members p h)
        ∙ ap (support_start (outline xs) m members) (sym (add-one p))

    pub pair-within : support_start (outline xs) m members p + (tuple_start xs (pair_member members p + 1) - tuple_start xs (pair_member members p)) * m ≤ needed (outline xs) (combinations m members)
    pair-within =
        omega (
          arith,
          ap (λ (n : ℕ). support_start (outline xs) m members p + n * m) (size_in framed (pair_member members p) member_below),
          support_start-within (outline xs) m members paired.list.positive paired.list.whole p h,
        )

    -- member j of its combination
    pub member_of : (j : ℕ) → j < m → get_or (pair_combination m members p) j 0 ≡ get_or members (base + j) 0
    member_of j l = get_or-take m (drop base members) j 0 l ∙ get_or-drop base members j 0

  pub start-of-member : (p : ℕ) → p < length members → (j : ℕ) → j < m → tuple_start xs (get_or members (p / m * m + j) 0) ≡ first_id (outline xs) (get_or (pair_combination m members p) j 0)
  start-of-member p h j l =
      let b = member_below (p / m * m + j) (omega (arith, base-within p h)) in
      tuple-start framed (get_or members (p / m * m + j) 0) (omega arith) ∙ ap (first_id (outline xs)) (sym (member_of p h j l))

-- ---- By the setting

module _ {G : Setting} (sound : Sound G) where
  abbrev members : List ℕ
  members = G.members

  -- the relation of a tuple of the pair's member
  pub tuple-relation : (p x : ℕ) → x < size_of G p → relation_of (network G) (tuple_id G p x) ≡ pair_member members p
  tuple-relation p x h = relation_of-at (network G) (pair_member members p) x h

  pub tuple-in : (p x : ℕ) → p < length members → x < size_of G p → Memᴰ (relation_of (network G) (tuple_id G p x)) (combination_of G p)
  tuple-in p x h k = Memᴰ.cast (tuple-relation p x k) (member-in sound.laid.framed sound.paired p h)

  pub tuple-below : (p x : ℕ) → p < length members → x < size_of G p → tuple_id G p x < total (network G)
  tuple-below p x h k =
      omega (arith, before-within tuples_in (network G).relations (pair_member members p) (member-exists sound.laid.framed sound.paired p h))

  -- ---- The places of the numbers

  row_within : (x n : ℕ) → x < n → x * G.m + G.m ≤ n * G.m
  row_within x n h = let l : suc x ≤ n = h in omega (arith, mul-le-mul_right G.m l)

  pub place-within : (p x : ℕ) → p < length members → x < size_of G p → place_of G p x + G.m ≤ needed (network G) (listed G)
  place-within p x h k =
      omega (arith, support_start-within (network G) G.m members sound.paired.list.positive sound.paired.list.whole p h, row_within x (size_of G p) k)

  -- numbers of different tuples lie apart
  Apart : ℕ → ℕ → Type 0
  Apart a b = (a + G.m ≤ b) ⊎ (b + G.m ≤ a)

  -- all of a lower pair's lie before
  lower : (q y p x : ℕ) → q < p → p < length members → y < size_of G q → place_of G q y + G.m ≤ place_of G p x
  lower q y p x l h k =
      omega (arith, support_start-mono (network G) G.m members (suc q) p l, support_start-suc (network G) G.m members q (omega arith), row_within y (size_of G q) k)

  apart-row : (p y x : ℕ) → Dec (y < x) → (y ≡ x → ⊥) → Apart (place_of G p y) (place_of G p x)
  unfolding Apart
  apart-row p y x (yes l) d = inl (omega (arith, row_within y x l))
  apart-row p y x (no l) d = inr (omega (arith, row_within x y (omega arith)))

  apart-pair : (q y p x : ℕ) → Dec (q < p) → (q ≡ p → ⊥) → q < length members → p < length members → y < size_of G q → x < size_of G p → Apart (place_of G q y) (place_of G p x)
  unfolding Apart
  apart-pair q y p x (yes l) d hq hp ky kx = inl (lower q y p x l hp ky)
  apart-pair q y p x (no l) d hq hp ky kx = inr (lower p x q y (omega arith) hq kx)

  pub places-apart : (q y p x : ℕ) → (q ≡ p → y ≡ x → ⊥) → q < length members → p < length members → y < size_of G q → x < size_of G p → (place_of G q y + G.m ≤ place_of G p x) ⊎ (place_of G p x + G.m ≤ place_of G q y)
  unfolding Apart
  places-apart q y p x d hq hp ky kx = go (ℕ_discrete q p)
    where
      go : Dec (q ≡ p) → (place_of G q y + G.m ≤ place_of G p x) ⊎ (place_of G p x + G.m ≤ place_of G q y)
      go (yes e) = subst (λ (k : ℕ). (place_of G k y + G.m ≤ place_of G p x) ⊎ (place_of G p x + G.m ≤ place_of G k y)) (sym e) (apart-row p y x (dec_lt y x) (d e))
      go (no n) = apart-pair q y p x (dec_lt q p) n hq hp ky kx

-- ---- The first pair's numbers, and how many there are

-- the first pair's numbers begin at nought
pub pair-first : (xs : List ℕ) (m : ℕ) (members : List ℕ) → support_start (outline xs) m members 0 ≡ 0
unfolding support_start
pair-first xs m _ = zero-mul m

-- behind the last pair stands how many numbers there are
pub pairs_end : {xs : List ℕ} {m : ℕ} {members : List ℕ} → SoundPairs xs m members → support_start (outline xs) m members (length members) ≡ needed (outline xs) (combinations m members)
pairs_end {xs} {m} {members} paired = sym (needed-pairs (outline xs) [] m members paired.list.positive paired.list.whole)
