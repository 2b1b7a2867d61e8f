-- Laws of the words that narrow: a word of the ids below a bound or between two, and words narrowed by a test of ids or by the index.
-- From the laws of the machine's operations on words.
use mathlib.Core.Path.{◌≡◌, refl, sym, ◌∙◌, ap, ap₂, subst}
use mathlib.Core.Bool.{Bool, true, false, not, ◌&&◌, ◌||◌, and-true, or-true}
use mathlib.Core.List.{List}
use Prim.Native.Nat.{ℕ, ◌+◌, ◌-◌, ◌*◌, ◌/◌, ◌%◌, ◌^◌, ◌≤◌, ◌<◌}
use native.Mathlib.Nat.{lt_of_le_of_lt}
use native.Mathlib.Omega.{arith}
use native.Mathlib.Decide.{ℕ_discrete, dec_lt}
use lib.Dec.{ltb, leb}
use lib.ListN.{length, get_or, set, length-set}
use lib.Bits.{bit_and, bit_or, and_le_r}
use lib.Pow.{pow_pos}
use borrow.Author.Tests.{lt-ltb, le-ltb, ltb-true, ltb-false, le-leb, lt-leb, leb-true}
use Rattle.model.specs.LiveWords.{is_set, is_live}
use Rattle.model.proofs.Bools.{iff-eq}
use Rattle.model.proofs.LiveWords.{is_live-at}
use Rattle.live.proofs.Bits.{is_set-nought, is_set-high, is_set-not, is_set-and, is_set-or, one_shl, or-none}
use Rattle.live.proofs.Stores.{is_live-set-same, is_live-set-other}
use Rattle.value_index.specs.Index.{row_bit}
use Rattle.narrowing.specs.Narrows.{Long, stays, Kept, KeptIds, first_in, end_in, Keeps, BitsBetween}

-- ---- The ids below a bound

module _ (base bound j : ℕ) where
  pub below_none : bound ≤ base → is_set 0 j ≡ ltb (base + j) bound
  below_none h = is_set-nought j ∙ sym (le-ltb (base + j) bound (omega arith))

  pub below_all : 64 ≤ bound - base → j < 64 → is_set (2 ^ 64 - 1 - 0) j ≡ ltb (base + j) bound
  below_all h l = is_set-not 64 0 j (omega arith) l ∙ ap not (is_set-nought j) ∙ sym (lt-ltb (base + j) bound (omega arith))

  below-part : (k : ℕ) → k ≡ bound - base → base < bound → Dec (j < k) → is_set (2 ^ k - 1) j ≡ ltb (base + j) bound
  below-part k e h (yes l) =
      let q : 2 ^ k - 1 ≡ 2 ^ k - 1 - 0 = omega arith in
      ap (λ (w : ℕ). is_set w j) q
      ∙ is_set-not k 0 j (pow_pos k) l
      ∙ ap not (is_set-nought j)
      ∙ sym (lt-ltb (base + j) bound (omega arith))
  below-part k e h (no l) = is_set-high (2 ^ k - 1) k j (omega (arith, pow_pos k)) (omega arith) ∙ sym (le-ltb (base + j) bound (omega arith))

  pub below-some : base < bound → bound - base < 64 → is_set (1 * 2 ^ (bound - base) % 2 ^ 64 - 1) j ≡ ltb (base + j) bound
  below-some h l = rw (one_shl (bound - base) l) (below-part (bound - base) refl h (dec_lt j (bound - base)))

not-ltb : (a b : ℕ) → not (ltb a b) ≡ leb b a
not-ltb a b = go (ltb a b) refl
  where
    go : (x : Bool) → ltb a b ≡ x → not x ≡ leb b a
    go true e = sym (lt-leb b a (ltb-true a b e))
    go false e = sym (le-leb b a (ltb-false a b e))

-- .. of word i, and from another one on
pub between-bits : (i start end low high : ℕ) → low < 2 ^ 64 → ((j : ℕ) → j < 64 → is_set low j ≡ ltb (i * 64 + j) start) → high < 2 ^ 64 → ((j : ℕ) → j < 64 → is_set high j ≡ ltb (i * 64 + j) end) → BitsBetween i start end (bit_and (2 ^ 64 - 1 - low) high)
between-bits i start end low high fits lows small highs = (
  lt_of_le_of_lt (and_le_r (2 ^ 64 - 1 - low) high) small,
  λ j l.
      let c : i * 64 + j ≡ 64 * i + j = omega arith in
      is_set-and (2 ^ 64 - 1 - low) high j
      ∙ ap₂ (λ (x y : Bool). x && y)
      (is_set-not 64 low j fits l ∙ ap not (lows j l ∙ ap (λ (g : ℕ). ltb g start) c) ∙ not-ltb (64 * i + j) start)
      (highs j l ∙ ap (λ (g : ℕ). ltb g end) c),
)

-- ---- The words of the ids from start on and below end

-- There are such ids; the first is in word i, and the last in word `last`.
pub record Edges (start end i last : ℕ) : Type 0 where
  pub some : start < end
  pub first : i ≡ start / 64
  pub final : last ≡ (end - 1) / 64

module _ {start end i last : ℕ} (e : Edges start end i last) where
  pub edges-rise : i ≤ last
  edges-rise = omega (arith, e)

  -- those of the first word
  pub first-in : first_in i start ≡ start
  first-in = omega (arith, e.first)

  pub first_ends : i < last → end_in i end ≡ 64 * (i + 1)
  first_ends h = omega (arith, e)

  -- .. and of the last one
  pub last_begins : i < last → first_in last start ≡ 64 * last
  last_begins h = omega (arith, e.first)

  pub last-in : end_in last end ≡ end
  last-in = omega (arith, e)

  edges-order : i < last → (start ≤ 64 * (i + 1)) × ((64 * (i + 1) ≤ 64 * last) × ((start ≤ 64 * last) × (64 * last ≤ end)))
  edges-order h = (omega (arith, e.first), (omega arith, (omega (arith, e.first), omega (arith, e))))

-- ---- Ids that stay

module _ (passes : ℕ → Bool) (start end g : ℕ) where
  -- an id outside those that are narrowed stays
  pub stays-before : g < start → stays passes start end g ≡ true
  stays-before h = ap (λ (x : Bool). x || (leb end g || passes g)) (lt-ltb g start h)

  pub stays-behind : end ≤ g → stays passes start end g ≡ true
  stays-behind h = ap (λ (x : Bool). ltb g start || (x || passes g)) (le-leb end g h) ∙ or-true (ltb g start)

  -- .. one of them if it passes
  stays-inside : start ≤ g → g < end → stays passes start end g ≡ passes g
  stays-inside h k = ap₂ (λ (x y : Bool). x || (y || passes g)) (le-ltb g start h) (lt-leb end g k)

  -- .. and of those in word i, by which of them are in it
  stays-in : (i : ℕ) → 64 * i ≤ g → g < 64 * (i + 1) → stays passes start end g ≡ stays passes (first_in i start) (end_in i end) g
  stays-in i h k =
      ap₂ (λ (x y : Bool). x || (y || passes g))
      (iff-eq (ltb g start) (ltb g (first_in i start))
      (λ e. lt-ltb g (first_in i start) (omega (arith, ltb-true g start e)))
      (λ e. lt-ltb g start (omega (arith, ltb-true g (first_in i start) e))))
      (iff-eq (leb end g) (leb (end_in i end) g)
      (λ e. le-leb (end_in i end) g (omega (arith, leb-true end g e)))
      (λ e. le-leb end g (omega (arith, leb-true (end_in i end) g e))))

-- ---- Words narrowed, by any test of ids

module _ (passes : ℕ → Bool) where
  -- some of one word
  kept-part : (i start end new : ℕ) (ws : List ℕ) → i < length ws → 64 * i ≤ start → end ≤ 64 * (i + 1) → ((j : ℕ) → j < 64 → is_set new j ≡ (is_set (get_or ws i 0) j && stays passes start end (64 * i + j))) → KeptIds passes start end ws (set ws i new)
  kept-part i start end new ws inside low high bits g = go (ℕ_discrete (g / 64) i)
    where
      outside : (g / 64 ≡ i → ⊥) → Dec (g < 64 * i) → stays passes start end g ≡ true
      outside d (yes h) = stays-before passes start end g (omega arith)
      outside d (no h) = stays-behind passes start end g (omega arith)

      go : Dec (g / 64 ≡ i) → is_live (set ws i new) g ≡ (is_live ws g && stays passes start end g)
      go (yes e) =
          let j = g % 64 in
          let q : 64 * i + j ≡ g = omega arith in
          let l : j < 64 = omega arith in
          is_live-set-same ws i new g inside e
          ∙ bits j l
          ∙ ap₂ (λ (x y : Bool). x && y) (sym (is_live-at ws i j l) ∙ ap (is_live ws) q) (ap (stays passes start end) q)
      go (no d) =
          is_live-set-other ws i new g d
          ∙ sym (ap (λ (y : Bool). is_live ws g && y) (outside d (dec_lt g (64 * i))) ∙ and-true (is_live ws g))

  -- all of it
  pub kept_word : (i new : ℕ) (ws : List ℕ) → i < length ws → ((j : ℕ) → j < 64 → is_set new j ≡ (is_set (get_or ws i 0) j && passes (64 * i + j))) → Kept passes i (i + 1) ws (set ws i new)
  kept_word i new ws inside bits =
      kept-part i (64 * i) (64 * (i + 1)) new ws inside (omega arith) (omega arith)
      (λ j l. bits j l ∙ ap (λ (x : Bool). is_set (get_or ws i 0) j && x) (sym (stays-inside passes (64 * i) (64 * (i + 1)) (64 * i + j) (omega arith) (omega arith))))

  -- those from start on and below end
  pub kept-edge : (i start end new : ℕ) (ws : List ℕ) → i < length ws → ((j : ℕ) → j < 64 → is_set new j ≡ (is_set (get_or ws i 0) j && stays passes start end (64 * i + j))) → KeptIds passes (first_in i start) (end_in i end) ws (set ws i new)
  kept-edge i start end new ws inside bits =
      kept-part i (first_in i start) (end_in i end) new ws inside (omega arith) (omega arith)
      (λ j l. bits j l ∙ ap (λ (x : Bool). is_set (get_or ws i 0) j && x) (stays-in passes start end (64 * i + j) i (omega arith) (omega arith)))

  -- ids, and the ids behind them
  pub kept_on : (start mid end : ℕ) (a b c : List ℕ) → start ≤ mid → mid ≤ end → KeptIds passes start mid a b → KeptIds passes mid end b c → KeptIds passes start end a c
  kept_on start mid end a b c h k f s g = s g ∙ go (dec_lt g mid)
    where
      go : Dec (g < mid) → (is_live b g && stays passes mid end g) ≡ (is_live a g && stays passes start end g)
      go (yes l) =
          ap (λ (x : Bool). is_live b g && x) (stays-before passes mid end g l)
          ∙ and-true (is_live b g)
          ∙ f g
          ∙ ap (λ (x : Bool). is_live a g && (ltb g start || (x || passes g))) (lt-leb mid g l ∙ sym (lt-leb end g (omega arith)))
      go (no l) =
          ap₂ (λ (x y : Bool). x && (y || (leb end g || passes g)))
          (f g ∙ ap (λ (x : Bool). is_live a g && x) (stays-behind passes start mid g (omega arith)) ∙ and-true (is_live a g))
          (le-ltb g mid (omega arith) ∙ sym (le-ltb g start (omega arith)))

-- ---- What is left of them

-- of word x at place i, the bits of w are those that pass the test, as far as their ids are from start on and below end
abbrev pub Passing : (ℕ → Bool) → ℕ → ℕ → ℕ → ℕ → ℕ → Type 0
Passing passes i start end x w =
    (j : ℕ) → j < 64 → start ≤ 64 * i + j → 64 * i + j < end → is_set w j ≡ (is_set x j && passes (64 * i + j))

module _ (passes : ℕ → Bool) where
  pub keeps_on : (start mid end v w : ℕ) (a b c : List ℕ) → start ≤ mid → mid ≤ end → Keeps passes start mid a b v → Keeps passes mid end b c w → Keeps passes start end a c (bit_or v w)
  keeps_on start mid end v w a b c h k f s =
      record {
        long = s.long;
        kept = kept_on passes start mid end a b c h k f.kept s.kept;
        none = λ e g l m. go (or-none v w e) g l m (dec_lt g mid);
      }
    where
      go : (v ≡ 0) × (w ≡ 0) → (g : ℕ) → start ≤ g → g < end → Dec (g < mid) → is_live c g ≡ false
      go z g l m (yes d) = s.kept g ∙ ap (λ (x : Bool). x && stays passes mid end g) (f.none z.0 g l d)
      go z g l m (no d) = s.none z.1 g (omega arith) m

  -- of ids whose first and end are named otherwise
  keeps-at : {start end start' end' w : ℕ} {a b : List ℕ} → start ≡ start' → end ≡ end' → Keeps passes start end a b w → Keeps passes start' end' a b w
  keeps-at {start} {end' = end'} {w} {a} {b} es ee f =
      subst (λ (n : ℕ). Keeps passes n end' a b w) es (subst (λ (n : ℕ). Keeps passes start n a b w) ee f)

  -- by another test that says the same
  pub keeps-as : (others : ℕ → Bool) (start end w : ℕ) (a b : List ℕ) → ((g : ℕ) → passes g ≡ others g) → Keeps passes start end a b w → Keeps others start end a b w
  keeps-as others start end w a b e f =
      record {
        long = f.long;
        kept = λ g. f.kept g ∙ ap (λ (x : Bool). is_live a g && (ltb g start || (leb end g || x))) (e g);
        none = f.none;
      }

  module _ {start end i last : ℕ} (e : Edges start end i last) {u : ℕ} {a b : List ℕ} (f : Keeps passes (first_in i start) (end_in i end) a b u) where
    pub keeps-edges : {v w : ℕ} {c d : List ℕ} → i < last → Keeps passes (64 * (i + 1)) (64 * last) b c v → Keeps passes (first_in last start) (end_in last end) c d w → Keeps passes start end a d (bit_or (bit_or u v) w)
    keeps-edges {v} {w} {c} {d} h m s =
        let o = edges-order e h in
        keeps_on start (64 * last) end (bit_or u v) w a c d o.1.1.0 o.1.1.1
        (keeps_on start (64 * (i + 1)) (64 * last) u v a b c o.0 o.1.0 (keeps-at (first-in e) (first_ends e h) f) m)
        (keeps-at (last_begins e h) (last-in e) s)

  module _ (i : ℕ) (ws : List ℕ) (long : Long ws) (few : i < 64) where
    inside : i < length ws
    inside = omega arith

    left-none : (start end new w : ℕ) → KeptIds passes start end ws (set ws i new) → 64 * i ≤ start → end ≤ 64 * (i + 1) → Passing passes i start end (get_or ws i 0) w → w ≡ 0 → (g : ℕ) → start ≤ g → g < end → is_live (set ws i new) g ≡ false
    left-none start end new w kept low high bits e g h k =
        let j = g - 64 * i in
        let q : 64 * i + j ≡ g = omega arith in
        let l : j < 64 = omega arith in
        kept g
        ∙ ap₂ (λ (x y : Bool). x && y) (ap (is_live ws) (sym q) ∙ is_live-at ws i j l) (stays-inside passes start end g h k ∙ ap passes (sym q))
        ∙ sym (bits j l (omega arith) (omega arith))
        ∙ ap (λ (x : ℕ). is_set x j) e
        ∙ is_set-nought j

    -- a word that is stored
    pub keeps-word : (new : ℕ) → ((j : ℕ) → j < 64 → is_set new j ≡ (is_set (get_or ws i 0) j && passes (64 * i + j))) → Keeps passes (64 * i) (64 * (i + 1)) ws (set ws i new) new
    keeps-word new bits =
        let kept = kept_word passes i new ws inside bits in
        record {
          long = length-set ws i new ∙ long;
          kept = kept;
          none = left-none (64 * i) (64 * (i + 1)) new new kept (omega arith) (omega arith) (λ j l a b. bits j l);
        }

    pub keeps-edge : (start end new w : ℕ) → ((j : ℕ) → j < 64 → is_set new j ≡ (is_set (get_or ws i 0) j && stays passes start end (64 * i + j))) → Passing passes i (first_in i start) (end_in i end) (get_or ws i 0) w → Keeps passes (first_in i start) (end_in i end) ws (set ws i new) w
    keeps-edge start end new w bits left =
        let kept = kept-edge passes i start end new ws inside bits in
        record {
          long = length-set ws i new ∙ long;
          kept = kept;
          none = left-none (first_in i start) (end_in i end) new w kept (omega arith) (omega arith) left;
        }

  -- the bits of a word between two ids, by its mask
  module _ (i start end x m w : ℕ) (mask : BitsBetween i start end m) (bits : (j : ℕ) → j < 64 → is_set w j ≡ (is_set (bit_and x m) j && passes (64 * i + j))) where
    pub mask-passing : Passing passes i (first_in i start) (end_in i end) x w
    mask-passing j l a b =
        let g = 64 * i + j in
        bits j l
        ∙ ap (λ (y : Bool). y && passes g)
        (is_set-and x m j
        ∙ ap (λ (y : Bool). is_set x j && y) (mask.1 j l ∙ ap₂ (λ (y z : Bool). y && z) (le-leb start g (omega arith)) (lt-ltb g end (omega arith)))
        ∙ and-true (is_set x j))

    -- .. with all others of the word
    pub mask-stays : (j : ℕ) → j < 64 → is_set (bit_or (bit_and x (2 ^ 64 - 1 - m)) w) j ≡ (is_set x j && stays passes start end (64 * i + j))
    mask-stays j l =
        let g = 64 * i + j in
        let between = mask.1 j l ∙ ap (λ (y : Bool). y && ltb g end) (sym (not-ltb g start)) in
        is_set-or (bit_and x (2 ^ 64 - 1 - m)) w j
        ∙ ap₂ (λ (y z : Bool). y || z)
        (is_set-and x (2 ^ 64 - 1 - m) j ∙ ap (λ (y : Bool). is_set x j && y) (is_set-not 64 m j mask.0 l ∙ ap not between))
        (bits j l ∙ ap (λ (y : Bool). y && passes g) (is_set-and x m j ∙ ap (λ (y : Bool). is_set x j && y) between))
        ∙ go (is_set x j) (ltb g start) (ltb g end) (passes g)
        ∙ ap (λ (y : Bool). is_set x j && (ltb g start || (y || passes g))) (not-ltb g end)
      where
        go : (y a b p : Bool) → ((y && not (not a && b)) || ((y && (not a && b)) && p)) ≡ (y && (a || (not b || p)))
        go false a b p = refl
        go true true b p = refl
        go true false true p = refl
        go true false false p = refl

-- ---- Words narrowed by the index

module _ (index : List ℕ) (first : ℕ) where
  -- bit j of word i there is bit j of the index's word
  pub row-at : (i j : ℕ) → j < 64 → is_set (get_or index (first + i) 0) j ≡ row_bit index first (64 * i + j)
  row-at i j h =
      let e : 64 * first + (64 * i + j) ≡ 64 * (first + i) + j = omega arith in
      sym (ap (is_live index) e ∙ is_live-at index (first + i) j h)

  -- the bits of the word that word i is narrowed by
  pub stays_at : (start end i m j : ℕ) → BitsBetween i start end m → j < 64 → is_set (bit_or (2 ^ 64 - 1 - m) (get_or index (first + i) 0)) j ≡ stays (row_bit index first) start end (64 * i + j)
  stays_at start end i m j mask h =
      let g = 64 * i + j in
      is_set-or (2 ^ 64 - 1 - m) (get_or index (first + i) 0) j
      ∙ ap₂ (λ (x y : Bool). x || y)
      (is_set-not 64 m j mask.0 h ∙ ap not (mask.1 j h ∙ ap (λ (y : Bool). y && ltb g end) (sym (not-ltb g start))))
      (row-at i j h)
      ∙ go (ltb g start) (ltb g end) (row_bit index first g)
      ∙ ap (λ (y : Bool). ltb g start || (y || row_bit index first g)) (not-ltb g end)
    where
      go : (a b p : Bool) → (not (not a && b) || p) ≡ (a || (not b || p))
      go true b p = refl
      go false true p = refl
      go false false p = refl
