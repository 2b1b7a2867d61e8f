-- Laws of shared columns and of the rows of a tuple's values in them: whatever agrees with the tuple is in all of them.
-- From the laws of the value index, of words narrowed by it, and of agreement by places.
use mathlib.Core.Path.{◌≡◌, refl, sym, ◌∙◌, ap, ap₂, subst}
use mathlib.Core.Bool.{Bool, true, false, ◌&&◌, and-true, and-false}
use mathlib.Core.List.{List}
use mathlib.Core.Logic.{◌⊎◌, inl, inr, ⊎_elim}
use Prim.Native.Nat.{ℕ, zero, suc, ◌+◌, ◌-◌, ◌*◌, ◌/◌, ◌%◌, ◌≤◌, ◌<◌, min}
use native.Mathlib.Nat.{zero-add}
use native.Mathlib.Omega.{arith}
use native.Mathlib.Decide.{dec_lt}
use lib.Dec.{ltb, leb}
use lib.ListN.{length, get_or, set, take, drop, replicate, length-set, get_or-replicate, get_or-eq_default}
use lib.Seq.{get_or-set_other}
use lib.Bits.{bit_and}
use borrow.Author.Tests.{lt-leb, le-ltb}
use Rattle.model.specs.Limits.{max_width, word_bits}
use Rattle.model.specs.Lists.{from, all}
use Rattle.model.specs.Network.{Network, width, size, first_id, values_in, before, scope_of, values_at}
use Rattle.model.specs.Agreement.{fit, cells, agreeing, agree}
use Rattle.model.specs.LiveWords.{is_set, is_live}
use Rattle.model.proofs.Bools.{and_intro, not-both, iff-eq}
use Rattle.model.proofs.Lists.{all-at, all-intro, from-mem, mem-from, from-append, all-of-append, first-set}
use Rattle.model.proofs.LiveWords.{is_live-at}
use Rattle.model.proofs.Agreement.{cell_at, agreeing-clash, clash-unfit, agree_at}
use Rattle.live.proofs.Bits.{is_set-nought, is_set-and}
use Rattle.layout.specs.Starts.{value_start, records_in}
use Rattle.layout.specs.Setting.{Lists, network_in, SoundLists}
use Rattle.layout.proofs.SoundStarts.{value-start}
use Rattle.layout.proofs.Places.{below-limit, scope-length, scope-few, tuple-fits, values_length}
use Rattle.value_index.specs.Plan.{index_words, column_start, row_words, digit_count, hash_at, row_at, ColumnRows, SoundPlan}
use Rattle.value_index.specs.Index.{row_bit, is_indexed, Indexed}
use Rattle.value_index.proofs.ValueRows.{hash-below, row_within, row_is, rows-begin}
use Rattle.narrowing.specs.Narrows.{is_between, BitsBetween}
use Rattle.narrowing.specs.declared.rows.Four.{Four}
use Rattle.narrowing.specs.TupleRows.{Shares, HasRows, ValueRow, Adds, FirstRows, RowOf, SharedRow, RowFor, InEvery, row_or_last, FourOf, Within, both, four, in_rows, BitsInRows, Apart, LiveBetween}
use Rattle.narrowing.proofs.Words.{row-at}

-- ---- Where rows lie

pub shares-rows : {scope_a scope_b index columns : List ℕ} {s : ℕ} → SoundPlan index → s < 64 → length scope_b ≤ max_width → Shares scope_a scope_b index s columns → HasRows index columns (length scope_a)
shares-rows {columns = columns} {s} sound h few shares c l d =
    let f = shares.at c l d in
    rows-begin sound s f.column (get_or columns c 0) h (omega (arith, f.inside)) f.begins d

-- a row of a value
pub value-within : {index : List ℕ} {start v first : ℕ} → SoundPlan index → ((start ≡ 0 → ⊥) → ColumnRows index start) → ValueRow index start v first → first + row_words index ≤ index_words
value-within {index} {start} {v} sound has row =
    let d = row.digit in
    let w = row_within sound (hash_at index v d) (hash-below index v d) d row.few (has row.some) in
    omega (arith, w, row.begins, row_is index start v d (hash_at index v d) refl)

pub rows-within : {index rows : List ℕ} {Such : ℕ → Type 0} {n : ℕ} → ((first : ℕ) → Such first → first + row_words index ≤ index_words) → FirstRows Such n rows → Within index n rows
rows-within {rows = rows} within f = record { few = f.few; inside = λ k h. within (get_or rows k 0) (f.at k h) }

pub row-of-within : {index columns tuple : List ℕ} → SoundPlan index → HasRows index columns (length tuple) → (first : ℕ) → RowOf index columns tuple first → first + row_words index ≤ index_words
row-of-within sound has first f = value-within sound (has f.column f.inside) f.row

shared-within : {scope_a a scope_b index : List ℕ} {s : ℕ} → SoundPlan index → s < 64 → length scope_b ≤ max_width → (first : ℕ) → SharedRow scope_a a scope_b index s first → first + row_words index ≤ index_words
shared-within {index = index} {s} sound h few first f =
    value-within sound (rows-begin sound s f.column (column_start index s f.column) h (omega (arith, few, f.inside)) refl) f.row.row

-- .. of tuples in sound lists with their index
pub rows-for-within : {L : Lists} → SoundLists L → {index : List ℕ} → Indexed (network_in L) index → (r x s : ℕ) {n : ℕ} {rows : List ℕ} → s < 64 → FirstRows (RowFor (network_in L) index r x s) n rows → Within index n rows
rows-for-within laid indexed r x s h f = rows-within (shared-within indexed.plan h (scope-few laid s h)) f

-- ---- Rows behind rows

module _ {Such : ℕ → Type 0} where
  -- one more
  pub adds-more : (n k first : ℕ) (before rows : List ℕ) → k < 32 → k < n + 4 → Such first → Adds Such n k before rows → Adds Such n (k + 1) before (set rows k first)
  adds-more n k first before rows h l row now =
      record {
        long = length-set rows k first ∙ now.long;
        rises = omega (arith, now.rises);
        few = omega (arith, l);
        same = λ j m. get_or-set_other rows k j first 0 (λ e. omega (arith, now.rises)) ∙ now.same j m;
        at = λ j a b. first-set (λ (m w : ℕ). n ≤ m → Such w) rows k first (omega (arith, now.long)) (λ m c a. now.at m a c) (λ _. row) j b a;
      }

  module _ {Others : ℕ → Type 0} (are : (first : ℕ) → Such first → Others first) {n k : ℕ} {rows after : List ℕ} (a : Adds Such n k rows after) where
    pub adds-as : Adds Others n k rows after
    adds-as = record { long = a.long; rises = a.rises; few = a.few; same = a.same; at = λ j l h. are (get_or after j 0) (a.at j l h) }

-- ---- Ids in rows

module _ (index rows : List ℕ) where
  pub rows_none : (g : ℕ) → in_rows index rows 0 g ≡ true
  unfolding in_rows
  rows_none g = refl

  pub rows_more : (n g : ℕ) → (in_rows index rows n g && row_bit index (get_or rows n 0) g) ≡ in_rows index rows (n + 1) g
  unfolding in_rows
  rows_more n g =
      let f : ℕ → Bool = λ k. row_bit index (get_or rows k 0) g in
      sym (ap (all f) (from-append 0 n 1) ∙ all-of-append f (from 0 n) (from (0 + n) 1) ∙ ap (λ (x : Bool). all f (from 0 n) && x) (and-true (f (0 + n)) ∙ ap f (zero-add n)))

  pub rows_all : (n g : ℕ) → ((k : ℕ) → k < n → row_bit index (get_or rows k 0) g ≡ true) → in_rows index rows n g ≡ true
  unfolding in_rows
  rows_all n g f =
      all-intro (λ (k : ℕ). row_bit index (get_or rows k 0) g) (from 0 n)
      (λ k m. f k (let b = from-mem 0 n k m in omega (arith, b)))

  pub rows_at : (n g k : ℕ) → k < n → in_rows index rows n g ≡ true → row_bit index (get_or rows k 0) g ≡ true
  unfolding in_rows
  rows_at n g k h e = all-at (λ (j : ℕ). row_bit index (get_or rows j 0) g) (from 0 n) e (mem-from 0 n k (omega arith) (omega arith))

  pub rows-fewer : (m n g : ℕ) → m ≤ n → in_rows index rows n g ≡ true → in_rows index rows m g ≡ true
  rows-fewer m n g l e = rows_all m g (λ k h. rows_at n g k (omega arith) e)

  -- in those that are such ones, where it is in every such row
  pub rows-every : {Such : ℕ → Type 0} (n g : ℕ) → FirstRows Such n rows → ((first : ℕ) → Such first → row_bit index first g ≡ true) → in_rows index rows n g ≡ true
  rows-every n g f every = rows_all n g (λ k h. every (get_or rows k 0) (f.at k h))

  -- one row, taken twice, and two rows
  pub one-twice : (n a g : ℕ) → n ≡ 1 → a ≡ get_or rows 0 0 → in_rows index (both a a) 2 g ≡ in_rows index rows n g
  unfolding in_rows
  one-twice n a g e d = ap (λ (k : ℕ). in_rows index (both k k) 2 g) d ∙ go (row_bit index (get_or rows 0 0) g) ∙ ap (λ (k : ℕ). in_rows index rows k g) (sym e)
    where
      go : (x : Bool) → (x && (x && true)) ≡ (x && true)
      go true = refl
      go false = refl

  pub two-both : (n a b g : ℕ) → n ≡ 2 → a ≡ get_or rows 0 0 → b ≡ get_or rows 1 0 → in_rows index (both a b) 2 g ≡ in_rows index rows n g
  unfolding in_rows
  two-both n a b g e d f = ap₂ (λ (j k : ℕ). in_rows index (both j k) 2 g) d f ∙ ap (λ (k : ℕ). in_rows index rows k g) (sym e)

  module _ (i : ℕ) where
    -- of one word
    pub bits_none : (w : ℕ) → BitsInRows index 0 rows i w w
    bits_none w j h = sym (ap (λ (x : Bool). is_set w j && x) (rows_none (word_bits * i + j)) ∙ and-true (is_set w j))

    pub bits-more : (n w now : ℕ) → BitsInRows index n rows i w now → BitsInRows index (n + 1) rows i w (bit_and now (get_or index (get_or rows n 0 + i) 0))
    bits-more n w now f j h =
        let g = word_bits * i + j in
        is_set-and now (get_or index (get_or rows n 0 + i) 0) j
        ∙ ap₂ (λ (x y : Bool). x && y) (f j h) (row-at index (get_or rows n 0) i j h)
        ∙ go (is_set w j) (in_rows index rows n g) (row_bit index (get_or rows n 0) g)
        ∙ ap (λ (x : Bool). is_set w j && x) (rows_more n g)
      where
        go : (a b c : Bool) → ((a && b) && c) ≡ (a && (b && c))
        go true b c = refl
        go false b c = refl

    -- of some rows, and then of all
    pub bits-then : (m n w now after : ℕ) → m ≤ n → BitsInRows index m rows i w now → BitsInRows index n rows i now after → BitsInRows index n rows i w after
    bits-then m n w now after l f s j h =
        let g = word_bits * i + j in
        s j h ∙ ap (λ (x : Bool). x && in_rows index rows n g) (f j h) ∙ go (in_rows index rows n g) refl
      where
        go : (x : Bool) → in_rows index rows n (word_bits * i + j) ≡ x → ((is_set w j && in_rows index rows m (word_bits * i + j)) && x) ≡ (is_set w j && x)
        go true e = and-true (is_set w j && in_rows index rows m (word_bits * i + j)) ∙ ap (λ (x : Bool). is_set w j && x) (rows-fewer m n (word_bits * i + j) l e)
        go false e = and-false (is_set w j && in_rows index rows m (word_bits * i + j)) ∙ sym (and-false (is_set w j))

    -- no bit
    pub bits-nought : (n : ℕ) → BitsInRows index n rows i 0 0
    bits-nought n j h =
        let e = is_set-nought j in
        e ∙ sym (ap (λ (x : Bool). x && in_rows index rows n (word_bits * i + j)) e)

    -- a word none of whose ids is in all of them
    pub apart-word : (n g : ℕ) (words : List ℕ) → BitsInRows index n rows i (get_or words i 0) 0 → g / word_bits ≡ i → is_live words g ≡ true → in_rows index rows n g ≡ true → ⊥
    apart-word n g words bits h live inside =
        let j = g % word_bits in
        let e : word_bits * i + j ≡ g = omega arith in
        let k : j < word_bits = omega arith in
        not-both
        (bits j k ∙ and_intro (sym (is_live-at words i j k) ∙ ap (is_live words) e ∙ live) (ap (in_rows index rows n) e ∙ inside))
        (is_set-nought j)

    pub apart_more : (n from : ℕ) (words : List ℕ) → BitsInRows index n rows i (get_or words i 0) 0 → Apart index n rows from i words → Apart index n rows from (i + 1) words
    apart_more n from words bits f g l h live inside = go (dec_lt g (word_bits * i))
      where
        go : Dec (g < word_bits * i) → ⊥
        go (yes b) = f g l b live inside
        go (no b) = apart-word n g words bits (omega arith) live inside

-- of one word, in two rows
pub bits-both : (index : List ℕ) (a b i w : ℕ) → BitsInRows index 2 (both a b) i w (bit_and (bit_and w (get_or index (a + i) 0)) (get_or index (b + i) 0))
bits-both index a b i w = bits-more index (both a b) i 1 w _ (bits-more index (both a b) i 0 w _ (bits_none index (both a b) i w))

-- .. and in four
pub bits-four : (index : List ℕ) (a b c d i w : ℕ) → BitsInRows index 4 (four a b c d) i w (bit_and (bit_and (bit_and (bit_and w (get_or index (a + i) 0)) (get_or index (b + i) 0)) (get_or index (c + i) 0)) (get_or index (d + i) 0))
bits-four index a b c d i w =
    let more = bits-more index (four a b c d) i in
    more 3 w _ (more 2 w _ (more 1 w _ (more 0 w _ (bits_none index (four a b c d) i w))))

-- of two rows at most, the second again
pub two-of : {rows : List ℕ} {n : ℕ} {f : Four} → n ≤ 2 → FourOf rows n f → FourOf rows n (record { a = f.a; b = f.b; c = f.b; d = f.b })
two-of {rows} {n} h f =
    let third : min 1 (n - 1) ≡ min 2 (n - 1) = omega arith in
    let fourth : min 1 (n - 1) ≡ min 3 (n - 1) = omega arith in
    record { a = f.a; b = f.b; c = f.b ∙ ap (λ (i : ℕ). get_or rows i 0) third; d = f.b ∙ ap (λ (i : ℕ). get_or rows i 0) fourth }

-- one to four rows as four
module _ (index : List ℕ) {rows : List ℕ} {n : ℕ} {f : Four} (of : FourOf rows n f) (some : 0 < n) (few : n ≤ 4) where
  abbrev these : List ℕ
  these = four f.a f.b f.c f.d

  four-at : (k : ℕ) → k < 4 → get_or these k 0 ≡ row_or_last rows n k
  four-at zero h = of.a
  four-at (suc zero) h = of.b
  four-at (suc (suc zero)) h = of.c
  four-at (suc (suc (suc zero))) h = of.d
  four-at (suc (suc (suc (suc k)))) h = absurd (omega arith)

  pub four-rows : (g : ℕ) → in_rows index these 4 g ≡ in_rows index rows n g
  four-rows g =
      iff-eq (in_rows index these 4 g) (in_rows index rows n g)
      (λ e. rows_all index rows n g (λ k h.
      let own : k ≡ min k (n - 1) = omega arith in
      ap bit (ap (λ (j : ℕ). get_or rows j 0) own ∙ sym (four-at k (omega arith))) ∙ rows_at index these 4 g k (omega arith) e))
      (λ e. rows_all index these 4 g (λ k h. ap bit (four-at k h) ∙ rows_at index rows n g (min k (n - 1)) (omega arith) e))
    where
      bit : ℕ → Bool
      bit first = row_bit index first g

-- ---- What agrees is in all rows

-- from the tuple's first value to behind its last one
module _ {L : Lists} (laid : SoundLists L) (r x columns at end : ℕ) (h : x < size (network_in L) r) (w : columns ≡ width (network_in L) r) (b : at ≡ value_start L.starts r + x * columns) (e : end ≡ at + columns) where
  begins : at ≡ before values_in (records_in L.starts) r + x * width (network_in L) r
  begins = b ∙ ap₂ (λ (a c : ℕ). a + x * c) (value-start laid.framed r (omega (arith, below-limit laid r x h))) w

  -- there are its values
  pub part-tuple : take (end - at) (drop at L.values) ≡ values_at (network_in L) r x
  unfolding values_at
  part-tuple =
      let long : end - at ≡ width (network_in L) r = omega (arith, e, w) in
      ap₂ (λ (n m : ℕ). take n (drop m L.values)) long begins

  -- within the list
  pub part-fits : end ≤ length L.values
  part-fits = omega (arith, begins, e, w, tuple-fits laid r x h)

-- tuples that agree have fitting values under a variable that stands at place i of the one scope and at place j of the other
module _ (scope_a a scope_b : List ℕ) (i j : ℕ) (widths : length scope_a ≡ length a) (hi : i < length scope_a) (hj : j < length scope_b) (same : get_or scope_a i 0 ≡ get_or scope_b j 0) where
  pub values-fit : (b : List ℕ) → length scope_b ≡ length b → agreeing (cells scope_a a) (cells scope_b b) ≡ true → fit (get_or a i 0) (get_or b j 0) ≡ true
  values-fit b l e = go (fit (get_or a i 0) (get_or b j 0)) refl
    where
      go : (x : Bool) → fit (get_or a i 0) (get_or b j 0) ≡ x → fit (get_or a i 0) (get_or b j 0) ≡ true
      go true q = q
      go false q = absurd (not-both e (agreeing-clash scope_a a scope_b b i j widths l hi hj (clash-unfit (cell_at scope_a a i) (cell_at scope_b b j) same q)))

-- a row in the columns found for two scopes
shared-row : {scope_a a scope_b index columns : List ℕ} {s first : ℕ} → length scope_a ≡ length a → Shares scope_a scope_b index s columns → RowOf index columns a first → SharedRow scope_a a scope_b index s first
shared-row {scope_a} {a} {index = index} {s = s} {first} long shares f =
    let inside : f.column < length scope_a = omega (arith, long, f.inside) in
    let at = shares.at f.column inside f.row.some in
    record {
      column = at.column;
      inside = at.inside;
      row = record { own = f.column; inside = inside; same = sym at.same; row = subst (λ (n : ℕ). ValueRow index n (get_or a f.column 0) first) at.begins f.row };
    }

module _ {L : Lists} (laid : SoundLists L) {index : List ℕ} (indexed : Indexed (network_in L) index) (r x s z : ℕ) where
  abbrev N : Network
  N = network_in L

  module _ (hx : x < size N r) (hz : z < size N s) (agrees : agree N (first_id N r + x) (first_id N s + z) ≡ true) where
    widths : length (scope_of N r) ≡ length (values_at N r x)
    widths = scope-length laid r (below-limit laid r x hx) ∙ sym (values_length laid r x hx)

    agreeing-row : (first : ℕ) → RowFor N index r x s first → row_bit index first (first_id N s + z) ≡ true
    unfolding is_indexed
    agreeing-row first f =
        let a = values_at N r x in
        let b = values_at N s z in
        let i = f.row.own in
        let j = f.column in
        let g = first_id N s + z in
        let row = f.row.row in
        let lb : length (scope_of N s) ≡ length b = scope-length laid s (below-limit laid s z hz) ∙ sym (values_length laid s z hz) in
        let fits = values-fit (scope_of N r) a (scope_of N s) i j widths f.row.inside f.inside f.row.same b lb (sym (agree_at N r x s z hx hz) ∙ agrees) in
        let marked = indexed.at s z j hz (omega (arith, f.inside, scope-length laid s (below-limit laid s z hz))) row.some (get_or a i 0) row.definite fits in
        let in_row = all-at (λ (k : ℕ). row_bit index (row_at index (column_start index s j) (get_or a i 0) k) g) (from 0 (digit_count index)) marked (mem-from 0 (digit_count index) row.digit (omega arith) (omega (arith, row.few))) in
        ap (λ (n : ℕ). row_bit index n g) row.begins ∙ in_row

    pub agreeing-rows : {rows : List ℕ} {n : ℕ} → FirstRows (RowFor N index r x s) n rows → in_rows index rows n (first_id N s + z) ≡ true
    agreeing-rows {rows} {n} f = rows-every index rows n (first_id N s + z) f agreeing-row

    pub agreeing-every : {columns : List ℕ} → Shares (scope_of N r) (scope_of N s) index s columns → InEvery index columns (values_at N r x) (first_id N s + z)
    agreeing-every shares first f = agreeing-row first (shared-row widths shares f)

-- ---- The live ids between two

-- The words from `first` on and below i hold the live ids that are from start on and below end, and all others none.
pub record Filled (first i start end : ℕ) (words alive : List ℕ) : Type 0 where
  pub long : length alive ≡ 64
  pub done : (j k : ℕ) → first ≤ j → j < i → k < 64 → is_set (get_or alive j 0) k ≡ (is_set (get_or words j 0) k && is_between start end (64 * j + k))
  pub rest : (j : ℕ) → (j < first) ⊎ (i ≤ j) → get_or alive j 0 ≡ 0

module _ (first start end : ℕ) (words : List ℕ) where
  pub filled_none : Filled first first start end words (replicate 64 0)
  filled_none = record { long = refl; done = λ j k a b h. absurd (omega arith); rest = λ j o. none j (dec_lt j 64) }
    where
      noughts : List ℕ
      noughts = replicate 64 0

      none : (j : ℕ) → Dec (j < 64) → get_or noughts j 0 ≡ 0
      none j (yes h) = get_or-replicate 64 j 0 0 h
      none j (no h) = get_or-eq_default noughts 0 {n = j} (omega arith)

  pub filled_more : (i mask : ℕ) (alive : List ℕ) → first ≤ i → i < 64 → BitsBetween i start end mask → Filled first i start end words alive → Filled first (i + 1) start end words (set alive i (bit_and (get_or words i 0) mask))
  filled_more i mask alive f h bits now =
      record {
        long = length-set alive i new ∙ now.long;
        done = λ j k a b l. first-set P alive i new (omega (arith, now.long)) (λ m c a k l. now.done m k a c l) here j b a k l;
        rest = λ j o. get_or-set_other alive i j new 0 (apart j o) ∙ now.rest j (⊎_elim inl (λ b. inr (omega arith)) o);
      }
    where
      new : ℕ
      new = bit_and (get_or words i 0) mask

      P : ℕ → ℕ → Type 0
      P j w = first ≤ j → (k : ℕ) → k < 64 → is_set w k ≡ (is_set (get_or words j 0) k && is_between start end (64 * j + k))

      apart : (j : ℕ) → (j < first) ⊎ (i + 1 ≤ j) → j ≡ i → ⊥
      apart j (inl b) e = omega arith
      apart j (inr b) e = omega arith

      here : P i new
      here _ k l = is_set-and (get_or words i 0) mask k ∙ ap (λ (x : Bool). is_set (get_or words i 0) k && x) (bits.1 k l)

  pub filled-all : (i : ℕ) (alive : List ℕ) → 64 * first ≤ start → end ≤ 64 * i → Filled first i start end words alive → LiveBetween start end words alive
  unfolding is_live
  filled-all i alive b e now g = go (dec_lt (g / 64) first) (dec_lt (g / 64) i)
    where
      j : ℕ
      j = g / 64

      k : ℕ
      k = g % 64

      Goal : Type 0
      Goal = is_set (get_or alive j 0) k ≡ (is_set (get_or words j 0) k && is_between start end g)

      none : get_or alive j 0 ≡ 0 → is_between start end g ≡ false → Goal
      none z f =
          ap (λ (w : ℕ). is_set w k) z ∙ is_set-nought k ∙ sym (ap (λ (x : Bool). is_set (get_or words j 0) k && x) f ∙ and-false (is_set (get_or words j 0) k))

      go : Dec (j < first) → Dec (j < i) → Goal
      go (yes l) _ = none (now.rest j (inl l)) (ap (λ (x : Bool). x && ltb g end) (lt-leb start g (omega arith)))
      go (no _) (no l) = none (now.rest j (inr (omega arith))) (ap (λ (x : Bool). leb start g && x) (le-ltb g end (omega arith)) ∙ and-false (leb start g))
      go (no a) (yes l) =
          let q : 64 * j + k ≡ g = omega arith in
          now.done j k (omega arith) l (omega arith) ∙ ap (λ (h : ℕ). is_set (get_or words j 0) k && is_between start end h) q
