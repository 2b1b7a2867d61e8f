-- Laws of the rows of a value: a digit has one of its rows, and every row lies behind the plan and within the index.
-- From the laws of pieces end to end, and of quotients and remainders.
use mathlib.Core.Path.{◌≡◌, refl, sym, ◌∙◌, ap, ap₂, subst}
use mathlib.Core.List.{List}
use mathlib.Core.Logic.{◌⊎◌, inl, inr}
use Prim.Native.Nat.{ℕ, zero, suc, ◌+◌, ◌*◌, ◌/◌, ◌%◌, ◌≤◌, ◌<◌}
use native.Mathlib.Nat.{mul-le-mul, mul-le-mul_left, mul-le-mul_right, mul_comm, mul-suc}
use native.Mathlib.Omega.{arith}
use Rattle.value_index.specs.Plan.{plan_words, index_words, hashes, column_start, row_words, digit_count, digit_rows, factor, mixes, column_words, row_plan, any_row, mixed, mixed_if, hash_behind, hash_at, row_of, row_at, ColumnRows, SoundPlan, SamePlan}

pub mixed-below : (hash : ℕ) → mixed hash < hashes
unfolding mixed
mixed-below hash = omega arith

mixed-if-below : (n hash : ℕ) → hash < hashes → mixed_if n hash < hashes
unfolding mixed_if
mixed-if-below zero hash h = h
mixed-if-below (suc n) hash h = mixed-below hash

pub not-mixed : (n hash : ℕ) → n ≡ 0 → mixed_if n hash ≡ hash
unfolding mixed_if
not-mixed n hash e = ap (λ (k : ℕ). mixed_if k hash) e

pub is-mixed : (n hash : ℕ) → (n ≡ 0 → ⊥) → mixed_if n hash ≡ mixed hash
unfolding mixed_if
is-mixed zero hash d = absurd (d refl)
is-mixed (suc n) hash d = refl

module _ (index : List ℕ) (v : ℕ) where
  pub hash-below : (i : ℕ) → hash_at index v i < hashes
  unfolding hash_at
  hash-below zero = mixed-if-below (mixes index) (v * factor index % hashes) (omega arith)
  hash-below (suc i) = omega arith

  pub hash-first : hash_at index v 0 ≡ mixed_if (mixes index) (v * factor index % hashes)
  unfolding hash_at
  hash-first = refl

  pub hash-next : (i : ℕ) → hash_at index v (i + 1) ≡ hash_behind index (hash_at index v i)
  unfolding hash_at
  hash-next i = let e : i + 1 ≡ suc i = omega arith in ap (hash_at index v) e

-- the i-th of n pieces of w each ends within them
pub piece-within : (i n w : ℕ) → i < n → i * w + w ≤ n * w
piece-within i n w h =
    let l : w * suc i ≤ w * n = mul-le-mul_left w h in
    omega (arith, l, mul-suc w i, mul_comm w i, mul_comm w n)

-- the rows of a column, of which the last is that of any, lie within the index
pub nth-within : {index : List ℕ} {start : ℕ} → ColumnRows index start → (k : ℕ) → k ≤ digit_count index * digit_rows index → start + k * row_words index + row_words index ≤ index_words
nth-within {index} rows k h =
    let l : k < digit_count index * digit_rows index + 1 = omega (arith, h) in
    omega (arith, piece-within k (digit_count index * digit_rows index + 1) (row_words index) l, rows.within)

pub rows-many : {index : List ℕ} → SoundPlan index → digit_count index * digit_rows index ≤ 36864
rows-many sound = mul-le-mul sound.few sound.short

-- of a hash
module _ {index : List ℕ} (sound : SoundPlan index) (hash : ℕ) (below : hash < hashes) where
  digit-below : hash * digit_rows index / hashes < digit_rows index
  digit-below =
      let h : hash ≤ 4294967295 = omega (arith, below) in
      let p = mul-le-mul_right (digit_rows index) h in
      omega (arith, p, sound.some)

  module _ (i : ℕ) (h : i < digit_count index) where
    -- the rows before it, of this digit and those before it
    pub rows_before : i * digit_rows index + hash * digit_rows index / hashes < digit_count index * digit_rows index
    rows_before = omega (arith, digit-below, piece-within i (digit_count index) (digit_rows index) h)

    module _ {start : ℕ} (rows : ColumnRows index start) where
      pub row_within : row_of index start hash i + row_words index ≤ index_words
      row_within = nth-within rows (i * digit_rows index + hash * digit_rows index / hashes) (omega (arith, rows_before))

      pub row-behind : plan_words ≤ row_of index start hash i
      row-behind = omega (arith, rows.behind)

-- .. that is left of a value's
pub row_is : (index : List ℕ) (start v i hash : ℕ) → hash ≡ hash_at index v i → row_of index start hash i ≡ row_at index start v i
unfolding row_at
row_is index start v i hash e = ap (λ (h : ℕ). row_of index start h i) e

-- a column that has rows
pub rows-begin : {index : List ℕ} → SoundPlan index → (r c n : ℕ) → r < 64 → c < 8 → n ≡ column_start index r c → (n ≡ 0 → ⊥) → ColumnRows index n
rows-begin {index} sound r c n h k e d = go (sound.columns r c h k)
  where
    go : (column_start index r c ≡ 0) ⊎ ColumnRows index (column_start index r c) → ColumnRows index n
    go (inl z) = absurd (d (e ∙ z))
    go (inr f) = subst (ColumnRows index) (sym e) f

-- ---- The same plan

module _ (before after : List ℕ) (same : SamePlan before after) where
  pub digits_same : digit_count after ≡ digit_count before
  digits_same = same 513 (omega arith)

  pub hash-same : (v i : ℕ) → hash_at after v i ≡ hash_at before v i
  unfolding hash_at
  hash-same v zero = ap₂ (λ (n f : ℕ). mixed_if n (v * f % hashes)) (same 516 (omega arith)) (same 515 (omega arith))
  hash-same v (suc i) = ap₂ (λ (h r : ℕ). h * r % hashes) (hash-same v i) (same 514 (omega arith))

  pub row_same : (start v i : ℕ) → row_at after start v i ≡ row_at before start v i
  unfolding row_at
  row_same start v i = rw (hash-same v i, same 514 (omega arith), same 512 (omega arith)) refl

  pub plan-same : row_plan after ≡ row_plan before
  plan-same = rw (same 512 (omega arith), same 513 (omega arith), same 514 (omega arith), same 515 (omega arith), same 516 (omega arith)) refl

  pub any_same : (start : ℕ) → any_row after start ≡ any_row before start
  any_same start = rw (same 513 (omega arith), same 514 (omega arith), same 512 (omega arith)) refl

  pub columns-same : (r c : ℕ) → r < 64 → c < 8 → column_start after r c ≡ column_start before r c
  columns-same r c h k = same (r * 8 + c) (omega arith)

  words_same : column_words after ≡ column_words before
  words_same = rw (same 513 (omega arith), same 514 (omega arith), same 512 (omega arith)) refl

  pub column-same : (n : ℕ) → ColumnRows before n → ColumnRows after n
  column-same n c = record { behind = c.behind; within = omega (arith, c.within, words_same) }

  rows_same : (n k : ℕ) → n ≡ k → (k ≡ 0) ⊎ ColumnRows before k → (n ≡ 0) ⊎ ColumnRows after n
  rows_same n k e (inl z) = inl (e ∙ z)
  rows_same n k e (inr c) = inr (column-same n (subst (ColumnRows before) (sym e) c))

  pub sound-same : SoundPlan before → SoundPlan after
  sound-same s =
      record {
        few = let e = same 513 (omega arith) in omega (arith, e, s.few);
        some = let e = same 514 (omega arith) in omega (arith, e, s.some);
        short = let e = same 514 (omega arith) in omega (arith, e, s.short);
        narrow = let e = same 512 (omega arith) in omega (arith, e, s.narrow);
        small = let e = same 515 (omega arith) in omega (arith, e, s.small);
        columns = λ r c h k. rows_same (column_start after r c) (column_start before r c) (columns-same r c h k) (s.columns r c h k);
      }
