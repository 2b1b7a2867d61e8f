-- Laws of the row of any: its words or-ed into a row, one row after the other, and that a tuple entered there is then indexed by every value.
-- From the laws of a word or-ed into another, of an index that grows, and of values that fit.
use mathlib.Core.Path.{◌≡◌, refl, sym, ◌∙◌, ap, subst}
use mathlib.Core.Bool.{Bool, true, false}
use mathlib.Core.List.{List}
use Prim.Native.Nat.{ℕ, ◌+◌, ◌*◌, ◌/◌, ◌%◌, ◌≤◌, ◌<◌}
use native.Mathlib.Omega.{arith}
use native.Mathlib.Decide.{dec_lt}
use lib.Bits.{bit_or}
use lib.ListN.{length, get_or, set}
use lib.Seq.{get_or-set_other}
use Rattle.model.specs.Agreement.{is_any}
use Rattle.model.specs.LiveWords.{is_set, is_live}
use Rattle.model.proofs.Bools.{or_right}
use Rattle.model.proofs.LiveWords.{is_live-at}
use Rattle.model.proofs.Agreement.{fit-equal}
use Rattle.live.proofs.Bits.{is_set-nought}
use Rattle.value_index.specs.Plan.{plan_words, hashes, column_start, row_words, digit_count, digit_rows, hash_at, row_at, any_row, SoundPlan}
use Rattle.value_index.specs.Index.{row_bit, is_indexed, IndexedAt, Grows, Entered, EnteredAt, NoneIn, JoinsRow, SpreadsAny, SpreadsColumns}
use Rattle.value_index.proofs.ValueRows.{hash-below, rows_before, any_same, columns-same}
use Rattle.value_index.proofs.Entries.{joined_same, joined_keeps, value_on, rows_all}

-- ---- A word of a row

-- the bits of word i of a row
word-bit : (ws : List ℕ) (row i g : ℕ) → g / 64 ≡ i → row_bit ws row g ≡ is_set (get_or ws (row + i) 0) (g % 64)
word-bit ws row i g e =
    let q : 64 * row + g ≡ 64 * (row + i) + g % 64 = omega arith in
    ap (is_live ws) q ∙ is_live-at ws (row + i) (g % 64) (omega arith)

-- one word more in which the row has none
pub none_more : (ws : List ℕ) (row a i : ℕ) → get_or ws (row + i) 0 ≡ 0 → NoneIn ws row a (64 * i) → NoneIn ws row a (64 * (i + 1))
none_more ws row a i z m g l h = go (dec_lt g (64 * i))
  where
    go : Dec (g < 64 * i) → row_bit ws row g ≡ false
    go (yes b) = m g l b
    go (no b) =
        word-bit ws row i g (omega arith) ∙ ap (λ (w : ℕ). is_set w (g % 64)) z ∙ is_set-nought (g % 64)

-- ---- One word more or-ed into another row

module _ (before ws : List ℕ) (row other a i : ℕ) where
  abbrev new : List ℕ
  new = set ws (other + i) (bit_or (get_or ws (other + i) 0) (get_or ws (row + i) 0))

  pub join-grows : plan_words ≤ other → other + i < length ws → Grows before ws → Grows before new
  join-grows behind inside f =
      record {
        keeps = λ p e. joined_keeps ws (other + i) (get_or ws (row + i) 0) p inside (f.keeps p e);
        same = λ k h. get_or-set_other ws (other + i) k _ 0 (λ e. absurd (omega arith)) ∙ f.same k h;
      }

  pub join_more : other + i < length ws → Grows before ws → JoinsRow row other a (64 * i) before ws → JoinsRow row other a (64 * (i + 1)) before new
  join_more inside f m g l h e = go (dec_lt g (64 * i))
    where
      go : Dec (g < 64 * i) → row_bit new other g ≡ true
      go (yes b) = joined_keeps ws (other + i) (get_or ws (row + i) 0) (64 * other + g) inside (m g l b e)
      go (no b) =
          let q : (64 * other + g) % 64 ≡ g % 64 = omega arith in
          joined_same ws (other + i) (get_or ws (row + i) 0) (64 * other + g) inside (omega arith)
          ∙ or_right (is_live ws (64 * other + g)) (ap (is_set (get_or ws (row + i) 0)) q ∙ sym (word-bit ws row i g (omega arith)) ∙ f.keeps (64 * row + g) e)

-- ---- One row more

-- of the ids from a on and below b, those that are in the row of any are in the first n rows of the column
abbrev pub SpreadsRows : ℕ → ℕ → ℕ → ℕ → List ℕ → List ℕ → Type 0
SpreadsRows start n a b before after =
    (k : ℕ) → k < n → JoinsRow (any_row before start) (start + k * row_words before) a b before after

module _ (before ws after : List ℕ) (start a b : ℕ) (f : Grows before ws) (h : Grows ws after) where
  pub spread-more : (n : ℕ) → JoinsRow (any_row before start) (start + n * row_words before) a b ws after → SpreadsRows start n a b before ws → SpreadsRows start (n + 1) a b before after
  spread-more n one m k l g u v e = go (dec_lt k n)
    where
      go : Dec (k < n) → row_bit after (start + k * row_words before) g ≡ true
      go (yes d) = h.keeps (64 * (start + k * row_words before) + g) (m k d g u v e)
      go (no d) =
          let q : k ≡ n = omega arith in
          subst (λ (j : ℕ). row_bit after (start + j * row_words before) g ≡ true) (sym q) (one g u v (f.keeps (64 * any_row before start + g) e))

-- all rows of the digits
pub spread-all : (before after : List ℕ) (start a b : ℕ) → SoundPlan after → Grows before after → SpreadsRows start (digit_count before * digit_rows before) a b before after → SpreadsAny start a b before after
unfolding row_at
spread-all before after start a b sound f m g u v e w =
    rows_all after start w g
    (λ i h.
    let k = i * digit_rows after + hash_at after w i * digit_rows after / hashes in
    let l : k < digit_count after * digit_rows after = rows_before sound (hash_at after w i) (hash-below after w i) i h in
    subst (λ (n : ℕ). row_bit after (start + k * n) g ≡ true) (sym (f.same 512 (omega arith)))
    (m k (subst (λ (n : ℕ). k < n) (products i) l) g u v e))
  where
    products : ℕ → digit_count after * digit_rows after ≡ digit_count before * digit_rows before
    products i = rw (f.same 513 (omega arith), f.same 514 (omega arith)) refl

-- ---- One column more

module _ (before ws after : List ℕ) (r n a b : ℕ) (few : r < 64) (narrow : n < 8) (f : Grows before ws) (h : Grows ws after) where
  -- it has no rows, or they are spread
  pub columns-more : ((column_start ws r n ≡ 0 → ⊥) → SpreadsAny (column_start ws r n) a b ws after) → SpreadsColumns r n a b before ws → SpreadsColumns r (n + 1) a b before after
  columns-more one m c l d g u v e w = go (dec_lt c n)
    where
      go : Dec (c < n) → is_indexed after (column_start before r c) w g ≡ true
      go (yes k) = value_on ws after h (column_start before r c) w g (m c k d g u v e w)
      go (no k) =
          let q : c ≡ n = omega arith in
          let s = columns-same before ws f.same r n few narrow in
          let z = ap (column_start before r) q in
          subst (λ (t : ℕ). is_indexed after t w g ≡ true) (s ∙ sym z)
          (one (λ y. d (z ∙ sym s ∙ y)) g u v
          (subst (λ (t : ℕ). row_bit ws t g ≡ true) (sym (any_same before ws f.same (column_start ws r n)))
          (f.keeps (64 * any_row before (column_start ws r n) + g) (subst (λ (t : ℕ). row_bit before (any_row before t) g ≡ true) (z ∙ sym s) e))) w)

-- ---- What is entered and spread is indexed

module _ (before after : List ℕ) (f : Grows before after) (r c v g a b : ℕ) (few : r < 64) (narrow : c < 8) (u : a ≤ g) (h : g < b) where
  pub spread-indexed : ((column_start before r c ≡ 0 → ⊥) → SpreadsAny (column_start before r c) a b before after) → EnteredAt before r c v g → IndexedAt after r c v g
  spread-indexed spread e d w definite fits =
      let s = columns-same before after f.same r c few narrow in
      subst (λ (t : ℕ). is_indexed after t w g ≡ true) (sym s) (go (is_any v) refl (e (λ z. d (s ∙ z))) (spread (λ z. d (s ∙ z))))
    where
      go : (x : Bool) → is_any v ≡ x → Entered before (column_start before r c) v g → SpreadsAny (column_start before r c) a b before after → is_indexed after (column_start before r c) w g ≡ true
      go true q m n = n g u h (m.0 q) w
      go false q m n =
          subst (λ (y : ℕ). is_indexed after (column_start before r c) y g ≡ true) (sym (fit-equal w v definite q fits))
          (value_on before after f (column_start before r c) v g (m.1 q))
