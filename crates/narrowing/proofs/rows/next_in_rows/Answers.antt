-- `next_in_rows` finds the lowest bit of a word that is left of the rows, by the laws of trailing zeros and of shifted words.
use Rattle.std.proofs.Common.{◌≡◌, true, List, ℕ, ◌+◌, ◌-◌, ◌*◌, ◌/◌, ◌%◌, ◌^◌, ◌≤◌, ◌<◌, get_or, sym, ap, ◌∙◌, arith}
use native.Mathlib.Nat.{lt_of_le_of_lt}
use native.Mathlib.Decide.{dec_lt}
use lib.Pow.{shr_le}
use lib.Count.{count_trailing_zeros}
use Rattle.model.specs.LiveWords.{is_set, is_live}
use Rattle.model.proofs.Bools.{and_intro, and_left, not-both}
use Rattle.model.proofs.LiveWords.{is_live-at}
use Rattle.live.proofs.Bits.{is_set-shr, is_set-high, is_set-below, trailing_below, trailing_at}
use Rattle.narrowing.specs.TupleRows.{in_rows, BitsInRows}
use Rattle.narrowing.proofs.rows.next_in_rows.Goals as goal

-- none of the ids from start on and below `at` is live and in all rows
abbrev NoneTo : List ℕ → List ℕ → ℕ → List ℕ → ℕ → ℕ → Type 0
NoneTo index rows n words start at = (h : ℕ) → start ≤ h → h < at → is_live words h ≡ true → in_rows index rows n h ≡ true → ⊥

-- ---- The word of id `at`, w of which is left of the rows

module _ (index rows : List ℕ) (n : ℕ) (words : List ℕ) (at w : ℕ) (bits : BitsInRows index n rows (at / 64) (get_or words (at / 64) 0) w) where
  -- from its bit on
  abbrev rest : ℕ
  rest = w / 2 ^ (at % 64)

  -- an id of it that is live and in all rows is in the rest
  in_rest : (h : ℕ) → at ≤ h → h < (at / 64 + 1) * 64 → is_live words h ≡ true → in_rows index rows n h ≡ true → is_set rest (h - at) ≡ true
  in_rest h l b live inside =
      let j = at % 64 + (h - at) in
      let k : j < 64 = omega arith in
      let is : 64 * (at / 64) + j ≡ h = omega arith in
      is_set-shr w (at % 64) (h - at)
      ∙ bits j k
      ∙ and_intro (sym (is_live-at words (at / 64) j k) ∙ ap (is_live words) is ∙ live) (ap (in_rows index rows n) is ∙ inside)

  none-of-empty : rest ≡ 0 → NoneTo index rows n words at ((at / 64 + 1) * 64)
  none-of-empty z h l b live inside =
      not-both (in_rest h l b live inside) (ap (λ (w : ℕ). is_set w (h - at)) z ∙ is_set-high 0 0 (h - at) (omega arith) (omega arith))

  abbrev zeros : ℕ
  zeros = count_trailing_zeros 64 rest

  -- the lowest bit of a rest that is not empty
  module _ (fits : w < 2 ^ 64) (some : rest ≡ 0 → ⊥) where
    found : is_set rest zeros ≡ true
    found = trailing_at 64 rest (omega arith) (lt_of_le_of_lt (shr_le w (at % 64)) fits)

    within : at % 64 + zeros < 64
    within = is_set-below w 64 (at % 64 + zeros) fits (sym (is_set-shr w (at % 64) zeros) ∙ found)

    found-lives : is_live words (at + zeros) ≡ true
    found-lives =
        let j = at % 64 + zeros in
        let is : 64 * (at / 64) + j ≡ at + zeros = omega arith in
        ap (is_live words) (sym is)
        ∙ is_live-at words (at / 64) j within
        ∙ and_left (is_set (get_or words (at / 64) 0) j) (in_rows index rows n (64 * (at / 64) + j)) (sym (bits j within) ∙ sym (is_set-shr w (at % 64) zeros) ∙ found)

    none-to-found : NoneTo index rows n words at (at + zeros)
    none-to-found h l b live inside =
        let k = within in
        not-both (in_rest h l (omega arith) live inside) (trailing_below 64 rest (h - at) (omega arith))

-- one stretch behind another
none_then : (index rows : List ℕ) (n : ℕ) (words : List ℕ) (start at to : ℕ) → NoneTo index rows n words start at → NoneTo index rows n words at to → NoneTo index rows n words start to
none_then index rows n words start at to f s h l b = go (dec_lt h at)
  where
    go : Dec (h < at) → is_live words h ≡ true → in_rows index rows n h ≡ true → ⊥
    go (yes k) = f h l k
    go (no k) = s h (omega arith) b

-- ---- In the loop

pub returns-then-g-end : goal.returns-then-g-end
returns-then-g-end c =
    let a = c.args in
    let l = c.loop-at in
    let w = c.in_rows.result in
    let left : BitsInRows a.index.now a.n a.rows.now (l.at / 64) (get_or a.words.now (l.at / 64) 0) w = rw (sym c.wide-i.ensures.0) c.in_rows.ensures in
    record {
      from_on = omega arith;
      to_end = omega arith;
      lives = λ h. found-lives a.index.now a.rows.now a.n a.words.now l.at w left c.in_rows.type_inv c.if-w-ne0.true;
      none_before = none_then a.index.now a.rows.now a.n a.words.now a.start l.at _ l.invariant.none (none-to-found a.index.now a.rows.now a.n a.words.now l.at w left c.in_rows.type_inv c.if-w-ne0.true);
    }

pub returns-else-g-end : goal.returns-else-g-end
returns-else-g-end c =
    let a = c.args in
    let l = c.loop-at in
    let w = c.in_rows.result in
    let left : BitsInRows a.index.now a.n a.rows.now (l.at / 64) (get_or a.words.now (l.at / 64) 0) w = rw (sym c.wide-i.ensures.0) c.in_rows.ensures in
    let before = none_then a.index.now a.rows.now a.n a.words.now a.start l.at _ l.invariant.none (none-to-found a.index.now a.rows.now a.n a.words.now l.at w left c.in_rows.type_inv c.if-w-ne0.true) in
    record { from_on = omega arith; to_end = omega arith; lives = λ h. absurd (omega arith); none_before = λ h s b. before h s (omega arith) }

pub loop-at-preserved : goal.loop-at-preserved
loop-at-preserved c =
    let a = c.args in
    let l = c.loop-at in
    let w = c.in_rows.result in
    let left : BitsInRows a.index.now a.n a.rows.now (l.at / 64) (get_or a.words.now (l.at / 64) 0) w = rw (sym c.wide-i.ensures.0) c.in_rows.ensures in
    record {
      from_on = omega arith;
      none = none_then a.index.now a.rows.now a.n a.words.now a.start l.at _ l.invariant.none (none-of-empty a.index.now a.rows.now a.n a.words.now l.at w left c.if-w-ne0.false);
    }
