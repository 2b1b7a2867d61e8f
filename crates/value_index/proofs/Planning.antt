-- The law of the whole plan, once its numbers are written and each column's rows are laid out.
-- From the laws of a list with one element set.
use mathlib.Core.Path.{◌≡◌, refl, ◌∙◌}
use mathlib.Core.List.{List}
use mathlib.Core.Logic.{◌⊎◌, inl, inr}
use Prim.Native.Nat.{ℕ, ◌+◌, ◌*◌, ◌≤◌}
use native.Mathlib.Omega.{arith}
use lib.ListN.{length, set, length-set}
use Rattle.std.proofs.lemmas.Grind.{common_steps}
use Rattle.value_index.specs.declared.plan.Digits.{Digits}
use Rattle.value_index.specs.Plan.{column_start, index_words, row_words, digit_count, digit_rows, factor, column_words, ColumnRows}
use Rattle.value_index.specs.Index.{Laid}
use Rattle.value_index.specs.Planning.{Digital, Fits, LaysRelations}

module _ (index : List ℕ) (full : length index ≡ index_words) (words : ℕ) (d : Digits) where
  -- the index once its numbers are written
  abbrev numbered : List ℕ
  numbered = set (set (set (set (set index 512 words) 513 d.count) 514 d.rows) 515 d.factor) 516 d.mixes

  pub numbered-full : length numbered ≡ index_words
  numbered-full = simp length-set full

  module _ (final : List ℕ) (laid : LaysRelations ((d.count * d.rows + 1) * words) 64 numbered final) where
    words_are : row_words final ≡ words
    words_are = laid.others 512 (omega arith) ∙ grind (arith, common_steps)

    digits_are : digit_count final ≡ d.count
    digits_are = laid.others 513 (omega arith) ∙ grind (arith, common_steps)

    rows_are : digit_rows final ≡ d.rows
    rows_are = laid.others 514 (omega arith) ∙ grind (arith, common_steps)

    factor-is : factor final ≡ d.factor
    factor-is = laid.others 515 (omega arith) ∙ grind (arith, common_steps)

    size_is : column_words final ≡ (d.count * d.rows + 1) * words
    size_is = rw (digits_are, rows_are, words_are) refl

    column-rows : (n : ℕ) → Fits ((d.count * d.rows + 1) * words) n → (n ≡ 0) ⊎ ColumnRows final n
    column-rows n (inl e) = inl e
    column-rows n (inr f) = inr (record { behind = f.0; within = omega (arith, f.1, size_is) })

    pub laid_out : (n : ℕ) → length final ≡ index_words → Digital d → words ≤ 64 → n ≤ 64 * words → Laid final n
    laid_out n long sound short enough =
        record {
          full = long;
          plan = record {
            few = omega (arith, digits_are, sound.few);
            some = omega (arith, rows_are, sound.some);
            short = omega (arith, rows_are, sound.short);
            narrow = omega (arith, words_are, short);
            small = omega (arith, factor-is, sound.small);
            columns = λ r c h k. column-rows (column_start final r c) (laid.columns r c h k);
          };
          bits = omega (arith, words_are, enough);
        }
