-- How a line is read field by field, and lines line by line, behind what was read before; and what is kept behind them.
-- From the definitions of `read_line` and `read_lines`.
use mathlib.Core.Path.{◌≡◌, sym, ap, ◌∙◌}
use mathlib.Core.Option.{none, some}
use mathlib.Core.List.{List, [], ◌∷◌, ◌++◌, append-nil}
use Prim.Native.Nat.{ℕ, zero, suc, ◌+◌, ◌-◌, ◌*◌, ◌≤◌, ◌<◌}
use native.Mathlib.Nat.{suc-mul, mul-le-mul_right}
use native.Mathlib.Numerals.{add-one}
use native.Mathlib.Omega.{arith}
use lib.ListN.{length, take, drop, set}
use lib.Seq.{take-suc-set, drop-drop}
use Rattle.model.specs.Text.{comma}
use Rattle.model.specs.Reading.{read_field, read_line, read_lines}
use Rattle.reading.specs.Parts.{found_at, behind}
use Rattle.reading.proofs.Found.{found-at, behind-behind, map-split, map-none}

-- one entry more
pub take_more : (xs : List ℕ) (i x : ℕ) → i < length xs → take (i + 1) (set xs i x) ≡ take i xs ++ (x ∷ [])
take_more xs i x h = rw add-one (take-suc-set xs i x h)

-- lists that are alike from entry k on are so from a later one on
pub drop-later : (k n : ℕ) (xs ys : List ℕ) → k ≤ n → drop k xs ≡ drop k ys → drop n xs ≡ drop n ys
drop-later k n xs ys h e =
    let q : n ≡ k + (n - k) = omega arith in
    ap (λ (i : ℕ). drop i xs) q
    ∙ sym (drop-drop (n - k) k xs)
    ∙ ap (drop (n - k)) e
    ∙ drop-drop (n - k) k ys
    ∙ ap (λ (i : ℕ). drop i ys) (sym q)

-- a field before j others
module _ (top j k : ℕ) (T us : List ℕ) (h : 0 < j) (q : k ≡ j + 1) where
  pub line-stop : read_field top comma T ≡ none → behind us (read_line top k T) ≡ none
  line-stop e = rw q (go j h)
    where
      go : (i : ℕ) → 0 < i → behind us (read_line top (i + 1) T) ≡ none
      go zero p = absurd (omega arith)
      go (suc i) p = rw (add-one (suc i), e)

  pub line-more : (rest : List ℕ) (v : ℕ) → read_field top comma T ≡ some (v, rest) → behind us (read_line top k T) ≡ behind (us ++ (v ∷ [])) (read_line top j rest)
  line-more rest v e = rw q (go j h)
    where
      go : (i : ℕ) → 0 < i → behind us (read_line top (i + 1) T) ≡ behind (us ++ (v ∷ [])) (read_line top i rest)
      go zero p = absurd (omega arith)
      go (suc i) p = rw (add-one (suc i), e) (behind-behind us (v ∷ []) (read_line top (suc i) rest))

lines-first : (top j n : ℕ) (T us vs rest : List ℕ) → read_line top n T ≡ some (vs, rest) → behind us (read_lines top (j + 1) n T) ≡ behind (us ++ vs) (read_lines top j n rest)
lines-first top j n T us vs rest e = rw (add-one, e) (behind-behind us vs (read_lines top j n rest))

-- a line before j others
module _ (top j k n : ℕ) (t T us ws : List ℕ) (next : ℕ) (q : k ≡ j + 1) (h : found_at next ws t ≡ behind us (read_line top n T)) where
  pub lines-stop : next ≡ 0 → behind us (read_lines top k n T) ≡ none
  lines-stop z =
      let e : read_line top n T ≡ none = map-none (λ (vs : List ℕ). us ++ vs) t next ws (read_line top n T) h z in
      rw (q, add-one, e)

  pub lines_more : (next ≡ 0 → ⊥) → behind us (read_lines top k n T) ≡ behind ws (read_lines top j n (drop next t))
  lines_more z =
      let s = map-split (λ (vs : List ℕ). us ++ vs) t next ws (read_line top n T) h z in
      ap (λ (i : ℕ). behind us (read_lines top i n T)) q
      ∙ lines-first top j n T us s.0 (drop next t) s.1
      ∙ ap (λ (vs : List ℕ). behind vs (read_lines top j n (drop next t))) (sym s.2)

-- no line is left
pub lines_end : (top n : ℕ) (t us : List ℕ) (at : ℕ) → 0 < at → found_at at us t ≡ behind us (read_lines top 0 n (drop at t))
lines_end top n t us at h =
    found-at t at us (λ (z : at ≡ 0). omega arith) ∙ ap (λ (xs : List ℕ). some (xs, drop at t)) (sym (append-nil us))

-- the next line's entries lie among those of all lines
pub line-inside : (i k n : ℕ) → i < k → i * n + n ≤ k * n
line-inside i k n h = rw (sym (suc-mul i n)) (mul-le-mul_right n h)

pub next_place : (start to i n : ℕ) → to ≡ start + i * n → to + n ≡ start + (i + 1) * n
next_place start to i n e =
    let m : (i + 1) * n ≡ i * n + n = rw add-one (suc-mul i n) in
    omega arith
