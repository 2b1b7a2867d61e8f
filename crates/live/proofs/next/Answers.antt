-- `live::next` meets its contract. The loop's invariant: the next live id from `at` on is the one from `start` on.
-- From the laws of trailing zeros and of shifted words, and the laws of the next live id.
use mathlib.Core.Path.{◌≡◌, refl, sym, ap, ◌∙◌}
use mathlib.Core.Bool.{true}
use mathlib.Core.List.{List}
use Prim.Native.Nat.{ℕ, ◌+◌, ◌-◌, ◌*◌, ◌/◌, ◌%◌, ◌^◌, ◌≤◌, ◌<◌}
use native.Mathlib.Nat.{lt_of_le_of_lt}
use native.Mathlib.Omega.{arith}
use lib.ListN.{get_or}
use lib.Pow.{shr_le}
use lib.Count.{count_trailing_zeros, trailing_le}
use Rattle.model.specs.LiveWords.{is_set, next_live}
use Rattle.model.proofs.LiveWords.{next_live-past, next_live-here, next_live-skip}
use Rattle.live.proofs.Bits.{is_set-shr, is_set-high, is_set-below, is_live-shr, trailing_below, trailing_at}
use Rattle.live.proofs.next.Goals as goal

-- the word of id `at`, from its bit on
abbrev rest : List ℕ → ℕ → ℕ
rest ws at = get_or ws (at / 64) 0 / 2 ^ (at % 64)

abbrev zeros : List ℕ → ℕ → ℕ
zeros ws at = count_trailing_zeros 64 (rest ws at)

module _ (ws : List ℕ) (at end : ℕ) where
  -- no id of an empty rest is live
  rest-empty : rest ws at ≡ 0 → next_live ws at end ≡ next_live ws ((at / 64 + 1) * 64) end
  rest-empty z =
      let e : at + (64 - at % 64) ≡ (at / 64 + 1) * 64 = omega arith in
      next_live-skip ws at (64 - at % 64) end
      (λ j l. is_live-shr ws at j (omega arith) ∙ ap (λ (w : ℕ). is_set w j) z ∙ is_set-high 0 0 j (omega arith) (omega arith))
      ∙ ap (λ (x : ℕ). next_live ws x end) e

  -- the lowest bit of a rest that is not empty
  module _ (fits : get_or ws (at / 64) 0 < 2 ^ 64) (some : rest ws at ≡ 0 → ⊥) where
    rest-found : is_set (rest ws at) (zeros ws at) ≡ true
    rest-found = trailing_at 64 (rest ws at) (omega arith) (lt_of_le_of_lt (shr_le (get_or ws (at / 64) 0) (at % 64)) fits)

    inside : at % 64 + zeros ws at < 64
    inside =
        let w = get_or ws (at / 64) 0 in
        is_set-below w 64 (at % 64 + zeros ws at) fits (sym (is_set-shr w (at % 64) (zeros ws at)) ∙ rest-found)

    found_first : next_live ws at end ≡ next_live ws (at + zeros ws at) end
    found_first =
        next_live-skip ws at (zeros ws at) end (λ j l. is_live-shr ws at j (omega (arith, inside)) ∙ trailing_below 64 (rest ws at) j l)

    found_here : at + zeros ws at < end → next_live ws at end ≡ at + zeros ws at
    found_here h = found_first ∙ next_live-here ws (at + zeros ws at) end h (is_live-shr ws at (zeros ws at) inside ∙ rest-found)

    found-past : end ≤ at + zeros ws at → next_live ws at end ≡ end
    found-past h = found_first ∙ next_live-past ws (at + zeros ws at) end h

pub loop-at-init : goal.loop-at-init
loop-at-init c = refl

pub overflow_cast-g : goal.overflow_cast-g
overflow_cast-g c = omega (arith, trailing_le 64 (rest c.args.words.now c.loop-at.at))

pub overflow_add-g : goal.overflow_add-g
overflow_add-g c = omega (arith, trailing_le 64 (rest c.args.words.now c.loop-at.at))

pub returns-then-g-end : goal.returns-then-g-end
returns-then-g-end c =
    let a = c.args in
    let l = c.loop-at in
    let f = (c.type_inv.words (l.at / 64)).fits in
    sym (found_here a.words.now l.at a.end f c.if-w-ne0.true c.if-g-end.true) ∙ l.invariant

pub returns-else-g-end : goal.returns-else-g-end
returns-else-g-end c =
    let a = c.args in
    let l = c.loop-at in
    let f = (c.type_inv.words (l.at / 64)).fits in
    sym (found-past a.words.now l.at a.end f c.if-w-ne0.true c.if-g-end.false) ∙ l.invariant

pub loop-at-preserved : goal.loop-at-preserved
loop-at-preserved c =
    let l = c.loop-at in
    let a = c.args in
    sym (rest-empty a.words.now l.at a.end c.if-w-ne0.false) ∙ l.invariant

pub returns : goal.returns
returns c =
    let a = c.args in
    sym (next_live-past a.words.now c.loop-at.at a.end c.loop-at-test.false) ∙ c.loop-at.invariant
