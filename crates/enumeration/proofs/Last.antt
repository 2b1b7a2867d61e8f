-- The last member: the relations of a word, found one after the other. From the laws of the first number that passes.
use mathlib.Core.Path.{◌≡◌, sym, ◌∙◌, ap}
use mathlib.Core.Bool.{false}
use mathlib.Core.List.{List, [], ◌∷◌, ◌++◌, map}
use Prim.Native.Nat.{ℕ, ◌+◌, ◌-◌, ◌/◌, ◌^◌, ◌≤◌, ◌<◌}
use native.Mathlib.Decide.{dec_lt}
use native.Mathlib.Nat.{lt_of_le_of_lt}
use native.Mathlib.Omega.{arith}
use lib.Pow.{shr_le}
use lib.Count.{count_trailing_zeros}
use lib.ListN.{take}
use Rattle.model.specs.Lists.{from, select}
use Rattle.model.specs.Combination.{Combination}
use Rattle.model.specs.LiveWords.{is_set}
use Rattle.model.proofs.Lists.{First, first-unique, select-from, select-first, select-past}
use Rattle.live.proofs.Bits.{is_set-shr, trailing_below, trailing_at}
use Rattle.enumeration.specs.Reach.{next_in}
use Rattle.enumeration.specs.Stage.{last_extensions}
use Rattle.enumeration.proofs.Joining.{none_from}

module _ (word : ℕ) (members : List ℕ) (k count : ℕ) where
  abbrev cs : ℕ → List Combination
  cs i = last_extensions word members k i count

  abbrev with-last : ℕ → Combination
  with-last r = take k members ++ (r ∷ [])

  pub last-past : (r : ℕ) → count ≤ r → cs r ≡ []
  last-past r h = let e : count - r ≡ 0 = omega arith in ap (λ (n : ℕ). map with-last (select (is_set word) (from r n))) e

  pub last-here : (i r : ℕ) → First (is_set word) i count r → r < count → cs i ≡ with-last r ∷ cs (r + 1)
  last-here i r f h = ap (map with-last) (select-first (is_set word) i count r f h)

  last-itself : (i r : ℕ) → First (is_set word) i count r → First (is_set word) r count r
  last-itself i r f = record { from-i = omega arith; to_end = f.to_end; none_before = λ j h l. absurd (omega arith); passes = f.passes }

  pub last-skip : (i r : ℕ) → First (is_set word) i count r → cs i ≡ cs r
  last-skip i r f = go (dec_lt r count)
    where
      go : Dec (r < count) → cs i ≡ cs r
      go (yes h) = last-here i r f h ∙ sym (last-here r r (last-itself i r f) h)
      go (no h) = ap (map with-last) (select-past (is_set word) i count r f (omega arith)) ∙ sym (last-past r (omega arith))

  pub last_none : (i : ℕ) → i ≤ count → ((s : ℕ) → i ≤ s → s < count → is_set word s ≡ false) → cs i ≡ []
  last_none i h none =
      last-skip i count (record { from-i = h; to_end = omega arith; none_before = none; passes = λ g. absurd (omega arith) }) ∙ last-past count (omega arith)

-- the next relation of a word
pub next-first : (word i end : ℕ) → i ≤ end → First (is_set word) i end (next_in word i end)
unfolding next_in
next-first word i end h = select-from (is_set word) i (end - i) end (omega arith)

-- .. is none before the place where the search begins, and none behind its end
pub next_from : (word i end : ℕ) → i ≤ end → i ≤ next_in word i end
next_from word i end h = (next-first word i end h).from-i

pub next_to : (word i end : ℕ) → i ≤ end → next_in word i end ≤ end
next_to word i end h = (next-first word i end h).to_end

module _ (word i end r : ℕ) (h : i ≤ end) where
  pub next-is : First (is_set word) i end r → r ≡ next_in word i end
  next-is f = first-unique (is_set word) i end r (next_in word i end) f (next-first word i end h)

  -- .. as the trailing zeros of what is left of the word say
  module _ (small : word < 2 ^ 64) (some : word / 2 ^ i ≡ 0 → ⊥) where
    abbrev zeros : ℕ
    zeros = count_trailing_zeros 64 (word / 2 ^ i)

    none_between : (k : ℕ) → i ≤ k → k < i + zeros → is_set word k ≡ false
    none_between k l g =
        let e : i + (k - i) ≡ k = omega arith in
        sym (is_set-shr word i (k - i) ∙ ap (is_set word) e) ∙ trailing_below 64 (word / 2 ^ i) (k - i) (omega arith)

    pub next-zeros : i + zeros < end → First (is_set word) i end (i + zeros)
    next-zeros l =
        record {
          from-i = omega arith;
          to_end = omega arith;
          none_before = none_between;
          passes = λ g. sym (is_set-shr word i zeros) ∙ trailing_at 64 (word / 2 ^ i) (omega arith) (lt_of_le_of_lt (shr_le word i) small);
        }

    pub next-beyond : end ≤ i + zeros → First (is_set word) i end end
    next-beyond l =
        record { from-i = h; to_end = omega arith; none_before = λ k g b. none_between k g (omega arith); passes = λ g. absurd (omega arith) }

  pub next-nothing : word / 2 ^ i ≡ 0 → First (is_set word) i end end
  next-nothing e =
      record { from-i = h; to_end = omega arith; none_before = λ k g b. none_from word i k e g; passes = λ g. absurd (omega arith) }

pub next-none : (word end : ℕ) → First (is_set word) end end end
next-none word end =
    record { from-i = omega arith; to_end = omega arith; none_before = λ k g b. absurd (omega arith); passes = λ g. absurd (omega arith) }
