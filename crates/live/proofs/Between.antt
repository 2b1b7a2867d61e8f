-- Live ids between two places, word by word.
-- From the law of the count of ones, and that ids before and after a place are counted apart.
use Rattle.std.proofs.Common.{◌≡◌, sym, ap, ◌∙◌, List, ℕ, ◌+◌, ◌-◌, ◌*◌, ◌%◌, ◌^◌, ◌≤◌, ◌<◌, arith}
use native.Mathlib.Nat.{mod-eq_of_lt}
use lib.ListN.{get_or}
use lib.Count.{ones}
use Rattle.model.specs.TupleSet.{count}
use Rattle.model.specs.LiveWords.{is_live, living_from}
use Rattle.model.proofs.LiveWords.{count-split}
use Rattle.live.proofs.Bits.{ones-living_from}

-- how many ids from a on and below e are live
abbrev pub between : List ℕ → ℕ → ℕ → ℕ
between ws a e = count (living_from a (e - a) ws)

-- the live ids from word i on are its ones, and those of the words after it
pub one_word : (ws : List ℕ) (i e : ℕ) → 64 * (i + 1) ≤ e → get_or ws i 0 < 2 ^ 64 → between ws (64 * i) e ≡ ones (get_or ws i 0) + between ws (64 * (i + 1)) e
one_word ws i e h fits =
    let k = 64 * (i + 1) - 64 * i in
    let q : k ≡ 64 = omega arith in
    let o : ones (get_or ws i 0) ≡ ones (get_or ws i 0 % 2 ^ k) = sym (ap (λ (x : ℕ). ones (get_or ws i 0 % 2 ^ x)) q ∙ ap ones (mod-eq_of_lt fits)) in
    count-split (is_live ws) (64 * i) (64 * (i + 1)) e (omega arith) h
    ∙ ap (λ (x : ℕ). x + between ws (64 * (i + 1)) e) (sym (o ∙ ones-living_from ws i k (omega arith)))
