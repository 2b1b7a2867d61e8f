-- Laws of words copied into an array. From the definitions, and the laws of live words.
use mathlib.Core.Path.{◌≡◌, sym, subst}
use mathlib.Core.List.{List, ◌++◌}
use Prim.Native.Nat.{ℕ, ◌*◌, ◌^◌, ◌≤◌, ◌<◌}
use native.Mathlib.Decide.{dec_lt}
use native.Mathlib.Omega.{arith}
use lib.ListN.{length, get_or, take, drop, replicate}
use Rattle.std.proofs.Common.{◌∙◌, ◌+◌, ◌-◌}
use Rattle.std.proofs.Math.ListN.{get_or-append}
use Rattle.std.proofs.lemmas.List.{get_or-append_right, get_or-take, get_or-drop, get_or-replicate, length-append, length-take-le, length-replicate}
use lib.ListN.{length-drop}
use Rattle.model.specs.Limits.{word_bits}
use Rattle.model.specs.TupleSet.{TupleSet}
use Rattle.model.specs.LiveWords.{living, written}
use Rattle.model.proofs.LiveWords.{living-same, written-copy}
use Rattle.live.specs.Words.{WordArray, Copied}

-- the first n words before what stands behind the first n noughts
pub copied-front : (n : ℕ) (words : List ℕ) → n ≤ 64 → n ≤ length words → Copied n words (take n words ++ drop n (replicate 64 0))
copied-front n words few h =
    let long : length (take n words) ≡ n = length-take-le n words h in
    record {
      long = simp (length-append, length-drop, length-replicate) (omega arith);
      same = λ j l. get_or-append (take n words) (drop n (replicate 64 0)) 0 j (omega arith) ∙ get_or-take n words j 0 l;
      none = λ j m l.
          get_or-append_right (take n words) (drop n (replicate 64 0)) n j 0 long m
          ∙ get_or-drop n (replicate 64 0) (j - n) 0
          ∙ get_or-replicate 64 (n + (j - n)) 0 0 (omega arith);
    }

module _ (n : ℕ) (words array : List ℕ) (copy : Copied n words array) where
  pub copied-array : ((i : ℕ) → get_or words i 0 < 2 ^ 64) → WordArray array
  copied-array small = record { long = copy.long; small = λ i h. at i (omega (arith, copy.long)) (dec_lt i n) }
    where
      at : (i : ℕ) → i < 64 → Dec (i < n) → get_or array i 0 < 2 ^ 64
      at i h (yes l) = subst (λ (w : ℕ). w < 2 ^ 64) (sym (copy.same i l)) (small i)
      at i h (no d) = subst (λ (w : ℕ). w < 2 ^ 64) (sym (copy.none i (omega arith) h)) (omega arith)

  module _ (ids : ℕ) (enough : ids ≤ word_bits * n) where
    -- the same ids live in it
    pub copied-living : living ids array ≡ living ids words
    copied-living = living-same ids n array words enough copy.same

    -- what is written to it and put back is written to the words
    pub copied-written : (S : TupleSet) → n ≤ 64 → n ≤ length words → ((i : ℕ) → get_or words i 0 < 2 ^ 64) → take n (written ids S array) ++ drop n words ≡ written ids S words
    copied-written S few l small = written-copy ids n S array words (omega (arith, copy.long)) l copy.same (λ i _. small i) enough
