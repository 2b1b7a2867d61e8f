-- `all_supported` tests the pairs of combination and member, by the laws of consistency by pairs.
use Rattle.std.proofs.Common.{◌≡◌, ℕ, ◌-◌, ◌<◌, Bool, true, false, List, length, get_or, refl, subst, MatchBool, rules, arith}
use Rattle.std.specs.List.{AllWithin, HoldsAt, range_with_len}
use Rattle.std.proofs.lemmas.Iterator.{cases_from_all, YieldsList-from_range}
use Rattle.std.proofs.lemmas.List.FromFn.{length-range_with_len, get_or-range_with_len}
use Rattle.layout.specs.Setting.{Setting, setting, Sound}
use Rattle.consistency.specs.Consistent.{pair_consistent, all_consistent}
use Rattle.consistency.proofs.Pairs.{all-consistent, not-consistent}
use Rattle.consistency.proofs.all_supported.Goals as goal

abbrev IsConsistent : Setting → List ℕ → Bool → ℕ → Type 0
IsConsistent G words b p = pair_consistent G words p ≡ b

module _ {G : Setting} (sound : Sound G) (words : List ℕ) (n : ℕ) (all : n ≡ length G.members) where
  pair-at : (p : ℕ) → p < n → (b : Bool) → IsConsistent G words b (get_or (range_with_len 0 n) p 0) → IsConsistent G words b p
  pair-at p h b e = let q : get_or (range_with_len 0 n) p 0 ≡ p = omega (arith, get_or-range_with_len 0 n p 0 h) in subst (IsConsistent G words b) q e

  by-pairs : (r : Bool) → MatchBool r (AllWithin (IsConsistent G words true) (range_with_len 0 n) 0 (length (range_with_len 0 n))) ((k : ℕ) × (k < length (range_with_len 0 n)) × HoldsAt (IsConsistent G words false) (range_with_len 0 n) k) → r ≡ all_consistent G words
  by-pairs true h = all-consistent sound words (λ p l. pair-at p (omega arith) true (h p 0 (omega arith) (omega (arith, length-range_with_len 0 n))))
  by-pairs false h =
      let l : h.0 < n = omega (arith, h.1, length-range_with_len 0 n) in
      not-consistent sound words h.0 (omega arith) (pair-at h.0 l false (h.2 0))

pub index_all-requires : goal.index_all-requires
index_all-requires c = (search rules, c.requires.1.laid)

pub returns : goal.returns
returns c =
    let a = c.args in
    let G : Setting = setting (λ xs. xs) a.variables.now a.values.now a.starts.now a.members.now a.m in
    let n : ℕ = length a.members.now - 0 in
    by-pairs {G = G} c.requires.1 a.words.now n (omega arith) c.all.result
    (cases_from_all _ _ _ (IsConsistent G a.words.now true) (IsConsistent G a.words.now false) c.all.ensures.ran (YieldsList-from_range 0 (length a.members.now) n refl refl) (λ x q k. search rules) (λ x q k. search rules))
