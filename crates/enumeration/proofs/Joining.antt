-- What is in every set once one more relation is chosen: in the set of all that it reaches, and in each set that it is not in.
-- From the definitions and the laws of bits.
use mathlib.Core.Path.{◌≡◌, refl, sym, ◌∙◌, ap, ap₂}
use mathlib.Core.Bool.{Bool, true, false, not, ◌&&◌, ◌||◌, cond, and_assoc, and-true, and-false}
use mathlib.Core.List.{List, [], ◌∷◌, map}
use Prim.Native.Nat.{ℕ, ◌-◌, ◌+◌, ◌/◌, ◌^◌, ◌≤◌, ◌<◌}
use native.Mathlib.Omega.{arith}
use lib.Bits.{bit_and, bit_or}
use lib.ListN.{get_or}
use Rattle.model.specs.Limits.{max_relations}
use Rattle.model.specs.Lists.{all, any}
use Rattle.model.specs.LiveWords.{is_set}
use Rattle.model.proofs.Bools.{and_left, and_right, and_intro, or-false-left, or-false-right, iff-eq}
use Rattle.model.proofs.Lists.{all-at, all-intro, all_map, all-of-append}
use Rattle.live.proofs.Bits.{is_set-and, is_set-not, is_set-nought, is_set-shr, is_set-high}
use Rattle.enumeration.specs.Reach.{reach, joined, common, Union, Common, Tries, Mutual}

-- every relation is in a word of ones
pub every : (s : ℕ) → s < max_relations → is_set 18446744073709551615 s ≡ true
every s h = is_set-not 64 0 s (omega arith) h ∙ ap not (is_set-nought s)

-- relation s is in each set that relation r is not in
abbrev pub others : ℕ → ℕ → List ℕ → Bool
others r s ns = all (λ (n : ℕ). is_set n r || is_set n s) ns

-- one set after the other
pub others-next : (b : Bool) (rest n s : ℕ) (q : Bool) → (is_set (cond b rest (bit_and rest n)) s && q) ≡ (is_set rest s && ((b || is_set n s) && q))
others-next true rest n s q = refl
others-next false rest n s q = ap (λ (b : Bool). b && q) (is_set-and rest n s) ∙ and_assoc (is_set rest s) (is_set n s) q

module _ (r w s : ℕ) (ns : List ℕ) where
  abbrev u : ℕ
  u = reach r w ns

  abbrev widened : ℕ → ℕ
  widened n = cond (is_set n r) u n

  in-widened : (n : ℕ) (b : Bool) → (b || is_set n s) ≡ true → is_set u s ≡ true → is_set (cond b u n) s ≡ true
  in-widened n true e f = f
  in-widened n false e f = e

  of-widened : (n : ℕ) (b : Bool) → is_set (cond b u n) s ≡ true → (b || is_set n s) ≡ true
  of-widened n true e = refl
  of-widened n false e = e

  pub common-joined : (is_set u s && others r s ns) ≡ common (joined r w ns) s
  common-joined =
      iff-eq (is_set u s && others r s ns) (common (joined r w ns) s)
      (λ e.
      let f = and_left (is_set u s) (others r s ns) e in
      all-of-append (λ (n : ℕ). is_set n s) (map widened ns) (u ∷ [])
      ∙ and_intro
      (all_map widened (λ (n : ℕ). is_set n s) ns
      ∙ all-intro (λ (n : ℕ). is_set (widened n) s) ns (λ n m. in-widened n (is_set n r) (all-at (λ (n : ℕ). is_set n r || is_set n s) ns (and_right (is_set u s) (others r s ns) e) m) f))
      (and-true (is_set u s) ∙ f))
      (λ e.
      let both = sym (all-of-append (λ (n : ℕ). is_set n s) (map widened ns) (u ∷ [])) ∙ e in
      let front = sym (all_map widened (λ (n : ℕ). is_set n s) ns) ∙ and_left (all (λ (n : ℕ). is_set n s) (map widened ns)) (is_set u s && true) both in
      and_intro
      (sym (and-true (is_set u s)) ∙ and_right (all (λ (n : ℕ). is_set n s) (map widened ns)) (is_set u s && true) both)
      (all-intro (λ (n : ℕ). is_set n r || is_set n s) ns (λ n m. of-widened n (is_set n r) (all-at (λ (n : ℕ). is_set (widened n) s) ns front m))))

-- where relation r is in none of the sets
module _ (r w s : ℕ) where
  reach-none : (ns : List ℕ) → any (λ (n : ℕ). is_set n r) ns ≡ false → reach r w ns ≡ w
  reach-none [] e = refl
  reach-none (n ∷ ns) e =
      ap (λ (b : Bool). reach r (cond b (bit_or w n) w) ns) (or-false-left (is_set n r) (any (λ (n : ℕ). is_set n r) ns) e)
      ∙ reach-none ns (or-false-right (is_set n r) (any (λ (n : ℕ). is_set n r) ns) e)

  others-none : (ns : List ℕ) → any (λ (n : ℕ). is_set n r) ns ≡ false → others r s ns ≡ common ns s
  others-none [] e = refl
  others-none (n ∷ ns) e =
      ap₂ (λ (b c : Bool). (b || is_set n s) && c) (or-false-left (is_set n r) (any (λ (n : ℕ). is_set n r) ns) e)
      (others-none ns (or-false-right (is_set n r) (any (λ (n : ℕ). is_set n r) ns) e))

  pub common-apart : (ns : List ℕ) → any (λ (n : ℕ). is_set n r) ns ≡ false → (is_set w s && common ns s) ≡ common (joined r w ns) s
  common-apart ns e =
      sym (ap₂ (λ (v : ℕ) (b : Bool). is_set v s && b) (reach-none ns e) (others-none ns e)) ∙ common-joined r w s ns

-- a word whose bits end at r has no relation above it
pub none_above : (word r s : ℕ) → word / 2 ^ r ≤ 1 → r < s → is_set word s ≡ false
none_above word r s h l =
    let e : r + (s - r) ≡ s = omega arith in
    sym (is_set-shr word r (s - r) ∙ ap (is_set word) e) ∙ is_set-high (word / 2 ^ r) 1 (s - r) (omega arith) (omega arith)

-- no relation from i on is in a set whose bits end before
pub none_from : (n i s : ℕ) → n / 2 ^ i ≡ 0 → i ≤ s → is_set n s ≡ false
none_from n i s h l =
    let e : i + (s - i) ≡ s = omega arith in
    sym (is_set-shr n i (s - i) ∙ ap (is_set n) e) ∙ ap (λ (w : ℕ). is_set w (s - i)) h ∙ is_set-nought (s - i)

-- Of the relations from i on, those not in the word have none behind them that completes the members.
abbrev pub Tried : ℕ → List ℕ → List ℕ → ℕ → ℕ → Type 0
Tried word near ns i count =
    (r : ℕ) → i ≤ r → r < count → is_set word r ≡ false → (s : ℕ) → r < s → s < count → common (joined r (get_or near r 0) ns) s ≡ false

-- .. as one that is in no set, and has no neighbour behind it that is in each
pub tries-tried : (word some all : ℕ) (near ns : List ℕ) (i count : ℕ) → count ≤ max_relations → Tries word near count some all i → Mutual near count → Union some ns → Common all ns → Tried word near ns i count
tries-tried word some all near ns i count few T both us cs r l below out s above high =
    let t = T r out in
    sym (common-apart r (get_or near r 0) s ns (sym (us r (omega arith)) ∙ t.0))
    ∙ ap (λ (b : Bool). is_set (get_or near r 0) s && b) (sym (cs s (omega arith)))
    ∙ none (is_set all s) refl
  where
    none : (b : Bool) → is_set all s ≡ b → (is_set (get_or near r 0) s && b) ≡ false
    none true e = and-true (is_set (get_or near r 0) s) ∙ both r s below high ∙ (T r out).1 s (omega arith) high e
    none false e = and-false (is_set (get_or near r 0) s)
