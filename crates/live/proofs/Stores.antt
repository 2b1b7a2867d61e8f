-- What one stored word makes of the live ids: those of the word are as it says, and all others as before.
-- From the laws of a list with one element set.
use mathlib.Core.Path.{◌≡◌, sym, ap, ap₂, ◌∙◌}
use mathlib.Core.Bool.{Bool, true, not, ◌&&◌, and-true}
use mathlib.Core.List.{List}
use Prim.Native.Nat.{ℕ, ◌*◌, ◌/◌, ◌%◌, ◌<◌}
use native.Mathlib.Decide.{ℕ_discrete}
use native.Mathlib.Omega.{arith}
use lib.Dec.{eqb}
use lib.ListN.{length, get_or, set}
use lib.Seq.{get_or-set_same, get_or-set_other}
use borrow.Author.Tests.{eqb-true, eq-eqb, ne_eqb}
use Rattle.model.specs.LiveWords.{is_set, is_live, word, cleared}
use Rattle.model.proofs.Bools.{iff-eq, and_left}
use Rattle.model.proofs.LiveWords.{word-is_set}

module _ (ws : List ℕ) (i w g : ℕ) where
  pub is_live-set-same : i < length ws → g / 64 ≡ i → is_live (set ws i w) g ≡ is_set w (g % 64)
  unfolding is_live
  is_live-set-same h e =
      ap (λ (k : ℕ). is_set (get_or (set ws i w) k 0) (g % 64)) e ∙ ap (λ (x : ℕ). is_set x (g % 64)) (get_or-set_same ws i w 0 h)

  pub is_live-set-other : (g / 64 ≡ i → ⊥) → is_live (set ws i w) g ≡ is_live ws g
  unfolding is_live
  is_live-set-other d = ap (λ (x : ℕ). is_set x (g % 64)) (get_or-set_other ws i (g / 64) w 0 d)

-- of an id that is cleared: it is dead, and every other one is as before, however large the words are
pub cleared-live : (ws : List ℕ) (g h : ℕ) → g < 64 * length ws → is_live (cleared g ws) h ≡ (is_live ws h && not (eqb g h))
unfolding cleared is_live
cleared-live ws g h l = by (ℕ_discrete (h / 64) (g / 64))
  where
    old : ℕ
    old = get_or ws (g / 64) 0

    bits : ℕ → Bool
    bits j = is_set old j && not (eqb (g % 64) j)

    by : Dec (h / 64 ≡ g / 64) → is_live (set ws (g / 64) (word bits)) h ≡ (is_live ws h && not (eqb g h))
    by (yes e) =
        is_live-set-same ws (g / 64) (word bits) h (omega arith) e
        ∙ word-is_set bits (h % 64) (omega arith)
        ∙ ap₂ (λ (w : ℕ) (b : Bool). is_set w (h % 64) && not b) (ap (λ (k : ℕ). get_or ws k 0) (sym e))
        (iff-eq (eqb (g % 64) (h % 64)) (eqb g h)
        (λ q. let r = eqb-true (g % 64) (h % 64) q in eq-eqb g h (omega arith))
        (λ q. let r = eqb-true g h q in eq-eqb (g % 64) (h % 64) (omega arith)))
    by (no d) =
        is_live-set-other ws (g / 64) (word bits) h d
        ∙ sym (ap (λ (b : Bool). is_live ws h && not b) (ne_eqb g h (λ q. d (ap (λ (k : ℕ). k / 64) (sym q)))) ∙ and-true (is_live ws h))

module _ (ws : List ℕ) (g : ℕ) (h : g < 64 * length ws) where
  pub cleared-fewer : (i : ℕ) → is_live (cleared g ws) i ≡ true → is_live ws i ≡ true
  cleared-fewer i e = and_left (is_live ws i) (not (eqb g i)) (sym (cleared-live ws g i h) ∙ e)

  pub cleared-other : (i : ℕ) → (g ≡ i → ⊥) → is_live (cleared g ws) i ≡ is_live ws i
  cleared-other i d = cleared-live ws g i h ∙ ap (λ (b : Bool). is_live ws i && not b) (ne_eqb g i d) ∙ and-true (is_live ws i)
