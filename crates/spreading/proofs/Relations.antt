-- Laws of one relation narrowed through another: what is gathered of it, tuple by tuple, and what is then kept.
-- From what `gather` ensures, and the laws of narrowing and of ids.
use mathlib.Core.Path.{◌≡◌, refl, sym, ◌∙◌, ap, subst}
use mathlib.Core.Bool.{Bool, true, false, ◌&&◌, and-true}
use mathlib.Core.List.{List}
use mathlib.Core.Logic.{◌⊎◌, ⊎_elim}
use Prim.Native.Nat.{ℕ, ◌+◌, ◌*◌, ◌≤◌, ◌<◌}
use native.Mathlib.Decide.{ℕ_discrete, dec_lt}
use native.Mathlib.Nat.{lt_of_not-le}
use native.Mathlib.Omega.{arith}
use lib.Dec.{ltb, leb}
use Rattle.model.specs.Network.{Network, size, first_id}
use Rattle.model.specs.Agreement.{agree}
use Rattle.model.specs.LiveWords.{is_live}
use Rattle.model.proofs.Bools.{and_left, and_intro, or_right, not-both}
use Rattle.live.proofs.Ahead.{NextLive}
use Rattle.value_index.specs.Index.{row_bit}
use Rattle.narrowing.specs.Narrows.{stays, KeptIds}
use Rattle.narrowing.specs.Gathers.{Gathers}
use Rattle.narrowing.proofs.Words.{stays-before, stays-behind}
use Rattle.spreading.specs.Spread.{Spread}

module _ (N : Network) (r s : ℕ) where
  -- what agrees with the fresh tuples of relation r below id g is gathered
  abbrev pub Gathered : List ℕ → List ℕ → List ℕ → ℕ → Type 0
  Gathered fresh words sum g =
      (x z : ℕ) → x < size N r → first_id N r + x < g → is_live fresh (first_id N r + x) ≡ true → z < size N s → agree N (first_id N r + x) (first_id N s + z) ≡ true → is_live words (first_id N s + z) ≡ true → is_live sum (first_id N s + z) ≡ true

  -- .. with one more of them, the next that is fresh
  pub gathered-more : {fresh words sum after : List ℕ} {end at g at' : ℕ} → NextLive fresh end at g at' → (y : ℕ) → first_id N r + y ≡ g → Gathers N r y s words sum after → Gathered fresh words sum at → Gathered fresh words after at'
  gathered-more {fresh} {words} {sum} {after} {end} {at} {g} {at'} next y is-g one so_far x z hx below live hz agrees lives = go (dec_lt (first_id N r + x) at) (ℕ_discrete y x)
    where
      go : Dec (first_id N r + x < at) → Dec (y ≡ x) → is_live after (first_id N s + z) ≡ true
      go (yes l) d = one.keeps z hz (so_far x z hx l live hz agrees lives)
      go (no l) (yes e) = one.adds z hz (subst (λ (k : ℕ). agree N (first_id N r + k) (first_id N s + z) ≡ true) (sym e) agrees) lives
      go (no l) (no d) = absurd (not-both live (next.none_before (first_id N r + x) (omega arith) (omega (arith, below, next.behind, is-g, d))))

  -- .. where no fresh one is left
  pub gathered-all : (fresh words sum : List ℕ) (end at : ℕ) → ((i : ℕ) → at ≤ i → i < end → is_live fresh i ≡ false) → Gathered fresh words sum at → Gathered fresh words sum end
  gathered-all fresh words sum end at none so_far x z hx below live hz agrees lives =
      so_far x z hx (lt_of_not-le (λ le. not-both live (none (first_id N r + x) le below))) live hz agrees lives

  -- nothing is narrowed
  pub spread_none : (words : List ℕ) → Spread N r s words words
  spread_none words = record { inside = λ g l. l; outside = λ g o. refl; keeps = λ x z hx hz a lx lz. lz }

-- ---- What is gathered of relation s is kept

-- an id that is live in both is
pub kept-both : (start end : ℕ) (words sum after : List ℕ) → KeptIds (row_bit sum 0) start end words after → (g : ℕ) → is_live words g ≡ true → is_live sum g ≡ true → is_live after g ≡ true
kept-both start end words sum after kept i lz ls =
    let n : 64 * 0 + i ≡ i = omega arith in
    kept i ∙ and_intro lz (or_right (ltb i start) (or_right (leb end i) (ap (is_live sum) n ∙ ls)))

module _ (N : Network) (s start end : ℕ) (words sum after : List ℕ) (es : start ≡ first_id N s) (ee : end ≡ first_id N s + size N s) (kept : KeptIds (row_bit sum 0) start end words after) where
  pub kept-inside : (g : ℕ) → is_live after g ≡ true → is_live words g ≡ true
  kept-inside h l = and_left (is_live words h) (stays (row_bit sum 0) start end h) (sym (kept h) ∙ l)

  pub kept-outside : (g : ℕ) → (g < first_id N s) ⊎ (first_id N s + size N s ≤ g) → is_live after g ≡ is_live words g
  kept-outside h o = kept h ∙ ap (λ (x : Bool). is_live words h && x) (⊎_elim (λ l. stays-before (row_bit sum 0) start end h (omega arith)) (λ l. stays-behind (row_bit sum 0) start end h (omega arith)) o) ∙ and-true (is_live words h)

  pub spread-kept : (r : ℕ) → ((x z : ℕ) → x < size N r → z < size N s → agree N (first_id N r + x) (first_id N s + z) ≡ true → is_live words (first_id N r + x) ≡ true → is_live words (first_id N s + z) ≡ true → is_live sum (first_id N s + z) ≡ true) → Spread N r s words after
  spread-kept r adds =
      record {
        inside = kept-inside;
        outside = kept-outside;
        keeps = λ x z hx hz a lx lz. kept-both start end words sum after kept (first_id N s + z) lz (adds x z hx hz a lx lz);
      }
