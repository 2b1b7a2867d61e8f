-- Laws of live ids gathered in other words: of none, of some of one word, of ids behind ids, and of a relation's that agree with a tuple.
-- From the laws of a word stored, and of the machine's `|`.
use mathlib.Core.Path.{◌≡◌, sym, ◌∙◌, ap}
use mathlib.Core.Bool.{Bool, true, ◌||◌}
use mathlib.Core.List.{List}
use Prim.Native.Nat.{ℕ, ◌+◌, ◌*◌, ◌/◌, ◌%◌, ◌≤◌, ◌<◌}
use native.Mathlib.Decide.{ℕ_discrete, dec_lt}
use native.Mathlib.Omega.{arith}
use lib.Bits.{bit_or}
use lib.ListN.{get_or, set, length-set}
use Rattle.model.specs.Network.{Network, size, first_id}
use Rattle.model.specs.Agreement.{agree}
use Rattle.model.specs.LiveWords.{is_set, is_live}
use Rattle.model.proofs.Bools.{and_intro, or_left, or_right}
use Rattle.model.proofs.LiveWords.{is_live-at}
use Rattle.live.proofs.Bits.{is_set-or}
use Rattle.live.proofs.Stores.{is_live-set-same, is_live-set-other}
use Rattle.narrowing.specs.Narrows.{Long}
use Rattle.narrowing.specs.Gathers.{Joins, Gathers}
use Rattle.narrowing.proofs.Words.{Passing}

module _ (passes : ℕ → Bool) (words : List ℕ) where
  pub joins-none : (start end : ℕ) (ws : List ℕ) → end ≤ start → Long ws → Joins passes start end words ws ws
  joins-none start end ws h long = record { long = long; keeps = λ g e. e; adds = λ g l k e p. absurd (omega arith) }

  pub joins-on : (start mid end : ℕ) (a b c : List ℕ) → Joins passes start mid words a b → Joins passes mid end words b c → Joins passes start end words a c
  joins-on start mid end a b c f s =
      record {
        long = s.long;
        keeps = λ g e. s.keeps g (f.keeps g e);
        adds = λ g l k e p. go g l k e p (dec_lt g mid);
      }
    where
      go : (g : ℕ) → start ≤ g → g < end → is_live words g ≡ true → passes g ≡ true → Dec (g < mid) → is_live c g ≡ true
      go g l k e p (yes d) = s.keeps g (f.adds g l d e p)
      go g l k e p (no d) = s.adds g (omega arith) k e p

  -- of fewer ids
  pub joins-within : {start end from to : ℕ} {a b : List ℕ} → start ≤ from → to ≤ end → Joins passes start end words a b → Joins passes from to words a b
  joins-within l h f = record { long = f.long; keeps = f.keeps; adds = λ g m k e p. f.adds g (omega arith) (omega arith) e p }

  -- by another test that says the same
  pub joins-as : (others : ℕ → Bool) (start end : ℕ) (a b : List ℕ) → ((g : ℕ) → passes g ≡ others g) → Joins passes start end words a b → Joins others start end words a b
  joins-as others start end a b same f =
      record { long = f.long; keeps = f.keeps; adds = λ g l k e p. f.adds g l k e (same g ∙ p) }

  -- some of one word
  pub joins_part : (i start end w : ℕ) (to : List ℕ) → Long to → i < 64 → 64 * i ≤ start → end ≤ 64 * (i + 1) → Passing passes i start end (get_or words i 0) w → Joins passes start end words to (set to i (bit_or (get_or to i 0) w))
  joins_part i start end w to long few low high bits =
      record {
        long = length-set to i new ∙ long;
        keeps = λ g e. keep g e (ℕ_discrete (g / 64) i);
        adds = λ g l k e p.
            let j = g % 64 in
            let h : g / 64 ≡ i = omega arith in
            let q : 64 * i + j ≡ g = omega arith in
            let m : j < 64 = omega arith in
            stored g h
            ∙ or_right (is_set (get_or to i 0) j)
            (bits j m (omega arith) (omega arith) ∙ and_intro (sym (is_live-at words i j m) ∙ ap (is_live words) q ∙ e) (ap passes q ∙ p));
      }
    where
      new : ℕ
      new = bit_or (get_or to i 0) w

      stored : (g : ℕ) → g / 64 ≡ i → is_live (set to i new) g ≡ (is_set (get_or to i 0) (g % 64) || is_set w (g % 64))
      stored g e = is_live-set-same to i new g (omega arith) e ∙ is_set-or (get_or to i 0) w (g % 64)

      keep : (g : ℕ) → is_live to g ≡ true → Dec (g / 64 ≡ i) → is_live (set to i new) g ≡ true
      keep g e (yes h) =
          let q : 64 * i + g % 64 ≡ g = omega arith in
          stored g h ∙ or_left (is_set w (g % 64)) (sym (is_live-at to i (g % 64) (omega arith)) ∙ ap (is_live to) q ∙ e)
      keep g e (no d) = is_live-set-other to i new g d ∙ e

-- by a test that every tuple of relation s passes which agrees
pub joins-gathers : (N : Network) (r x s start end : ℕ) → start ≡ first_id N s → end ≡ first_id N s + size N s → (passes : ℕ → Bool) (words before after : List ℕ) → ((z : ℕ) → z < size N s → agree N (first_id N r + x) (first_id N s + z) ≡ true → passes (first_id N s + z) ≡ true) → Joins passes start end words before after → Gathers N r x s words before after
joins-gathers N r x s start end es ee passes words before after told joins =
    record {
      keeps = λ z h l. joins.keeps (first_id N s + z) l;
      adds = λ z h a l. joins.adds (first_id N s + z) (omega arith) (omega arith) l (told z h a);
    }
