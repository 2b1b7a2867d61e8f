-- Laws of one relation's tuples as they fall, one after the other.
-- From the laws of live words, and what is found in a table of tuples.
use mathlib.Core.Path.{◌≡◌, refl, sym, ◌∙◌, ap, subst}
use mathlib.Core.Bool.{true, false}
use mathlib.Core.List.{List}
use mathlib.Core.Logic.{◌⊎◌, ⊎_elim}
use Prim.Native.Nat.{ℕ, ◌+◌, ◌*◌, ◌≤◌, ◌<◌}
use native.Mathlib.Decide.{ℕ_discrete}
use native.Mathlib.Omega.{arith}
use lib.ListN.{length, get_or, replicate, length-replicate, get_or-replicate}
use Rattle.model.specs.Limits.{no_support}
use Rattle.model.specs.Network.{Network, size, first_id}
use Rattle.model.specs.LiveWords.{is_live, cleared}
use Rattle.model.proofs.Bools.{not-both}
use Rattle.model.proofs.LiveWords.{cleared-length}
use Rattle.live.proofs.Stores.{cleared-fewer, cleared-other}
use Rattle.layout.specs.Setting.{Lists, network_in}
use Rattle.narrowing.specs.Narrows.{Long}
use Rattle.doubles.specs.Doubles.{places, FirstAlike}
use Rattle.lean.specs.Lean.{Repeated, Thinned}

-- ---- The walk over a relation's tuples

-- The tuples before some id are done; the table holds live ones.
pub record Thinning (L : Lists) (set r : ℕ) (before now table : List ℕ) : Type 0 where
  pub thinned : Thinned L set r before now
  pub sized : length table ≡ places
  pub entries : (i : ℕ) → i < places → (get_or table i 0 ≡ no_support → ⊥) → is_live before (first_id (network_in L) r + get_or table i 0) ≡ true

module _ (L : Lists) (set r : ℕ) (before : List ℕ) where
  abbrev N : Network
  N = network_in L

  abbrev first : ℕ
  first = first_id N r

  -- nothing is done yet
  pub thinning-start : Long before → Thinning L set r before before (replicate places no_support)
  thinning-start long =
      record {
        thinned = record { long = long; inside = λ g e. e; outside = λ g o. refl; repeats = λ x l e f. absurd (not-both e f) };
        sized = length-replicate places no_support;
        entries = λ i h d. absurd (d (get_or-replicate places i no_support 0 h));
      }

  -- the next live tuple is looked up
  module _ {now table after : List ℕ} (T : Thinning L set r before now table) (x : ℕ) (x-in : x < size N r) (few : first + x < 4096) (lives : is_live now (first + x) ≡ true) (y : ℕ) (F : FirstAlike L set r x table y after) where
    entries-after : (i : ℕ) → i < places → (get_or after i 0 ≡ no_support → ⊥) → is_live before (first + get_or after i 0) ≡ true
    entries-after i h d =
        ⊎_elim
        (λ e. ap (λ (z : ℕ). is_live before (first + z)) e ∙ T.entries i h (λ q. d (e ∙ q)))
        (λ e. ap (λ (z : ℕ). is_live before (first + z)) e ∙ T.thinned.inside (first + x) lives)
        (F.entered.1 i)

    -- it stays
    pub thinning-kept : Thinning L set r before now after
    thinning-kept = record { thinned = T.thinned; sized = F.entered.0 ∙ T.sized; entries = entries-after }

    -- it has the values of an entry, and falls
    module _ (l : y < x) where
      abbrev less : List ℕ
      less = cleared (first + x) now

      room : first + x < 64 * length now
      room = omega (arith, few, T.thinned.long)

      double : Repeated L set r before x
      double =
          let at = F.entry l in
          record {
            y = y;
            before = l;
            lives = subst (λ (z : ℕ). is_live before (first + z) ≡ true) at.2 (T.entries at.0 (omega (arith, at.1, T.sized)) (λ q. omega (arith, q, at.2, l, few)));
            alike = F.alike l;
          }

      gone : (z : ℕ) → z < size N r → is_live before (first + z) ≡ true → is_live less (first + z) ≡ false → Dec (x ≡ z) → Repeated L set r before z
      gone z h e f (yes q) = subst (Repeated L set r before) q double
      gone z h e f (no d) = T.thinned.repeats z h e (sym (cleared-other now (first + x) room (first + z) (λ q. d (omega (arith, q)))) ∙ f)

      apart : (g : ℕ) → (g < first) ⊎ (first + size N r ≤ g) → first + x ≡ g → ⊥
      apart g o q = ⊎_elim (λ b. omega (arith, b, q)) (λ b. omega (arith, b, q, x-in)) o

      pub thinning-cleared : Thinning L set r before less after
      thinning-cleared =
          record {
            thinned = record {
              long = cleared-length (first + x) now ∙ T.thinned.long;
              inside = λ g e. T.thinned.inside g (cleared-fewer now (first + x) room g e);
              outside = λ g o. cleared-other now (first + x) room g (apart g o) ∙ T.thinned.outside g o;
              repeats = λ z h e f. gone z h e f (ℕ_discrete x z);
            };
            sized = F.entered.0 ∙ T.sized;
            entries = entries-after;
          }
