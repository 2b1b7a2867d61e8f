-- Laws of words that change only in tuples removed, and of which filtering leaves the same.
-- From the model's laws of live words, and of what the removal of a tuple leaves.
use mathlib.Core.Path.{◌≡◌, refl, sym, ◌∙◌, ap, subst}
use mathlib.Core.List.{List, Memᴰ}
use Prim.Native.Nat.{ℕ, ◌*◌, ◌^◌, ◌≤◌, ◌<◌}
use native.Mathlib.Omega.{arith}
use lib.Dec.{eqb}
use lib.ListN.{length, get_or}
use Rattle.model.specs.Limits.{word_bits}
use Rattle.model.specs.TupleSet.{TupleSet, without}
use Rattle.model.specs.Network.{total, relation_of}
use Rattle.model.specs.Combination.{Combination}
use Rattle.model.specs.Consistency.{filtered}
use Rattle.model.specs.LiveWords.{cleared, written}
use Rattle.model.proofs.Support.{Supported}
use Rattle.model.proofs.LiveWords.{written-length, written_below, written-living, written-written, cleared-written, living-cleared}
use Rattle.model.proofs.Work.{filtered-remove}
use Rattle.live.specs.Words.{Small, WordArray}
use Rattle.layout.specs.Setting.{Setting, network, listed, live_in}
use Rattle.sweeping.specs.Shrunk.{Shrunk}

module _ (G : Setting) where
  abbrev n : ℕ
  n = total (network G)

  pub shrunk-refl : (words : List ℕ) → Small words → Shrunk G words words
  shrunk-refl words small = record { bits = sym (written-living n words small); same = refl }

  -- what is written to the fewer is written to all
  pub shrunk-written : {words after : List ℕ} (S : TupleSet) → Shrunk G words after → written n S after ≡ written n S words
  shrunk-written {words} {after} S s = ap (written n S) s.bits ∙ written-written n S (live_in G after) words

  pub shrunk-trans : (a b c : List ℕ) → Shrunk G a b → Shrunk G b c → Shrunk G a c
  shrunk-trans a b c s t = record { bits = t.bits ∙ shrunk-written (live_in G c) s; same = t.same ∙ s.same }

  -- an array of words that shrinks is one still
  pub shrunk-array : (words after : List ℕ) → Shrunk G words after → WordArray words → WordArray after
  shrunk-array words after s w =
      let long : length after ≡ length words = ap length s.bits ∙ written-length n (live_in G after) words in
      record {
        long = long ∙ w.long;
        small = λ i h. subst (λ (ws : List ℕ). get_or ws i 0 < 2 ^ 64) (sym s.bits) (written_below n (live_in G after) words i (omega (arith, long)));
      }

  -- a tuple without a support in a combination with its relation is removed
  pub shrunk-removed : (words : List ℕ) (g : ℕ) (c : Combination) → Small words → n ≤ word_bits * length words → g < n → Memᴰ c (listed G) → Memᴰ (relation_of (network G) g) c → (Supported (network G) (live_in G words) c g → ⊥) → Shrunk G words (cleared g words)
  shrunk-removed words g c small enough below m k none =
      let before = live_in G words in
      let left : live_in G (cleared g words) ≡ without (eqb g) before = living-cleared n g words small enough in
      record {
        bits = ap (cleared g) (sym (written-living n words small))
            ∙ cleared-written n before g words below
            ∙ ap (λ (X : TupleSet). written n X words) (sym left);
        same = ap (filtered (network G) (listed G)) left ∙ filtered-remove (network G) (listed G) before g c m k none;
      }
