-- Laws of the table of tuples sought in a visit: what is known of an entry.
-- From the laws of lists and of partners.
use mathlib.Core.Path.{◌≡◌, sym, ◌∙◌, subst}
use mathlib.Core.Bool.{false}
use mathlib.Core.Logic.{⊎_elim}
use mathlib.Core.List.{List}
use Prim.Native.Nat.{ℕ, suc, ◌%◌, ◌≤◌, ◌<◌}
use native.Mathlib.Omega.{arith}
use lib.ListN.{get_or, replicate, length-replicate, get_or-replicate}
use Rattle.model.specs.Limits.{no_support}
use Rattle.model.specs.TupleSet.{has, Inside}
use Rattle.model.specs.Support.{Partners}
use Rattle.model.proofs.Twins.{partners-more}
use Rattle.layout.specs.Setting.{Setting, network, live_in}
use Rattle.layout.specs.Pairs.{combination_of, tuple_id}
use Rattle.doubles.specs.Doubles.{places, Entered}
use Rattle.twins.specs.Twins.{WasSought, Noted}

-- ---- What is known of the entries

module _ {G : Setting} {p : ℕ} where
  -- none is there at the start
  pub noted-none : (words : List ℕ) (k : ℕ) → Noted G words p k (replicate places no_support)
  noted-none words k =
      record { long = length-replicate places no_support; entries = λ i h d. absurd (d (get_or-replicate places i no_support 0 h)) }

  -- what was sought before a tuple was sought before a later one
  pub noted_more : {words sought : List ℕ} {k k' : ℕ} → k ≤ k' → Noted G words p k sought → Noted G words p k' sought
  noted_more l n =
      record { long = n.long; entries = λ i h d. let w = n.entries i h d in record { before = omega (arith, w.before); fell = w.fell } }

  module _ {words words' sought sought' : List ℕ} {x : ℕ} (noted : Noted G words p x sought) (entered : Entered x sought sought') where
    -- fewer tuples live, of those before x the same; and x has no partners if it is dead
    pub noted-next : Inside (live_in G words') (live_in G words) → ((y : ℕ) → y < x → has (live_in G words') (tuple_id G p y) ≡ false → has (live_in G words) (tuple_id G p y) ≡ false) → (has (live_in G words') (tuple_id G p x) ≡ false → Partners (network G) (live_in G words) (combination_of G p) (p % G.m) (tuple_id G p x) → ⊥) → Noted G words' p (suc x) sought'
    noted-next fewer same own =
        record {
          long = entered.0 ∙ noted.long;
          entries = λ i h d.
              ⊎_elim
              (λ e. subst (WasSought G words' p (suc x)) (sym e) (old (get_or sought i 0) (noted.entries i h (λ q. d (e ∙ q)))))
              (λ e. subst (WasSought G words' p (suc x)) (sym e) (record { before = omega arith; fell = λ f P. own f (partners-more fewer P) }))
              (entered.1 i);
        }
      where
        old : (y : ℕ) → WasSought G words p x y → WasSought G words' p (suc x) y
        old y w = record { before = omega (arith, w.before); fell = λ f P. w.fell (same y w.before f) (partners-more fewer P) }
