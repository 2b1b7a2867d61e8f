-- From no member on, the completions are the connected combinations of the network that has these masks. From the laws of completions.
use mathlib.Core.Path.{◌≡◌, refl, sym, ◌∙◌, ap, subst}
use mathlib.Core.Bool.{Bool, ◌&&◌}
use mathlib.Core.List.{List, [], ◌∷◌, map}
use Prim.Native.Nat.{ℕ, ◌-◌}
use native.Mathlib.Omega.{arith}
use borrow.Author.Tests.{lt-ltb}
use lib.ListN.{length, get_or}
use Rattle.model.specs.Network.{Network}
use Rattle.model.specs.Combination.{Combination}
use Rattle.model.specs.Enumeration.{connected_combinations}
use Rattle.model.proofs.Bools.{iff-eq}
use Rattle.model.proofs.Fault.{Faultless}
use Rattle.combination.specs.Masks.{Masks, meets, common}
use Rattle.combination.proofs.Reached.{common-sym, masks-share}
use Rattle.enumeration.specs.Reach.{Near, Mutual, Neighbours, completions}
use Rattle.enumeration.specs.Adds.{Adds}
use Rattle.enumeration.specs.Stage.{extensions}
use Rattle.enumeration.proofs.Completions.{completions-all}

map_same : (cs : List (List ℕ)) → map (λ (t : List ℕ). t) cs ≡ cs
map_same [] = refl
map_same (c ∷ cs) = ap (λ (ds : List (List ℕ)). c ∷ ds) (map_same cs)

-- each relation is its neighbours' neighbour
pub near-mutual : (ms near : List ℕ) (count : ℕ) → Near ms count near → Mutual near count
near-mutual ms near count found r s h l =
    found r s h
    ∙ ap (λ (b : Bool). b && common ms r s) (lt-ltb s count l)
    ∙ iff-eq (common ms r s) (common ms s r) (common-sym ms [] r s) (common-sym ms [] s r)
    ∙ sym (found s r l ∙ ap (λ (b : Bool). b && common ms s r) (lt-ltb r count h))

module _ (N : Network) (count : ℕ) (all : count ≡ length N.relations) where
  pub neighbours-of : (ms near : List ℕ) → Masks N ms → Near ms count near → Neighbours N near
  neighbours-of ms near masks found r s h l =
      found r s (omega arith)
      ∙ ap (λ (b : Bool). b && meets ms (get_or ms r 0) s) (lt-ltb s count (omega arith))
      ∙ masks-share N ms masks r s

  extensions-all : (near sets members : List ℕ) (m : ℕ) → Faultless N → Neighbours N near → extensions near sets members m 0 0 count ≡ connected_combinations N m
  extensions-all near sets members m ok neighbours =
      let e : m - 0 ≡ m = omega arith in
      map_same (completions near [] (m - 0) 0 count)
      ∙ ap (λ (k : ℕ). completions near [] k 0 count) e
      ∙ ap (completions near [] m 0) all
      ∙ completions-all N near m ok neighbours

  pub whole-adds : (near sets members : List ℕ) (m : ℕ) → Faultless N → Neighbours N near → {n : ℕ} {list after : List ℕ} → Adds m (extensions near sets members m 0 0 count) 0 list n after → Adds m (connected_combinations N m) 0 list n after
  whole-adds near sets members m ok neighbours {n} {list} {after} A =
      subst (λ (cs : List Combination). Adds m cs 0 list n after) (extensions-all near sets members m ok neighbours) A
