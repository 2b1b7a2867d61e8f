-- Laws of one turn of the filter: the lowest pair that waits is taken and visited, what holds all the while still holds, and
-- less is left to do. From the laws of the waiting list, and what a visit does.
use mathlib.Core.Path.{◌≡◌, sym, ◌∙◌, ap, subst}
use mathlib.Core.Bool.{Bool, true, not, ◌&&◌, cond, and-true}
use mathlib.Core.List.{List}
use mathlib.Core.Logic.{⊎_elim}
use Prim.Native.Nat.{ℕ, suc, ◌+◌, ◌*◌, ◌<◌}
use native.Mathlib.Omega.{arith}
use lib.Dec.{ltb}
use lib.ListN.{length, drop}
use borrow.Author.Tests.{lt-ltb, ne_eqb}
use Rattle.model.specs.Limits.{max_pairs}
use Rattle.model.specs.TupleSet.{count}
use Rattle.model.specs.Consistency.{needed}
use Rattle.model.specs.LiveWords.{is_live, living, next_live, cleared}
use Rattle.model.proofs.LiveWords.{next_live-first, cleared-count, living-count}
use Rattle.worklist.proofs.Waiting.{Words, take-waits}
use Rattle.sweeping.specs.Shrunk.{Shrunk}
use Rattle.sweeping.proofs.Shrunk.{shrunk-trans}
use Rattle.layout.specs.Setting.{Setting, network, listed, Sound, live_in}
use Rattle.engine.specs.Work.{Working, Rest, Visited}

-- What holds whenever a pair is taken, of the queue, the words and the numbers; words₀ and numbers₀ are those of the start.
pub record Progress (G : Setting) (words₀ numbers₀ queue words numbers : List ℕ) : Type 0 where
  pub sixteen : Words queue
  pub working : Working G words numbers
  pub shrunk : Shrunk G words₀ words
  pub beyond : drop (needed (network G) (listed G)) numbers ≡ drop (needed (network G) (listed G)) numbers₀
  pub long : length numbers ≡ length numbers₀
  pub rest : Rest G queue words numbers (λ q. ⊥)

-- what is left to do: live tuples first, then pairs that wait
pub weight : Setting → List ℕ → List ℕ → ℕ
weight G queue words = count (live_in G words) * 1025 + count (living max_pairs queue)

module _ (G : Setting) (sound : Sound G) (queue : List ℕ) (sixteen : Words queue) (pair : ℕ) (first : pair ≡ next_live queue 0 max_pairs) (below : pair < length G.members) (rest : List ℕ) (takes : rest ≡ cond (ltb pair max_pairs) (cleared pair queue) queue) where
  few : pair < max_pairs
  few = omega (arith, sound.paired.list.short)

  waits : is_live queue pair ≡ true
  waits =
      let f = next_live-first queue 0 max_pairs (omega arith) in
      ap (is_live queue) first ∙ f.passes (subst (λ (x : ℕ). x < max_pairs) first few)

  clears : rest ≡ cleared pair queue
  clears = takes ∙ ap (λ (b : Bool). cond b (cleared pair queue) queue) (lt-ltb pair max_pairs few)

  -- every other pair that does not wait now did not wait before
  pub taken-rest : (words numbers : List ℕ) → Rest G queue words numbers (λ q. ⊥) → Rest G rest words numbers (λ q. q ≡ pair)
  taken-rest words numbers all q h idle other =
      let e : is_live queue q ≡ is_live rest q =
      sym
      (ap (λ (ws : List ℕ). is_live ws q) clears
      ∙ take-waits queue sixteen pair q (omega (arith, sound.paired.list.short))
      ∙ ap (λ (b : Bool). is_live queue q && not b) (ne_eqb pair q (λ e. other (sym e)))
      ∙ and-true (is_live queue q))
      in
      all q h (e ∙ idle) (λ x. x)

  -- one pair less waits
  fewer : suc (count (living max_pairs rest)) ≡ count (living max_pairs queue)
  fewer =
      ap (λ (ws : List ℕ). suc (count (living max_pairs ws))) clears
      ∙ cleared-count max_pairs pair queue sixteen.small (omega (arith, sixteen.sixteen)) few waits

  -- the pair is visited
  module _ (words₀ numbers₀ words numbers queue' words' numbers' : List ℕ) (seen : Visited G pair rest words numbers queue' words' numbers') where
    pub weight-less : weight G queue' words' < weight G queue words
    unfolding weight
    weight-less =
        ⊎_elim
        (λ e.
        let a = ap (λ (ws : List ℕ). count (live_in G ws)) e.1 in
        let b = ap (λ (ws : List ℕ). count (living max_pairs ws)) e.0 in
        omega (arith, a, b, fewer))
        (λ l. omega (arith, l, living-count max_pairs queue'))
        seen.progress

    pub underway : Words queue' → Progress G words₀ numbers₀ queue words numbers → Progress G words₀ numbers₀ queue' words' numbers'
    underway next u =
        record {
          sixteen = next;
          working = seen.working;
          shrunk = shrunk-trans G words₀ words words' u.shrunk seen.shrunk;
          beyond = seen.beyond ∙ u.beyond;
          long = seen.long ∙ u.long;
          rest = seen.done (taken-rest words numbers u.rest);
        }
