-- Laws of the filter's start: with 65,535 in every number of the support list the work may begin, and every pair waits.
-- From the definitions of the filter's work, and the model's laws of where pairs' numbers begin.
use mathlib.Core.Path.{◌≡◌, sym, ◌∙◌, ap}
use mathlib.Core.Bool.{false≢true}
use mathlib.Core.List.{List, ◌++◌}
use mathlib.Core.Logic.{inl}
use Prim.Native.Nat.{ℕ, ◌+◌, ◌-◌, ◌≤◌, ◌<◌}
use native.Mathlib.Omega.{arith}
use lib.Dec.{ltb}
use lib.ListN.{length, take, drop, replicate, length-append, length-drop, length-replicate}
use lib.Seq.{take-append-le, drop-append-le, drop_at}
use borrow.Author.Tests.{lt-ltb}
use Rattle.model.specs.Limits.{max_pairs, no_support}
use Rattle.model.specs.Consistency.{needed}
use Rattle.model.specs.LiveWords.{is_live}
use Rattle.worklist.proofs.Stretch.{take-replicate, drop-replicate}
use Rattle.layout.specs.Setting.{Setting, network, listed, Sound}
use Rattle.layout.specs.Pairs.{size_of, place_of, held}
use Rattle.engine.specs.Work.{Working, Rest, Room}
use Rattle.layout.proofs.Pairs.{place-within}

-- a stretch of a list that begins with one element n times
part-replicate : (n at m x : ℕ) (rest : List ℕ) → at + m ≤ n → take m (drop at (replicate n x ++ rest)) ≡ replicate m x
part-replicate n at m x rest h =
    let l : length (replicate n x) ≡ n = length-replicate n x in
    let k : length (drop at (replicate n x)) ≡ n - at = length-drop at (replicate n x) ∙ ap (λ (i : ℕ). i - at) l in
    ap (take m) (drop-append-le at (replicate n x) rest (omega arith))
    ∙ take-append-le m (drop at (replicate n x)) rest (omega arith)
    ∙ ap (take m) (drop-replicate at n x)
    ∙ take-replicate m (n - at) x (omega arith)

module _ (G : Setting) (sound : Sound G) where
  module _ (words numbers filled : List ℕ) (space : Room G words numbers) (fills : filled ≡ replicate (needed (network G) (listed G)) no_support ++ drop (needed (network G) (listed G)) numbers) where
    abbrev n : ℕ
    n = needed (network G) (listed G)

    pub filled-long : length filled ≡ length numbers
    filled-long =
        ap length fills
        ∙ length-append (replicate n no_support) (drop n numbers)
        ∙ (let l = length-replicate n no_support in let d = length-drop n numbers in omega arith)

    pub filled-beyond : drop n filled ≡ drop n numbers
    filled-beyond = ap (drop n) fills ∙ drop_at (replicate n no_support) (drop n numbers) n (length-replicate n no_support)

    filled-held : (p x : ℕ) → p < length G.members → x < size_of G p → held G filled p x ≡ replicate G.m no_support
    filled-held p x h k =
        ap (λ (xs : List ℕ). held G xs p x) fills
        ∙ part-replicate n (place_of G p x) G.m no_support (drop n numbers) (place-within sound p x h k)

    pub filled-working : Working G words filled
    filled-working =
        record { space = record { enough = space.enough; short = space.short; room = omega (arith, filled-long, space.room) }; bounds = λ p x h k _. inl (filled-held p x h k) }

  -- where all pairs wait, nothing is asked of those that do not
  pub full-rest : (queue words numbers : List ℕ) (pairs : ℕ) → pairs ≡ length G.members → ((q : ℕ) → q < max_pairs → is_live queue q ≡ ltb q pairs) → Rest G queue words numbers (λ q. ⊥)
  full-rest queue words numbers pairs e full q h idle _ =
      absurd (false≢true (sym idle ∙ full q (omega (arith, sound.paired.list.short)) ∙ lt-ltb q pairs (omega arith)))
