-- Laws of a visit's walk from live tuple to live tuple of the pair's member: where it begins, how it goes on, and where it ends.
-- From the laws of a visit under way, of a pair's row, and of the next live id.
use mathlib.Core.Path.{◌≡◌, ◌∙◌, ap, subst}
use mathlib.Core.Bool.{Bool, true, false}
use mathlib.Core.List.{List}
use Prim.Native.Nat.{ℕ, suc, ◌+◌, ◌-◌, ◌≤◌, ◌<◌}
use native.Mathlib.Omega.{arith}
use Rattle.model.specs.Limits.{max_support_numbers}
use Rattle.model.specs.TupleSet.{has}
use Rattle.model.specs.Network.{total}
use Rattle.model.specs.LiveWords.{is_live, next_live}
use Rattle.model.proofs.LiveWords.{living-has, next_live-first}
use Rattle.layout.specs.Setting.{Setting, network, live_in}
use Rattle.layout.specs.Pairs.{tuple_id, place_of}
use Rattle.engine.specs.Work.{Working, Visited}
use Rattle.layout.proofs.Pairs.{place-within}
use Rattle.layout.proofs.Pairs.{tuple-below}
use Rattle.layout.proofs.Rows.{Row, row-total, row-index, row-id}
use Rattle.engine.proofs.Steps.{Small}
use Rattle.engine.proofs.Visiting.{VisitOf, going_start, going-skip, going_end}

-- The walk has come to id g: it is live, or the end.
pub record WalkAt (G : Setting) (p first end : ℕ) (queue words numbers queue' words' numbers' : List ℕ) (shrunk : Bool) (g : ℕ) : Type 0 where
  pub going : VisitOf G p queue words numbers queue' words' numbers' shrunk (g - first)
  pub from_first : first ≤ g
  pub to_end : g ≤ end
  pub lives : g < end → is_live words' g ≡ true

module _ {G : Setting} {p first end : ℕ} (row : Row G p first end) where
  -- ids that are not live are passed over
  come-next : {queue words numbers queue' words' numbers' : List ℕ} {shrunk : Bool} (i : ℕ) → first ≤ i → i ≤ end → VisitOf G p queue words numbers queue' words' numbers' shrunk (i - first) → WalkAt G p first end queue words numbers queue' words' numbers' shrunk (next_live words' i end)
  come-next {words' = words'} i l h I =
      let f = next_live-first words' i end h in
      let t = row-total row in
      record {
        going = going-skip row.sound row.pair I (next_live words' i end - first)
            (λ x a b.
            let e = row.is-first in
            living-has (total (network G)) words' (tuple_id G p x) (omega (arith, f.to_end))
            ∙ f.none_before (tuple_id G p x) (omega arith) (omega arith));
        from_first = omega (arith, f.from-i);
        to_end = f.to_end;
        lives = f.passes;
      }

  pub come-first : {queue words numbers : List ℕ} → Small words → Working G words numbers → WalkAt G p first end queue words numbers queue words numbers false (next_live words first end)
  come-first {queue} {words} {numbers} small work =
      let e : 0 ≡ first - first = omega arith in
      come-next first (omega arith) (omega (arith, row.is-end))
      (subst (VisitOf G p queue words numbers queue words numbers false) e (going_start row.sound row.pair small work))

  module _ {queue words numbers queue' words' numbers' : List ℕ} {shrunk : Bool} {g : ℕ} (C : WalkAt G p first end queue words numbers queue' words' numbers' shrunk g) where
    -- past the end, the pair is visited
    pub come-end : end ≤ g → Visited G p queue words numbers queue' words' numbers'
    come-end h =
        going_end row.sound row.pair C.going (omega (arith, row.is-end))

    module _ (inside : g < end) where
      pub index-lives : has (live_in G words') (tuple_id G p (g - first)) ≡ true
      index-lives =
          living-has (total (network G)) words' (tuple_id G p (g - first)) (tuple-below row.sound p (g - first) row.pair (row-index row C.from_first inside))
          ∙ ap (is_live words') (row-id row C.from_first)
          ∙ C.lives inside

      -- once its tuple is done, the walk goes on
      pub come-more : {queue'' words'' numbers'' : List ℕ} {shrunk' : Bool} → VisitOf G p queue words numbers queue'' words'' numbers'' shrunk' (suc (g - first)) → WalkAt G p first end queue words numbers queue'' words'' numbers'' shrunk' (next_live words'' (g + 1) end)
      come-more {queue''} {words''} {numbers''} {shrunk'} I =
          let e : suc (g - first) ≡ g + 1 - first = omega (arith, C.from_first) in
          come-next (g + 1) (omega (arith, C.from_first)) (omega arith)
          (subst (VisitOf G p queue words numbers queue'' words'' numbers'' shrunk') e I)

      -- where its numbers begin
      pub place_short : place_of G p (g - first) + G.m ≤ max_support_numbers
      place_short = omega (arith, place-within row.sound p (g - first) row.pair (row-index row C.from_first inside), C.going.working.space.short)
