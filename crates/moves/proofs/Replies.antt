-- What a move replies, fault after fault.
-- From the order of the faults of a move.
use mathlib.Core.Path.{◌≡◌, refl, sym, ◌∙◌, ap}
use mathlib.Core.Option.{Option, none, some}
use mathlib.Core.List.{List, [], ◌∷◌, ◌++◌, map}
use Prim.Native.Nat.{ℕ, ◌≤◌, ◌<◌}
use lib.Dec.{ltb}
use lib.ListN.{length, drop, replicate, length-map, length-replicate}
use borrow.Author.Tests.{lt-ltb, le-ltb}
use Rattle.model.specs.Network.{Network}
use Rattle.model.specs.Fault.{Fault, network_faults, first_fault, refusal}
use Rattle.model.specs.Moves.{Move, moved, too_wide_faults, move_faults, move_to, move_reply, with_values}
use Rattle.model.proofs.Fault.{refusal-some, refusal-none, first_fault-append-none, first_fault-append-some}
use Rattle.model.proofs.Meaning.{network_faults-values}

-- the faults 2 to 6 of N, from those of as many values
pub fault-of : (N : Network) (f : ℕ) → f ≡ refusal (first_fault (network_faults (with_values N (replicate (length N.values) 0)))) → f ≡ refusal (first_fault (network_faults N))
fault-of N f e =
    let zs : List ℕ = replicate (length N.values) 0 in
    e ∙ ap (λ (fs : List Fault). refusal (first_fault fs)) (network_faults-values N zs N.values (length-replicate (length N.values) 0))

module _ (d : Move) (N : Network) (target : List ℕ) where
  abbrev values : List ℕ
  values = map (moved d) N.values

  abbrev short : Fault
  short = (24, ltb (length target) (length N.values))

  reply-by : (o : Option ℕ) → first_fault (move_faults d N (length target)) ≡ o → move_to o values target ≡ move_reply d N target
  unfolding move_reply
  reply-by o e = ap (λ (p : Option ℕ). move_to p values target) (sym e)

  -- 2 to 6
  pub reply-network : (f : ℕ) → f ≡ refusal (first_fault (network_faults N)) → (f ≡ 0 → ⊥) → record { answer = (2, f); target = target } ≡ move_reply d N target
  reply-network f e n =
      reply-by (some f) (first_fault-append-some (network_faults N) (too_wide_faults d N.values ++ (short ∷ [])) f (refusal-some (first_fault (network_faults N)) f (sym e) n))

  module _ (sound : 0 ≡ refusal (first_fault (network_faults N))) where
    past : first_fault (move_faults d N (length target)) ≡ first_fault (too_wide_faults d N.values ++ (short ∷ []))
    past = first_fault-append-none (network_faults N) (too_wide_faults d N.values ++ (short ∷ [])) (refusal-none (network_faults N) refl (sym sound))

    -- 23
    pub reply-wide : first_fault (too_wide_faults d N.values) ≡ some 23 → record { answer = (2, 23); target = target } ≡ move_reply d N target
    reply-wide e = reply-by (some 23) (past ∙ first_fault-append-some (too_wide_faults d N.values) (short ∷ []) 23 e)

    module _ (fit : first_fault (too_wide_faults d N.values) ≡ none) where
      -- 24
      pub reply-short : length target < length N.values → record { answer = (2, 24); target = target } ≡ move_reply d N target
      reply-short h =
          reply-by (some 24)
          (past ∙ first_fault-append-none (too_wide_faults d N.values) (short ∷ []) fit ∙ rw (lt-ltb (length target) (length N.values) h) refl)

      pub reply-done : length N.values ≤ length target → record { answer = (0, 0); target = values ++ drop (length N.values) target } ≡ move_reply d N target
      reply-done h =
          ap (λ (n : ℕ). record { answer = (0, 0); target = values ++ drop n target }) (sym (length-map N.values (moved d)))
          ∙ reply-by none
          (past ∙ first_fault-append-none (too_wide_faults d N.values) (short ∷ []) fit ∙ rw (le-ltb (length target) (length N.values) h) refl)
