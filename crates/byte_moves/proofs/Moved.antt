-- A move on decoded lists is that on the bytes' whole lists.
-- From the law that lists longer than any accepted one are refused alike, the laws of records taken apart, and of moves.
use mathlib.Core.Path.{◌≡◌, refl, sym, ◌∙◌, ap, ap₂}
use mathlib.Core.Bool.{cond}
use mathlib.Core.Option.{Option, none, some, none-ne-some}
use mathlib.Core.List.{List, [], ◌∷◌, ◌++◌, map}
use Prim.Native.Nat.{ℕ, ◌*◌, ◌/◌, ◌≤◌, ◌<◌}
use native.Mathlib.Omega.{arith}
use lib.Dec.{ltb}
use lib.ListN.{length, take, drop, length-map}
use lib.Seq.{take_all, take_at}
use borrow.Author.Tests.{lt-ltb, le-ltb}
use Rattle.model.specs.declared.Moved.{Moved}
use Rattle.model.specs.declared.Moved.TheVariants.{Done, Refused}
use Rattle.model.specs.Network.{Network}
use Rattle.model.specs.Fault.{Fault, network_faults, first_fault}
use Rattle.model.specs.Moves.{Move, moved, too_wide_faults, move_faults, MoveReply, moved_numbers, move_to, move_reply, KeepsMove}
use Rattle.model.specs.Edges.{max_values}
use Rattle.model.proofs.Fault.{faultless, few-values, first_fault-append-none, first_fault-append-some, first_fault-front, first_fault-back}
use Rattle.model.proofs.Edges.{Alike, same, faulty, cut_network-alike}
use Rattle.layout.specs.declared.Shape.{Shape}
use Rattle.layout.specs.Shape.{shape_of, network_of}
use Rattle.layout.proofs.Records.{shape_of-alike}
use Rattle.wire.specs.Entries.{entries, entries16, bytes}
use Rattle.encoding.specs.Records.{records}
use Rattle.encoding.specs.Packed.{packed_pair}
use Rattle.byte_moves.specs.Moves.{taken, given, move_network, moved_bytes, whole_moved}

-- ---- Faults of networks that are refused alike

module _ (d : Move) where
  abbrev behind : Network → ℕ → List Fault
  behind N room = too_wide_faults d N.values ++ ((24, ltb room (length N.values)) ∷ [])

  fault-alike : {M N : Network} → Alike network_faults M N → (room : ℕ) → first_fault (move_faults d M room) ≡ first_fault (move_faults d N room)
  fault-alike (same e) room = ap (λ (K : Network). first_fault (move_faults d K room)) e
  fault-alike {M} {N} (faulty f e g) room =
      first_fault-append-some (network_faults M) (behind M room) f e ∙ sym (first_fault-append-some (network_faults N) (behind N room) f g)

  few : (N : Network) → first_fault (network_faults N) ≡ none → length N.values ≤ max_values
  few N e = let f = faultless N e in omega (arith, f.values, few-values N.relations f.widths, f.tuples)

  -- the first fault, by that of each part of the table
  picked : Option ℕ → Option ℕ → Option ℕ → Option ℕ
  picked (some f) p q = some f
  picked none (some f) q = some f
  picked none none q = q

  abbrev short : Network → ℕ → Option ℕ
  short N room = cond (ltb room (length N.values)) (some 24) none

  fault-by : (N : Network) (room : ℕ) (o p : Option ℕ) → first_fault (network_faults N) ≡ o → first_fault (too_wide_faults d N.values) ≡ p → first_fault (move_faults d N room) ≡ picked o p (short N room)
  unfolding picked
  fault-by N room (some f) p e g = first_fault-append-some (network_faults N) (behind N room) f e
  fault-by N room none (some f) e g =
      first_fault-append-none (network_faults N) (behind N room) e ∙ first_fault-append-some (too_wide_faults d N.values) ((24, ltb room (length N.values)) ∷ []) f g
  fault-by N room none none e g =
      first_fault-append-none (network_faults N) (behind N room) e ∙ first_fault-append-none (too_wide_faults d N.values) ((24, ltb room (length N.values)) ∷ []) g

  -- with room for every network 24 is not given, and what is given is given with any room
  fault-most : (N : Network) (room f : ℕ) → first_fault (move_faults d N max_values) ≡ some f → first_fault (move_faults d N room) ≡ some f
  unfolding picked
  fault-most N room f h = go (first_fault (network_faults N)) (first_fault (too_wide_faults d N.values)) refl refl
    where
      go : (o p : Option ℕ) → first_fault (network_faults N) ≡ o → first_fault (too_wide_faults d N.values) ≡ p → first_fault (move_faults d N room) ≡ some f
      go (some g) p e t = fault-by N room (some g) p e t ∙ sym (fault-by N max_values (some g) p e t) ∙ h
      go none (some g) e t = fault-by N room none (some g) e t ∙ sym (fault-by N max_values none (some g) e t) ∙ h
      go none none e t =
          let enough : short N max_values ≡ none = rw (le-ltb max_values (length N.values) (few N e)) refl in
          absurd (none-ne-some f (sym enough ∙ sym (fault-by N max_values none none e t) ∙ h))

  -- without fault there, the room decides
  fault-room : (N : Network) (room : ℕ) → first_fault (move_faults d N max_values) ≡ none → first_fault (move_faults d N room) ≡ short N room
  unfolding picked
  fault-room N room h =
      let e = first_fault-front (network_faults N) (behind N max_values) h in
      let t = first_fault-front (too_wide_faults d N.values) ((24, ltb max_values (length N.values)) ∷ []) (first_fault-back (network_faults N) (behind N max_values) h) in
      fault-by N room none none e t

packed-done : (a : Moved) → packed_pair (moved_numbers a) ≡ 0 → moved_numbers a ≡ (0, 0)
packed-done Done e = refl
packed-done (Refused f) e = absurd (omega arith)

-- ---- A move of decoded lists

module _ (d : Move) (sheets questions codes target : List ℕ) (S : Shape) (Vs Ws zs after : List ℕ) (a : Moved) (es : S ≡ shape_of (records sheets)) (ev : Vs ≡ take 513 (entries 2 (length questions / 2) questions)) (ew : Ws ≡ take 32769 (entries (taken d) (length codes / taken d) codes)) (room : length zs ≡ max_values) (kept : KeepsMove d (network_of S Vs Ws) zs a after) where
  abbrev N : Network
  N = move_network d sheets questions codes

  abbrev r : ℕ
  r = length target / given d

  -- the values moved
  abbrev us : List ℕ
  us = map (moved d) Ws

  fault-same : first_fault (move_faults d (network_of S Vs Ws) (length zs)) ≡ first_fault (move_faults d N max_values)
  unfolding entries16
  fault-same =
      (λ i. first_fault (move_faults d (network_of (es i) (ev i) (ew i)) (room i)))
      ∙ fault-alike d (shape_of-alike (records sheets) (take 513 N.variables) (take 32769 N.values)) max_values
      ∙ sym (fault-alike d (cut_network-alike N) max_values)

  reply-is : (o : Option ℕ) → first_fault (move_faults d N max_values) ≡ o → ◌≡◌ {A = MoveReply} (record { answer = moved_numbers a; target = after }) (move_to o us zs)
  unfolding move_reply
  reply-is o e = kept ∙ ap (λ (p : Option ℕ). move_to p us zs) (fault-same ∙ e)

  -- refused: nothing is written
  pub refused-bytes : (n : ℕ) → n ≡ packed_pair (moved_numbers a) → (n ≡ 0 → ⊥) → record { answer = n; target = target } ≡ whole_moved d sheets questions codes target
  unfolding whole_moved
  refused-bytes n is d0 = go (first_fault (move_faults d N max_values)) refl
    where
      go : (o : Option ℕ) → first_fault (move_faults d N max_values) ≡ o → record { answer = n; target = target } ≡ moved_bytes d (first_fault (move_faults d N r)) (map (moved d) N.values) target
      go none e = absurd (d0 (is ∙ ap (λ (p : MoveReply). packed_pair p.answer) (reply-is none e)))
      go (some f) e =
          ap (λ (k : ℕ). record { answer = k; target = target }) (is ∙ ap (λ (p : MoveReply). packed_pair p.answer) (reply-is (some f) e))
          ∙ ap (λ (p : Option ℕ). moved_bytes d p (map (moved d) N.values) target) (sym (fault-most d N r f e))

  -- ---- Done in the array

  module _ (n : ℕ) (is : n ≡ packed_pair (moved_numbers a)) (done : n ≡ 0) where
    none_of : (o : Option ℕ) → first_fault (move_faults d N max_values) ≡ o → first_fault (move_faults d N max_values) ≡ none
    none_of none e = e
    none_of (some f) e =
        let two : ◌≡◌ {A = ℕ} 2 0 = ap (λ (k : ℕ × ℕ). k.0) (sym (ap (λ (p : MoveReply). p.answer) (reply-is (some f) e)) ∙ packed-done a (sym is ∙ done)) in
        absurd (omega arith)

    no-fault : first_fault (move_faults d N max_values) ≡ none
    no-fault = none_of (first_fault (move_faults d N max_values)) refl

    -- there is a place for every value
    few-moved : length N.values ≤ max_values
    few-moved = few d N (first_fault-front (network_faults N) (behind d N max_values) no-fault)

    -- no value was cut off
    all-values : Ws ≡ N.values
    all-values = ew ∙ take_all 32769 N.values (omega (arith, few-moved))

    pub done-few : length Ws ≤ max_values
    done-few = omega (arith, few-moved, ap length all-values)

    -- the target is too short
    pub short-bytes : (k : ℕ) → k ≡ packed_pair (2, 24) → r < length Ws → record { answer = k; target = target } ≡ whole_moved d sheets questions codes target
    unfolding whole_moved
    short-bytes k e h =
        let short : first_fault (move_faults d N r) ≡ some 24 = fault-room d N r no-fault ∙ rw (lt-ltb r (length N.values) (omega (arith, h, ap length all-values))) refl in
        ap (λ (i : ℕ). record { answer = i; target = target }) e ∙ ap (λ (p : Option ℕ). moved_bytes d p (map (moved d) N.values) target) (sym short)

    module _ (enough : length Ws ≤ r) (k : ℕ) (count : k ≡ length Ws) where
      -- the values moved stand in front of the array
      done-front : take k after ≡ us
      done-front =
          ap (λ (p : MoveReply). take k p.target) (reply-is none no-fault)
          ∙ take_at us (drop (length us) zs) k (length-map Ws (moved d) ∙ sym count)

      pub done-bytes : (last : List ℕ) → last ≡ bytes (given d) (take k after) ++ drop (given d * length (take k after)) target → record { answer = n; target = last } ≡ whole_moved d sheets questions codes target
      unfolding whole_moved
      done-bytes last e =
          let free : first_fault (move_faults d N r) ≡ none = fault-room d N r no-fault ∙ rw (le-ltb r (length N.values) (omega (arith, enough, ap length all-values))) refl in
          ap₂ (λ (i : ℕ) (xs : List ℕ). record { answer = i; target = xs }) done e
          ∙ ap (λ (xs : List ℕ). moved_bytes d none xs target) (done-front ∙ ap (map (moved d)) all-values)
          ∙ ap (λ (p : Option ℕ). moved_bytes d p (map (moved d) N.values) target) (sym free)
