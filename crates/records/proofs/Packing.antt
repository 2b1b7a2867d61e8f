-- A packed answer gives back the reply, and the counts lent from the parts come back in their array.
-- From the law that the numbers of a reply are read back from their bits.
use mathlib.Core.Path.{◌≡◌, sym, ap, ◌∙◌}
use mathlib.Core.List.{List, ◌++◌}
use Prim.Native.Nat.{ℕ, ◌≤◌}
use native.Mathlib.Omega.{arith}
use lib.ListN.{length, take, drop, length-append}
use lib.Seq.{length-take-le, take_at}
use Rattle.model.specs.declared.Answer.{Answer}
use Rattle.model.specs.Limits.{max_relations}
use Rattle.model.specs.Request.{Change, Instance, Request}
use Rattle.model.specs.Reply.{Numbers, Reply, answer_numbers, request, reply, replied, Keeps}
use Rattle.layout.specs.Shape.{padded}
use Rattle.encoding.specs.Packed.{packed, unpacked, replied_in}
use Rattle.encoding.proofs.Packed.{reply-unpacked}
use Rattle.records.specs.declared.Parts.{Parts}
use Rattle.records.specs.declared.Done.{Done}
use Rattle.records.specs.Records.{lesser}
use Rattle.records.specs.Packed.{counts_of, written_for, done_with}
use Rattle.records.proofs.Padded.{padded-take}

replied_in-packed : (q : Request) (a : Answer) (n : ℕ) (words supports counts : List ℕ) → Keeps q (replied a words supports counts) → n ≡ packed (answer_numbers a) → Keeps q (replied_in n words supports counts)
replied_in-packed q a n words supports counts e p =
    let numbers : unpacked n ≡ (reply q).answer = ap unpacked p ∙ ap (λ (r : Reply). unpacked (packed r.answer)) e ∙ reply-unpacked q in
    λ i. record { answer = numbers i; words = (e i).words; supports = (e i).supports; counts = (e i).counts }

-- ---- The counts of the first relations, lent from the parts

module _ (P : Parts) (n : ℕ) (size : n ≡ lesser P.shape.count) (room : length P.live ≡ max_relations) where
  -- they are lent
  pub lent-within : n ≤ length P.live
  lent-within = omega (arith, size, room)

  pub lent-count : n ≡ length (take n P.live)
  lent-count = sym (length-take-le n P.live lent-within)

  -- what comes back for them, and the packed answer
  module _ (I : Instance) (words supports words' supports' counts : List ℕ) (change : Change) (a : Answer) (d : Done)
      (kept : Keeps (request I words supports (take n P.live) change) (replied a words' supports' counts))
      (back : length counts ≡ length (take n P.live)) (made : d ≡ done_with a n (counts ++ drop n P.live)) where
    -- the counts that were lent, and those in the array at the end
    lent-are : take n P.live ≡ counts_of P P.live
    lent-are = sym (padded-take n P.live lent-within) ∙ ap (λ (k : ℕ). padded k P.live) size

    left-are : counts ≡ counts_of P d.live
    left-are =
        let whole : List ℕ = counts ++ drop n P.live in
        let count : length counts ≡ n = back ∙ sym lent-count in
        let enough : n ≤ length whole = omega (arith, count, length-append counts (drop n P.live)) in
        sym (take_at counts (drop n P.live) n count)
        ∙ sym (padded-take n whole enough)
        ∙ ap (λ (k : ℕ). padded k whole) size
        ∙ ap (counts_of P) (sym (ap (λ (e : Done). e.live) made))

    abbrev q : Request
    q = request I words supports (counts_of P P.live) change

    kept' : Keeps q (replied a words' supports' (counts_of P d.live))
    kept' =
        ap (replied a words' supports') (sym left-are)
        ∙ kept
        ∙ ap (λ (counts' : List ℕ). reply (request I words supports counts' change)) lent-are

    pub done-reply : Keeps q (replied_in d.answer words' supports' (counts_of P d.live)) × (d.written ≡ written_for (unpacked d.answer) (lesser P.shape.count))
    done-reply =
        let answer : d.answer ≡ packed (answer_numbers a) = ap (λ (e : Done). e.answer) made in
        let all = replied_in-packed q a d.answer words' supports' (counts_of P d.live) kept' answer in
        let numbers : unpacked d.answer ≡ answer_numbers a = ap (λ (r : Reply). r.answer) (all ∙ sym kept') in
        (all, ap (λ (e : Done). e.written) made ∙ ap (λ (k : Numbers). written_for k n) (sym numbers) ∙ ap (written_for (unpacked d.answer)) size)
