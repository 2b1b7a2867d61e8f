-- What the listing of combinations answers and leaves, to print it: that the list holds what is counted, and the reply's text.
-- From the laws of the reply, and of texts.
use mathlib.Core.Path.{◌≡◌, sym, ap, ap₂, ◌∙◌}
use mathlib.Core.Bool.{false, not}
use mathlib.Core.List.Memᴰ
use mathlib.Core.List.{List, [], ◌∷◌, ◌++◌, map, append-nil}
use Prim.Native.Nat.{ℕ, ◌*◌, ◌≤◌, ◌<◌}
use native.Mathlib.Nat.{zero-mul, zero-div}
use native.Mathlib.Omega.{arith}
use borrow.Author.Tests.{leb-true, not-false}
use lib.Dec.{leb}
use lib.ListN.{length, take, drop}
use lib.Seq.{length-take-le}
use Rattle.model.specs.declared.Enumeration.{Enumeration}
use Rattle.model.specs.declared.Enumeration.TheVariants.{Listed, Refused}
use Rattle.model.specs.Limits.{min_members, max_members}
use Rattle.model.specs.Lists.{from}
use Rattle.model.specs.Network.{Network}
use Rattle.model.specs.Combination.{Combination, combinations}
use Rattle.model.specs.Fault.{within, network_faults}
use Rattle.model.specs.Enumeration.{enumeration_numbers, EnumerationReply, enumerated, enumeration_reply, enumeration_faults}
use Rattle.model.specs.Text.{line_text, text_of}
use Rattle.model.specs.Listing.{enumeration_lines}
use Rattle.model.proofs.Bools.{and_left}
use Rattle.model.proofs.Lists.{here}
use Rattle.model.proofs.Text.{text_of-cons}
use Rattle.model.proofs.Enumerated.{enumeration-answered, enumeration-room}

module _ (N : Network) (m : ℕ) (list : List ℕ) where
  -- m is tested
  members-many : (enumeration_reply N m list).answer.kind ≡ 0 → 0 < m
  unfolding enumeration_faults
  members-many k =
      let none : not (within min_members max_members m) ≡ false = (enumeration-answered N m list).only k (7, not (within min_members max_members m)) (Memᴰ.append_right (network_faults N) here) in
      omega (arith, leb-true min_members m (and_left (leb min_members m) (leb m max_members) (not-false _ none)))

  -- what is counted has its members in the list
  pub listed-fits : (a : Enumeration) (after : List ℕ) → enumerated a after ≡ enumeration_reply N m list → (n : ℕ) → a ≡ Listed n → (0 < m) × (n * m ≤ length list)
  listed-fits a after e n is =
      let answer = ap (λ (b : Enumeration). enumeration_numbers b) (sym is) ∙ ap (λ (p : EnumerationReply). p.answer) e in
      (members-many (sym (ap (λ x. x.kind) answer)), omega (arith, enumeration-room N m list, ap (λ x. x.left * m) answer))

-- the text of the reply that lists so many
pub listed-text : (count m each end : ℕ) (members numbers : List ℕ) → each ≡ m → end ≡ count * m → end ≤ length members → take (length (take end members)) numbers ≡ take end members
    → line_text (0 ∷ 0 ∷ count ∷ 0 ∷ []) ++ text_of (combinations each (take end numbers)) ≡ text_of (enumeration_lines m (enumerated (Listed count) members))
unfolding enumeration_lines
listed-text count m each end members numbers em ee room copied =
    let first : List ℕ = 0 ∷ 0 ∷ count ∷ 0 ∷ [] in
    let held : take end numbers ≡ take end members = ap (λ (n : ℕ). take n numbers) (sym (length-take-le end members room)) ∙ copied in
    ap₂ (λ (k : ℕ) (xs : List ℕ). line_text first ++ text_of (combinations k xs)) em (held ∙ ap (λ (n : ℕ). take n members) ee)
    ∙ sym (text_of-cons first (combinations m (take (count * m) members)))

-- .. and of a refusal
pub refused-text : (f m : ℕ) (members : List ℕ) → line_text (2 ∷ f ∷ 0 ∷ 0 ∷ []) ≡ text_of (enumeration_lines m (enumerated (Refused f) members))
unfolding enumeration_lines combinations text_of
refused-text f m members =
    let first : List ℕ = 2 ∷ f ∷ 0 ∷ 0 ∷ [] in
    let nothing : combinations m (take (0 * m) members) ≡ [] =
    ap (λ (n : ℕ). combinations m (take n members)) (zero-mul m) ∙ ap (λ (n : ℕ). map (λ (k : ℕ). take m (drop (k * m) [])) (from 0 n)) (zero-div m)
    in
    sym (append-nil (line_text first)) ∙ ap (λ (cs : List Combination). line_text first ++ text_of cs) (sym nothing)
