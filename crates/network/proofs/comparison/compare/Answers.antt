-- The first fault, or where the two tuples clash. No fault makes the lists sound, and they hold the network that is asked about.
use mathlib.Core.Path.{◌≡◌, refl, sym, ap, ap₂, subst, ◌∙◌}
use mathlib.Core.Bool.{Bool, true, false, not, ◌&&◌, and-false}
use mathlib.Core.Option.{Option, none, some}
use mathlib.Core.List.{List, [], ◌∷◌}
use Prim.Native.Nat.{ℕ, ◌<◌}
use native.Mathlib.Omega.{arith}
use borrow.Author.Tests.{lt-ltb, le-ltb}
use lib.Dec.{ltb}
use Rattle.model.specs.Network.{Network, total}
use Rattle.model.specs.Agreement.{first_clash, clash_number}
use Rattle.model.specs.Fault.{first_fault, network_faults, ids_fault, compare_faults}
use Rattle.model.specs.Reply.{comparison_numbers, comparison_for, compare_reply}
use Rattle.model.proofs.Agreement.{first_clash-low, clash_number-none, clash_number-some}
use Rattle.model.proofs.Fault.{faultless, fault-here, fault-next, first_fault-append-none, first_fault-append-some, refusal-some, refusal-none}
use Rattle.layout.specs.Shape.{relations_of, network_of}
use Rattle.layout.specs.declared.Shape.{Shape}
use Rattle.layout.specs.Starts.{starts_of}
use Rattle.layout.specs.Setting.{network_in, SoundLists}
use Rattle.layout.proofs.SoundStarts.{tuple-count}
use Rattle.layout.proofs.Bridge.{shape-bounded, network-is, laid_of}
use Rattle.network.proofs.comparison.compare.Goals as goal

-- ---- The reply by its first fault

module _ (N : Network) (g h : ℕ) where
  abbrev answer : Option ℕ → ℕ × ℕ
  answer o = comparison_numbers (comparison_for o (first_clash N g h))

  refused : (k : ℕ) → first_fault (network_faults N) ≡ some k → (2, k) ≡ compare_reply N g h
  unfolding compare_reply compare_faults
  refused k e = sym (ap answer (first_fault-append-some (network_faults N) (ids_fault N (g ∷ h ∷ []) ∷ []) k e))

  module _ (e : first_fault (network_faults N) ≡ none) where
    refused-id : (ltb g (total N) && (ltb h (total N) && true)) ≡ false → (2, 13) ≡ compare_reply N g h
    unfolding compare_reply compare_faults
    refused-id d =
        sym (ap answer (first_fault-append-none (network_faults N) (ids_fault N (g ∷ h ∷ []) ∷ []) e ∙ fault-here (ids_fault N (g ∷ h ∷ [])) [] (ap not d)))

    answered : (o : Option ℕ) → g < total N → h < total N → first_clash N g h ≡ o → comparison_numbers (comparison_for none o) ≡ compare_reply N g h
    unfolding compare_reply compare_faults
    answered o k l d =
        let ids = ap₂ (λ (x y : Bool). not (x && (y && true))) (lt-ltb g (total N) k) (lt-ltb h (total N) l) in
        sym (ap answer (first_fault-append-none (network_faults N) (ids_fault N (g ∷ h ∷ []) ∷ []) e ∙ fault-next (ids_fault N (g ∷ h ∷ [])) [] ids)
        ∙ ap (λ (p : Option ℕ). comparison_numbers (comparison_for none p)) d)

-- ---- What is known once there is no fault

-- the lists with the starts found, and that they are those of the network
record Known (S : Shape) (variables values starts : List ℕ) : Type 0 where
  laid : SoundLists (record { variables = variables; values = values; starts = starts })
  is : network_in (record { variables = variables; values = values; starts = starts }) ≡ network_of S variables values

known : (S : Shape) (variables values starts : List ℕ) → starts ≡ starts_of (relations_of S) → first_fault (network_faults (network_of S variables values)) ≡ none → Known S variables values starts
known S variables values starts e ok =
    subst (Known S variables values) (sym e) (record { laid = laid_of S variables values ok; is = network-is S variables values ok })

pub returns-then-f-ne0 : goal.returns-then-f-ne0
returns-then-f-ne0 c =
    let N = network_of c.args.shape c.args.variables.now c.args.values.now in
    refused N c.args.g c.args.h c.fault-f.result (refusal-some (first_fault (network_faults N)) c.fault-f.result (sym c.fault-f.ensures) c.if-f-ne0.true)

pub starts_of-starts-requires : goal.starts_of-starts-requires
starts_of-starts-requires c =
    let N = network_of c.args.shape c.args.variables.now c.args.values.now in
    shape-bounded c.args.shape c.args.variables.now c.args.values.now (refusal-none (network_faults N) refl (sym c.fault-f.ensures ∙ c.if-f-ne0.false))

pub returns-then-total-g : goal.returns-then-total-g
returns-then-total-g c =
    let N = network_of c.args.shape c.args.variables.now c.args.values.now in
    let ok = refusal-none (network_faults N) refl (sym c.fault-f.ensures ∙ c.if-f-ne0.false) in
    let k = known c.args.shape c.args.variables.now c.args.values.now c.starts_of-starts.result c.starts_of-starts.ensures ok in
    let low = le-ltb c.args.g (total N) (omega (arith, tuple-count k.laid.framed, ap total k.is)) in
    refused-id N c.args.g c.args.h ok (ap (λ (b : Bool). b && (ltb c.args.h (total N) && true)) low)

pub returns-then-total-h : goal.returns-then-total-h
returns-then-total-h c =
    let N = network_of c.args.shape c.args.variables.now c.args.values.now in
    let ok = refusal-none (network_faults N) refl (sym c.fault-f.ensures ∙ c.if-f-ne0.false) in
    let k = known c.args.shape c.args.variables.now c.args.values.now c.starts_of-starts.result c.starts_of-starts.ensures ok in
    let low = le-ltb c.args.h (total N) (omega (arith, tuple-count k.laid.framed, ap total k.is)) in
    refused-id N c.args.g c.args.h ok (ap (λ (b : Bool). ltb c.args.g (total N) && (b && true)) low ∙ and-false (ltb c.args.g (total N)))

pub ids_clash-clash-requires : goal.ids_clash-clash-requires
ids_clash-clash-requires c =
    let N = network_of c.args.shape c.args.variables.now c.args.values.now in
    let k = known c.args.shape c.args.variables.now c.args.values.now c.starts_of-starts.result c.starts_of-starts.ensures (refusal-none (network_faults N) refl (sym c.fault-f.ensures ∙ c.if-f-ne0.false)) in
    record { laid = k.laid; first = omega (arith, tuple-count k.laid.framed); second = omega (arith, tuple-count k.laid.framed) }

pub returns-then-clash-eq-NO_VARIABLE : goal.returns-then-clash-eq-NO_VARIABLE
returns-then-clash-eq-NO_VARIABLE c =
    let N = network_of c.args.shape c.args.variables.now c.args.values.now in
    let ok = refusal-none (network_faults N) refl (sym c.fault-f.ensures ∙ c.if-f-ne0.false) in
    let k = known c.args.shape c.args.variables.now c.args.values.now c.starts_of-starts.result c.starts_of-starts.ensures ok in
    let count = tuple-count k.laid.framed ∙ ap total k.is in
    let number : clash_number (first_clash N c.args.g c.args.h) ≡ c.ids_clash-clash.result = sym (c.ids_clash-clash.ensures ∙ ap (λ (M : Network). clash_number (first_clash M c.args.g c.args.h)) k.is) in
    let low : c.args.g < total N = omega (arith, count) in
    answered N c.args.g c.args.h ok none low (omega (arith, count))
    (clash_number-none (first_clash N c.args.g c.args.h) (first_clash-low N (faultless N ok) c.args.g c.args.h low) (number ∙ c.if-clash-eq-NO_VARIABLE.true))

pub returns : goal.returns
returns c =
    let N = network_of c.args.shape c.args.variables.now c.args.values.now in
    let ok = refusal-none (network_faults N) refl (sym c.fault-f.ensures ∙ c.if-f-ne0.false) in
    let k = known c.args.shape c.args.variables.now c.args.values.now c.starts_of-starts.result c.starts_of-starts.ensures ok in
    let count = tuple-count k.laid.framed ∙ ap total k.is in
    let number : clash_number (first_clash N c.args.g c.args.h) ≡ c.ids_clash-clash.result = sym (c.ids_clash-clash.ensures ∙ ap (λ (M : Network). clash_number (first_clash M c.args.g c.args.h)) k.is) in
    let low : c.args.g < total N = omega (arith, count) in
    answered N c.args.g c.args.h ok (some c.ids_clash-clash.result) low (omega (arith, count))
    (clash_number-some (first_clash N c.args.g c.args.h) c.ids_clash-clash.result number c.if-clash-eq-NO_VARIABLE.false)
