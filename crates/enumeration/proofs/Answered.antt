-- The answer of the call by what was found, and what is then left in the list lent. From the order of the faults.
use mathlib.Core.Path.{◌≡◌, refl, sym, ◌∙◌, ap, ap₂, subst}
use mathlib.Core.Bool.{true, false, not}
use mathlib.Core.Option.{Option, none, some, some-ne-none}
use mathlib.Core.List.{List, [], ◌∷◌, ◌++◌, Memᴰ}
use Prim.Native.Nat.{ℕ, ◌*◌, ◌≤◌, ◌<◌}
use native.Mathlib.Nat.{zero-mul, zero-add, mul-le-mul}
use native.Mathlib.Omega.{arith}
use borrow.Author.Tests.{leb-true, lt-ltb, le-ltb, ltb-false, not-false}
use lib.Dec.{leb, ltb}
use lib.ListN.{length, take, drop}
use lib.Seq.{paste, paste-zero}
use Rattle.model.specs.declared.Enumeration.{Enumeration}
use Rattle.model.specs.declared.Enumeration.TheVariants.{Listed, Refused}
use Rattle.model.specs.Limits.{min_members, max_members, max_combinations}
use Rattle.model.specs.Edges.{max_member_list}
use Rattle.model.specs.Network.{Network}
use Rattle.model.specs.Combination.{Combination}
use Rattle.model.specs.Fault.{Fault, first_fault, within, network_faults}
use Rattle.model.specs.Enumeration.{connected_combinations, end_to_end, enumeration_faults, enumerated, enumeration_reply, enumeration_for}
use Rattle.model.proofs.Bools.{and_right}
use Rattle.model.proofs.Lists.{here}
use Rattle.model.proofs.Fault.{fault-here, fault-next, no-fault-at, first_fault-append-none, first_fault-append-some, first_fault-back}
use Rattle.enumeration.specs.Adds.{Adds}
use Rattle.enumeration.specs.Found.{answer_for, listed_in, Found}

module _ (N : Network) (m room : ℕ) where
  abbrev cs : List Combination
  cs = connected_combinations N m

  abbrev f7 : Fault
  f7 = (7, not (within min_members max_members m))

  abbrev f15 : Fault
  f15 = (15, ltb max_combinations (length cs))

  abbrev f16 : Fault
  f16 = (16, ltb room (length cs * m))

  abbrev own : List Fault
  own = f7 ∷ f15 ∷ f16 ∷ []

  -- ---- The first fault

  pub first-network : (k : ℕ) → first_fault (network_faults N) ≡ some k → first_fault (enumeration_faults N m room) ≡ some k
  unfolding enumeration_faults
  first-network k e = first_fault-append-some (network_faults N) own k e

  module _ (e : first_fault (network_faults N) ≡ none) where
    pub first-7 : within min_members max_members m ≡ false → first_fault (enumeration_faults N m room) ≡ some 7
    unfolding enumeration_faults
    first-7 w = first_fault-append-none (network_faults N) own e ∙ fault-here f7 (f15 ∷ f16 ∷ []) (ap not w)

    module _ (w : within min_members max_members m ≡ true) where
      behind-7 : first_fault (enumeration_faults N m room) ≡ first_fault (f15 ∷ f16 ∷ [])
      unfolding enumeration_faults
      behind-7 = first_fault-append-none (network_faults N) own e ∙ fault-next f7 (f15 ∷ f16 ∷ []) (ap not w)

      pub first-15 : max_combinations < length cs → first_fault (enumeration_faults N m room) ≡ some 15
      first-15 h = behind-7 ∙ fault-here f15 (f16 ∷ []) (lt-ltb max_combinations (length cs) h)

      module _ (few : length cs ≤ max_combinations) where
        behind-15 : first_fault (enumeration_faults N m room) ≡ first_fault (f16 ∷ [])
        behind-15 = behind-7 ∙ fault-next f15 (f16 ∷ []) (le-ltb max_combinations (length cs) few)

        pub first-16 : room < length cs * m → first_fault (enumeration_faults N m room) ≡ some 16
        first-16 h = behind-15 ∙ fault-here f16 [] (lt-ltb room (length cs * m) h)

        pub first-none : length cs * m ≤ room → first_fault (enumeration_faults N m room) ≡ none
        first-none h = behind-15 ∙ fault-next f16 [] (le-ltb room (length cs * m) h)

  -- ---- What was found

  pub found-refused : (k : ℕ) (list : List ℕ) → first_fault (enumeration_faults N m room) ≡ some k → Found (Refused k) N m room list
  found-refused k list e =
      record {
        answer = sym (ap (λ (o : Option ℕ). answer_for o (length cs)) e);
        front = λ d. absurd (some-ne-none k (sym e ∙ d));
      }

  pub found-listed : (n : ℕ) (before list : List ℕ) → first_fault (enumeration_faults N m room) ≡ none → n ≤ max_combinations → Adds m cs 0 before n list → Found (Listed n) N m room list
  found-listed n before list e h A =
      let count : n ≡ length cs = omega (arith, A.counted h) in
      record {
        answer = ap Listed count ∙ sym (ap (λ (o : Option ℕ). answer_for o (length cs)) e);
        front = λ d.
            ap (λ (i : ℕ). take (i * m) list) (sym count)
            ∙ A.listed h
            ∙ ap (λ (i : ℕ). take i before ++ end_to_end cs) (zero-mul m);
      }

-- the same network and number of members, known by other names
pub adds_same : {N M : Network} {m k : ℕ} → M ≡ N → k ≡ m → {n : ℕ} {before after : List ℕ} → Adds k (connected_combinations M k) 0 before n after → Adds m (connected_combinations N m) 0 before n after
adds_same {N} {M} {m} {k} e d {n} {before} {after} A =
    subst (λ (j : ℕ). Adds j (connected_combinations N j) 0 before n after) d (subst (λ (K : Network). Adds k (connected_combinations K k) 0 before n after) e A)

-- ---- What is left in the list lent

module _ (N : Network) (m : ℕ) (list : List ℕ) where
  abbrev whole : List Combination
  whole = connected_combinations N m

  absent : first_fault (enumeration_faults N m (length list)) ≡ none → {f : Fault} → Memᴰ f (own N m (length list)) → f.1 ≡ false
  unfolding enumeration_faults
  absent e k = no-fault-at (own N m (length list)) (first_fault-back (network_faults N) (own N m (length list)) e) k

  -- there is room for what is listed, here and in the list lent
  fits-for : (o : Option ℕ) → first_fault (enumeration_faults N m (length list)) ≡ o → (listed_in (answer_for o (length whole)) * m ≤ length list) × (listed_in (answer_for o (length whole)) * m ≤ max_member_list)
  fits-for none e =
      let w = not-false (within min_members max_members m) (absent e here) in
      let few = ltb-false max_combinations (length whole) (absent e (Memᴰ.tail here)) in (
        ltb-false (length list) (length whole * m) (absent e (Memᴰ.tail (Memᴰ.tail here))),
        mul-le-mul {n₁ = length whole} {m₁ = m} {n₂ = max_combinations} {m₂ = max_members} few (leb-true m max_members (and_right (leb min_members m) (leb m max_members) w)),
      )
  fits-for (some k) e = (omega (arith, zero-mul m), omega (arith, zero-mul m))

  pub fits : {a : Enumeration} {found : List ℕ} → Found a N m (length list) found → (listed_in a * m ≤ length list) × (listed_in a * m ≤ max_member_list)
  fits {a} {found} F =
      subst (λ (b : Enumeration). (listed_in b * m ≤ length list) × (listed_in b * m ≤ max_member_list)) (sym F.answer)
      (fits-for (first_fault (enumeration_faults N m (length list))) refl)

  left-for : (found : List ℕ) (o : Option ℕ) → (o ≡ none → take (length whole * m) found ≡ end_to_end whole) → enumerated (answer_for o (length whole)) (paste list 0 found (listed_in (answer_for o (length whole)) * m)) ≡ enumeration_for o whole m list
  left-for found none front =
      ap (enumerated (Listed (length whole)))
      (ap₂ (λ (xs : List ℕ) (k : ℕ). xs ++ drop k list) (front refl) (zero-add (length whole * m)))
  left-for found (some k) front =
      ap (enumerated (Refused k)) (ap (paste list 0 found) (zero-mul m) ∙ sym (paste-zero list 0 found))

  pub left : {a : Enumeration} (found : List ℕ) → Found a N m (length list) found → enumerated a (paste list 0 found (listed_in a * m)) ≡ enumeration_reply N m list
  unfolding enumeration_reply
  left {a} found F =
      ap (λ (b : Enumeration). enumerated b (paste list 0 found (listed_in b * m))) F.answer
      ∙ left-for found (first_fault (enumeration_faults N m (length list))) F.front
