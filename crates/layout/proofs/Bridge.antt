-- From no fault to the facts: a shape without the faults 2 to 6 has sound lists, without 7 to 9 its pairs are sound too, and the
-- network that its starts describe is the shape's.
-- From the tables of faults, and the law that starts describe the records whose starts they are.
use mathlib.Core.Path.{◌≡◌, sym, ap, subst}
use mathlib.Core.Bool.{true, false}
use mathlib.Core.Option.{none}
use mathlib.Core.List.{List, Memᴰ}
use Prim.Native.Nat.{ℕ, ◌*◌, ◌/◌, ◌%◌, ◌≤◌}
use native.Mathlib.Nat.{mul-le-mul, div-add-mod'}
use native.Mathlib.Omega.{arith}
use lib.Dec.{leb, eqb}
use lib.ListN.{length}
use borrow.Author.Tests.{leb-true, eqb-true, not-false}
use Rattle.model.specs.declared.Relation.{Relation}
use Rattle.model.specs.Limits.{min_members, max_members, max_combinations}
use Rattle.model.specs.Lists.{all}
use Rattle.model.specs.Network.{Network}
use Rattle.model.specs.Request.{Instance, combinations_of}
use Rattle.model.specs.Fault.{Fault, first_fault, within, proper_members, network_faults, combination_faults}
use Rattle.model.proofs.Bools.{and_left, and_right}
use Rattle.model.proofs.Lists.{here}
use Rattle.model.proofs.Fault.{Faultless, faultless, no-fault-at}
use Rattle.layout.specs.declared.Shape.{Shape}
use Rattle.layout.specs.Shape.{relations_of, network_of}
use Rattle.layout.specs.Starts.{starts_of, records_in, Bounded, SoundStarts}
use Rattle.layout.specs.Setting.{Lists, network_in, SoundLists, SoundPairs}
use Rattle.layout.proofs.Starts.{records_in-of}

pub faultless-bounded : (N : Network) → Faultless N → Bounded N.relations
faultless-bounded N f = record { relations = f.relations; widths = f.widths; tuples = f.tuples }

-- bounded records have sound starts
pub framed_of : (Rs : List Relation) → Bounded Rs → SoundStarts (starts_of Rs)
framed_of Rs b =
    let e = sym (records_in-of Rs b.relations) in
    record { bounded = subst Bounded e b; are = ap starts_of e }

-- ---- No fault 2 to 6

module _ (S : Shape) (variables values : List ℕ) (sound : first_fault (network_faults (network_of S variables values)) ≡ none) where
  abbrev pub lists_of : Lists
  lists_of = record { variables = variables; values = values; starts = starts_of (relations_of S) }

  pub shape-bounded : Bounded (relations_of S)
  shape-bounded = faultless-bounded (network_of S variables values) (faultless (network_of S variables values) sound)

  pub network-is : network_in lists_of ≡ network_of S variables values
  network-is =
      ap (λ (Rs : List Relation). record { relations = Rs; variables = variables; values = values }) (records_in-of (relations_of S) shape-bounded.relations)

  pub laid_of : SoundLists lists_of
  laid_of =
      record {
        framed = framed_of (relations_of S) shape-bounded;
        faultless = subst (λ (N : Network). first_fault (network_faults N) ≡ none) (sym network-is) sound;
      }

-- ---- No fault 7 to 9

module _ (I : Instance) (sound : first_fault (combination_faults I) ≡ none) where
  absent : {f : Fault} → Memᴰ f (combination_faults I) → f.1 ≡ false
  absent m = no-fault-at (combination_faults I) sound m

  number : (min_members ≤ I.m) × (I.m ≤ max_members)
  number =
      let w = not-false (within min_members max_members I.m) (absent here) in
      (leb-true min_members I.m (and_left (leb min_members I.m) (leb I.m max_members) w), leb-true I.m max_members (and_right (leb min_members I.m) (leb I.m max_members) w))

  abbrev list_count : ℕ
  list_count = length I.members / I.m

  listed-whole : (length I.members % I.m ≡ 0) × (list_count ≤ max_combinations)
  listed-whole =
      let w = not-false _ (absent (Memᴰ.tail here)) in
      (eqb-true (length I.members % I.m) 0 (and_left (eqb (length I.members % I.m) 0) (leb list_count max_combinations) w), leb-true list_count max_combinations (and_right (eqb (length I.members % I.m) 0) (leb list_count max_combinations) w))

  whole : list_count * I.m ≡ length I.members
  whole = omega (arith, listed-whole, div-add-mod' (length I.members) I.m)

  pub paired-of : (xs : List ℕ) → records_in xs ≡ I.network.relations → SoundPairs xs I.m I.members
  paired-of xs e =
      record {
        list = record {
          positive = omega (arith, number);
          few = number.1;
          whole = whole;
          short = omega (arith, whole, mul-le-mul {n₂ = 256} {m₂ = 4} listed-whole.1 number.1);
        };
        proper = subst (λ (Rs : List Relation). all (proper_members (record { relations = Rs; variables = I.network.variables; values = I.network.values })) (combinations_of I) ≡ true) (sym e) (not-false _ (absent (Memᴰ.tail (Memᴰ.tail here))));
      }
