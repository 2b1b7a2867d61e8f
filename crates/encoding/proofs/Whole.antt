-- Laws of tests that all have to hold. From the definition of the conjunction.
use mathlib.Core.Path.{◌≡◌}
use mathlib.Core.Bool.{true, ◌&&◌}
use Prim.Native.Nat.{ℕ, ◌%◌}
use borrow.Author.Tests.{eqb-true}
use Rattle.model.proofs.Bools.{and_left, and_right}
use Rattle.encoding.specs.Whole.{whole, whole_cells, whole_network, whole_instance, whole_change}

-- whole lists have a whole number of records
pub whole-records : (sheets questions codes combinations marks supports : ℕ) → whole_change sheets questions codes combinations marks supports ≡ true → sheets % 6 ≡ 0
whole-records sheets questions codes combinations marks supports w =
    eqb-true _ _
    (and_left (whole 6 sheets) (whole_cells questions codes)
    (and_left (whole_network sheets questions codes) (whole 2 combinations)
    (and_left (whole_instance sheets questions codes combinations) (whole 8 marks && whole 2 supports) w)))

-- .. and whole numbers of words and of support numbers
pub whole-written : (sheets questions codes combinations marks supports : ℕ) → whole_change sheets questions codes combinations marks supports ≡ true → (marks % 8 ≡ 0) × (supports % 2 ≡ 0)
whole-written sheets questions codes combinations marks supports w =
    let both = and_right (whole_instance sheets questions codes combinations) (whole 8 marks && whole 2 supports) w in
    (eqb-true _ _ (and_left (whole 8 marks) (whole 2 supports) both), eqb-true _ _ (and_right (whole 8 marks) (whole 2 supports) both))
