-- The answer of the call, before anything is written to the list lent.
use Rattle.std.specs.Prelude.{◌≡◌, List, ℕ, ◌*◌, length, take}
use Rattle.std.proofs.Math.Option.{Option, none, some}
use Rattle.model.specs.declared.Enumeration.{Enumeration}
use Rattle.model.specs.declared.Enumeration.TheVariants.{Listed, Refused}
use Rattle.model.specs.Network.{Network}
use Rattle.model.specs.Fault.{first_fault}
use Rattle.model.specs.Enumeration.{connected_combinations, end_to_end, enumeration_faults}

-- refused for the first fault, or how many there are
abbrev pub answer_for : Option ℕ → ℕ → Enumeration
answer_for none n = Listed n
answer_for (some f) n = Refused f

-- how many combinations are listed
abbrev pub listed_in : Enumeration → ℕ
listed_in (Listed n) = n
listed_in (Refused f) = 0

-- The answer where there is room for so many numbers; and where there is no fault, the list begins with all of them.
pub record Found (a : Enumeration) (N : Network) (m room : ℕ) (list : List ℕ) : Type 0 where
  pub answer : a ≡ answer_for (first_fault (enumeration_faults N m room)) (length (connected_combinations N m))
  pub front : first_fault (enumeration_faults N m room) ≡ none → take (length (connected_combinations N m) * m) list ≡ end_to_end (connected_combinations N m)
