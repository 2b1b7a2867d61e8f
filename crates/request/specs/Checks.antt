-- The faults that the calls share, and what the checks give.
use Rattle.std.specs.Prelude.{◌≡◌, not, List, [], ◌∷◌, ◌++◌, ℕ, ltb, eqb}
use Rattle.model.specs.declared.Relation.{Relation}
use Rattle.model.specs.Limits.{variable_count}
use Rattle.model.specs.Network.{Network}
use Rattle.model.specs.Request.{Instance}
use Rattle.model.specs.Fault.{Fault, first_fault, refusal, instance_faults, words_fault, untrue}
use Rattle.layout.specs.Starts.{starts_of, outline}
use Rattle.request.specs.declared.checks.Opening.{Opening}

-- the faults 2 to 11: of test, on so many live words
abbrev pub test_faults_on : Instance → ℕ → List Fault
test_faults_on I words = instance_faults I ++ (words_fault I.network words ∷ [])

-- The number of a table's first fault, or 0; and if it is 0, where each relation begins in the lists.
pub record Opened (o : Opening) (faults : List Fault) (Rs : List Relation) : Type 0 where
  pub fault : o.fault ≡ refusal (first_fault faults)
  pub starts : o.fault ≡ 0 → o.starts ≡ starts_of Rs

-- the number of the fault 18, or 0: the counts are not those of the live tuples
abbrev pub counts_refusal : Network → List ℕ → List ℕ → ℕ
counts_refusal N words counts = refusal (first_fault ((18, untrue N words counts) ∷ []))

-- n is the opening o once the counts are checked too.
pub record CountsChecked (o : Opening) (words counts : List ℕ) (n : Opening) : Type 0 where
  pub starts : n.starts ≡ o.starts
  pub faulty : (o.fault ≡ 0 → ⊥) → n.fault ≡ o.fault
  pub none : o.fault ≡ 0 → n.fault ≡ counts_refusal (outline o.starts) words counts

-- the number of the fault 13, or 0: the ids are not all below the number of tuples, where bound is the least number above all
abbrev pub ids_refusal : ℕ → ℕ → ℕ
ids_refusal tuples bound = refusal (first_fault ((13, ltb tuples bound) ∷ []))

-- the number of the fault 14, or 0: x is no variable
abbrev pub variable_refusal : ℕ → ℕ
variable_refusal x = refusal (first_fault ((14, not (ltb x variable_count)) ∷ []))

-- the number of the faults 19 and 14, or 0: so many variables and values are chosen, and bound is the least number above all variables
abbrev pub choices_refusal : ℕ → ℕ → ℕ → ℕ
choices_refusal variables values bound =
    refusal (first_fault ((19, not (eqb variables values)) ∷ (14, ltb variable_count bound) ∷ []))
