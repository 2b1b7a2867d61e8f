-- Every connected combination of a network, listed in order (card 1).
use Rattle.std.specs.Prelude.{◌≡◌, true, not, ℕ, zero, suc, ◌*◌, ltb, length, drop}
use Rattle.std.proofs.Math.Option.{Option, none, some}
use mathlib.Core.List.{List, [], ◌∷◌, ◌++◌, map, Memᴰ}
use Rattle.model.specs.declared.Enumeration.{Enumeration}
use Rattle.model.specs.declared.Enumeration.TheVariants.{Listed, Refused}
use Rattle.model.specs.Limits.{min_members, max_members, max_combinations}
use Rattle.model.specs.Lists.{from, select, each, pairwise, earlier}
use Rattle.model.specs.Network.{Network}
use Rattle.model.specs.Combination.{Combination, connected}
use Rattle.model.specs.Fault.{Fault, first_fault, within, proper_members, network_faults}
use Rattle.model.specs.Reply.{Numbers, with_counts}

-- ---- The combinations

-- every choice of m elements of a list, in their order there; ordered by the first element, then by the second, and so on
abbrev pub chosen : ℕ → List ℕ → List (List ℕ)
chosen zero xs = [] ∷ []
chosen (suc m) [] = []
chosen (suc m) (x ∷ xs) = map (λ (t : List ℕ). x ∷ t) (chosen m xs) ++ chosen (suc m) xs

-- the rising lists of m numbers below n
abbrev pub rising : ℕ → ℕ → List Combination
rising m n = chosen m (from 0 n)

-- the connected combinations of m relations
unfoldable pub connected_combinations : Network → ℕ → List Combination
connected_combinations N m = select (connected N) (rising m (length N.relations))

-- A proper connected combination of m members.
pub record IsConnected (N : Network) (m : ℕ) (c : Combination) : Type 0 where
  pub many : length c ≡ m
  pub proper : proper_members N c ≡ true
  pub joined : connected N c ≡ true

-- the list holds every one of them
abbrev pub HoldsConnected : Network → ℕ → List Combination → Type 0
HoldsConnected N m cs = (c : Combination) → IsConnected N m c → Memᴰ c cs

-- .. and nothing else, each before every later one, so that none stands twice
pub record AllConnected (N : Network) (m : ℕ) (cs : List Combination) : Type 0 where
  pub only : (c : Combination) → Memᴰ c cs → IsConnected N m c
  pub every : HoldsConnected N m cs
  pub ordered : pairwise earlier cs ≡ true

-- the members of each, end to end
abbrev pub end_to_end : List Combination → List ℕ
end_to_end cs = each (λ (c : Combination). c) cs

-- ---- The call

-- the faults 2 to 7, then 15 and 16, where the list lent has room for so many numbers
unfoldable pub enumeration_faults : Network → ℕ → ℕ → List Fault
enumeration_faults N m room =
    let count = length (connected_combinations N m) in
    network_faults N
    ++ ((7, not (within min_members max_members m)) ∷ (15, ltb max_combinations count) ∷ (16, ltb room (count * m)) ∷ [])

-- the numbers of the answer: 0 and how many are listed, in the place of the tuples left; or 2 and the refusal number
abbrev pub enumeration_numbers : Enumeration → Numbers
enumeration_numbers (Listed n) = with_counts 0 0 (record { left = n; withdrawn = 0; deleted = 0 })
enumeration_numbers (Refused f) = with_counts 2 f (record { left = 0; withdrawn = 0; deleted = 0 })

-- What the call answers, and what the list lent holds at its end.
pub record EnumerationReply : Type 0 where
  pub answer : Numbers
  pub members : List ℕ

abbrev pub enumerated : Enumeration → List ℕ → EnumerationReply
enumerated a members = record { answer = enumeration_numbers a; members = members }

-- the combinations in front of the list, and what stands behind them as lent; or a refusal, and the list as lent
abbrev pub enumeration_for : Option ℕ → List Combination → ℕ → List ℕ → EnumerationReply
enumeration_for none cs m list = enumerated (Listed (length cs)) (end_to_end cs ++ drop (length cs * m) list)
enumeration_for (some f) cs m list = enumerated (Refused f) list

unfoldable pub enumeration_reply : Network → ℕ → List ℕ → EnumerationReply
enumeration_reply N m list = enumeration_for (first_fault (enumeration_faults N m (length list))) (connected_combinations N m) m list

-- The call keeps its contract: it was lent this list, and p is what it answers and leaves.
abbrev pub Enumerates : Network → ℕ → List ℕ → EnumerationReply → Type 0
Enumerates N m list p = p ≡ enumeration_reply N m list
