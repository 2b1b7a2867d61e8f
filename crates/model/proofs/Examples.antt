-- Settled does not mean that a solution exists: P6's network is consistent in pairs and has none. From the table of examples,
-- since P7, on the same tuples, is Emptied.
use mathlib.Core.Path.{◌≡◌, refl, sym, ◌∙◌, ap, subst}
use mathlib.Core.Bool.{true}
use mathlib.Core.List.{List, []}
use Prim.Native.Nat.{ℕ}
use native.Mathlib.Omega.{arith}
use lib.ListN.{get_or}
use Rattle.model.specs.TupleSet.{TupleSet}
use Rattle.model.specs.Network.{total}
use Rattle.model.specs.Solution.{Assignment, is_solution}
use Rattle.model.specs.LiveWords.{living}
use Rattle.model.specs.Request.{removes}
use Rattle.model.specs.Fault.{accepts}
use Rattle.model.specs.Reply.{reply}
use Rattle.model.specs.Promises.{given_tuples, left_tuples}
use Rattle.model.specs.Examples.{relation, triangle, asked, numbers, p6, p7, Seen, table, given, said, examples}
use Rattle.model.proofs.TupleSet.{without-none}
use Rattle.model.proofs.Reply.{accepts-kind}
use Rattle.model.proofs.Mission.{filtering}

-- row i of what the table's requests show
row : ℕ → List Seen → Seen
row i rows = get_or rows i (record { kind = 0; subject = 0; left = 0; withdrawn = 0; deleted = 0 }, [], [], [])

pub p6-settled : (reply p6).answer.kind ≡ 0
unfolding table given said row numbers
p6-settled = ap (λ (rows : List Seen). (row 5 rows).0.kind) examples

p6-words : (reply p6).words ≡ p7.words
unfolding table given said row p7 asked
p6-words = ap (λ (rows : List Seen). (row 5 rows).1) examples

p7-emptied : (reply p7).answer.kind ≡ 1
unfolding table given said row numbers
p7-emptied = ap (λ (rows : List Seen). (row 6 rows).0.kind) examples

-- the tuples that P6 leaves are those that P7 is given
p6-left : left_tuples p6 (reply p6) ≡ given_tuples p7
unfolding p6 p7 asked triangle relation removes
p6-left = ap (living (total triangle)) p6-words ∙ sym (without-none (living (total triangle) p7.words))

pub settled-unsolvable : (a : Assignment) → is_solution triangle (left_tuples p6 (reply p6)) a ≡ true → ⊥
unfolding p7 asked
settled-unsolvable a s =
    (filtering p7 (accepts-kind p7 1 p7-emptied (omega arith) (accepts p7) refl)).none p7-emptied a
    (subst (λ (S : TupleSet). is_solution triangle S a ≡ true) p6-left s)
