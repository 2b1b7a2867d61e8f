-- Moves of a network between the old form, of 16-bit values, and the new one, of 32-bit values (card 9); and what an old network means.
use Rattle.std.specs.Prelude.{◌≡◌, Bool, true, false, not, ◌&&◌, ◌||◌, cond, List, [], ◌∷◌, ◌++◌, map, ℕ, leb, ltb, eqb, length, drop, take}
use Rattle.std.proofs.Math.Option.{Option, none, some}
use Rattle.model.specs.declared.Moved.{Moved}
use Rattle.model.specs.declared.Moved.TheVariants.{Done, Refused}
use Rattle.model.specs.Limits.{any_value}
use Rattle.model.specs.Lists.{all, any, elem, select, is_none, least}
use Rattle.model.specs.Network.{Network}
use Rattle.model.specs.Agreement.{Cell, cells, is_any, cells_of, first_clash, agree}
use Rattle.model.specs.Request.{Change, filter, withdraw, choose, choose_several, Instance, removes}
use Rattle.model.specs.Fault.{Fault, network_faults, change_faults, first_fault}
use Rattle.model.specs.Reply.{reply, request}
use Rattle.model.specs.Promises.{NoFault, FirstFault}

-- the value that stood for every value in the old form (card 4: "code 65,535 for 'any code'")
abbrev pub old_any : ℕ
old_any = 65535

-- "65,535 becoming the new 'any' and every other code keeping its value"
unfoldable pub widened : ℕ → ℕ
widened v = cond (eqb v old_any) any_value v

-- .. and back
unfoldable pub narrowed : ℕ → ℕ
narrowed v = cond (is_any v) old_any v

-- "a code is from 65,535 to 4,294,967,294": the old form has none for it
abbrev pub too_wide : ℕ → Bool
too_wide v = leb old_any v && ltb v any_value

-- To the new form, or back.
pub data Move : Type 0 where
  widen : Move
  narrow : Move

abbrev pub moved : Move → ℕ → ℕ
moved widen = widened
moved narrow = narrowed

abbrev pub too_wide_faults : Move → List ℕ → List Fault
too_wide_faults widen values = []
too_wide_faults narrow values = (23, any too_wide values) ∷ []

-- of a move into a list of so many entries
abbrev pub move_faults : Move → Network → ℕ → List Fault
move_faults d N room = network_faults N ++ (too_wide_faults d N.values ++ ((24, ltb room (length N.values)) ∷ []))

-- What a move answers, and what the second list holds at its end. The numbers of the answer: 0 done; 2 refused, and the refusal number.
pub record MoveReply : Type 0 where
  pub answer : ℕ × ℕ
  pub target : List ℕ

abbrev pub moved_numbers : Moved → ℕ × ℕ
moved_numbers Done = (0, 0)
moved_numbers (Refused f) = (2, f)

-- the values in front, and the entries past them as lent; or a refusal, and every entry as lent
abbrev pub move_to : Option ℕ → List ℕ → List ℕ → MoveReply
move_to none values target = record { answer = moved_numbers Done; target = values ++ drop (length values) target }
move_to (some f) values target = record { answer = moved_numbers (Refused f); target = target }

unfoldable pub move_reply : Move → Network → List ℕ → MoveReply
move_reply d N target = move_to (first_fault (move_faults d N (length target))) (map (moved d) N.values) target

-- A move keeps its contract: it answers a, and the second list holds `before` at entry and `after` at the end.
abbrev pub KeepsMove : Move → Network → List ℕ → Moved → List ℕ → Type 0
KeepsMove d N before a after = record { answer = moved_numbers a; target = after } ≡ move_reply d N before

-- ---- What is promised of the moves

-- the network with other values
abbrev pub with_values : Network → List ℕ → Network
with_values N values = record { relations = N.relations; variables = N.variables; values = values }

-- the network that stands in the second list after a move
abbrev pub moved_network : Network → MoveReply → Network
moved_network N p = with_values N (take (length N.values) p.target)

-- every value is at most `top`
abbrev pub values_to : ℕ → Network → Bool
values_to top N = all (λ (v : ℕ). leb v top) N.values

-- A move of N gets the reply p. It is done where it has no listed fault: the second list has the values moved in front, and past them its
-- entries as lent. Otherwise the first fault in checking order is its refusal number, and every entry is as lent.
pub record MoveAnswered (d : Move) (N : Network) (target : List ℕ) (p : MoveReply) : Type 0 where
  pub done : NoFault (move_faults d N (length target)) → p ≡ move_to none (map (moved d) N.values) target
  pub done-only : p.answer ≡ (0, 0) → NoFault (move_faults d N (length target))
  pub first : (n : ℕ) → FirstFault n (move_faults d N (length target)) → p ≡ move_to (some n) (map (moved d) N.values) target
  pub long : length p.target ≡ length target

-- A move of N that was done, and the move back: whatever list of enough entries is lent to it, it is done, and N stands in that list.
abbrev pub Returns : Move → Move → Network → List ℕ → Type 0
Returns there back N target =
    (move_reply there N target).answer ≡ (0, 0)
    → (other : List ℕ)
    → leb (length N.values) (length other) ≡ true
    → let p = move_reply back (moved_network N (move_reply there N target)) other in
    (p.answer ≡ (0, 0)) × (moved_network N p ≡ N)

-- ---- What a network means where another value stands for every value

-- `fit`, `clash`, `first_clash`, `agree`, `unlike` and `removes` (specs/Agreement, specs/Request) with w in the place of any
abbrev pub fit_by : ℕ → ℕ → ℕ → Bool
fit_by w a b = eqb a b || (eqb a w || eqb b w)

abbrev pub clash_by : ℕ → Cell → Cell → Bool
clash_by w x y = eqb x.0 y.0 && not (fit_by w x.1 y.1)

abbrev pub first_clash_by : ℕ → Network → ℕ → ℕ → Option ℕ
first_clash_by w N g h = least (map (λ (x : Cell). x.0) (select (λ (x : Cell). any (clash_by w x) (cells_of N h)) (cells_of N g)))

abbrev pub agree_by : ℕ → Network → ℕ → ℕ → Bool
agree_by w N g h = is_none (first_clash_by w N g h)

abbrev pub unlike_by : ℕ → Network → ℕ → Cell → Bool
unlike_by w N g p = any (λ (c : Cell). eqb c.0 p.0 && not (fit_by w c.1 p.1)) (cells_of N g)

abbrev pub removes_by : ℕ → Network → Change → ℕ → Bool
removes_by w N filter g = false
removes_by w N (withdraw ids) g = elem g ids
removes_by w N (choose x v) g = unlike_by w N g (x, v)
removes_by w N (choose_several xs vs) g = any (unlike_by w N g) (cells xs vs)

-- the change with its values in the new form
abbrev pub widened_change : Change → Change
widened_change filter = filter
widened_change (withdraw ids) = withdraw ids
widened_change (choose x v) = choose x (widened v)
widened_change (choose_several xs vs) = choose_several xs (map widened vs)

abbrev pub value_to : ℕ → Change → Bool
value_to top filter = true
value_to top (withdraw ids) = true
value_to top (choose x v) = leb v top
value_to top (choose_several xs vs) = all (λ (v : ℕ). leb v top) vs

-- N in the new form
abbrev pub widened_network : Network → Network
widened_network N = with_values N (map widened N.values)

-- In the new form N means what it meant: its tuples clash and agree, and a change removes of them, as with 65,535 for any. So a call on
-- it gets the reply that it gets on any values that mean this.
pub record SameMeaning (N : Network) : Type 0 where
  pub clashes : (g h : ℕ) → first_clash (widened_network N) g h ≡ first_clash_by old_any N g h
  pub agrees : (g h : ℕ) → agree (widened_network N) g h ≡ agree_by old_any N g h
  pub removed : (change : Change) → value_to old_any change ≡ true → (g : ℕ) → removes (widened_network N) (widened_change change) g ≡ removes_by old_any N change g
  pub replies : (values : List ℕ) (change meant : Change) → length values ≡ length N.values → value_to old_any change ≡ true
      → ((g h : ℕ) → agree (with_values N values) g h ≡ agree_by old_any N g h)
      → ((g : ℕ) → removes (with_values N values) meant g ≡ removes_by old_any N change g)
      → change_faults N meant ≡ change_faults N change
      → (m : ℕ) (members words supports counts : List ℕ)
      → let on : Network → Instance = λ M. record { network = M; m = m; members = members } in
      reply (request (on (widened_network N)) words supports counts (widened_change change)) ≡ reply (request (on (with_values N values)) words supports counts meant)
