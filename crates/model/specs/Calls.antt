-- Lists of change calls on one instance and its live words (document 01: the strike rule).
use Rattle.std.specs.Prelude.{◌≡◌, Bool, false, not, ◌&&◌, cond, ◌⊎◌, ℕ, ◌+◌, eqb}
use Rattle.std.proofs.Math.Option.{Option, none, some}
use mathlib.Core.List.{List, [], ◌∷◌, Memᴰ}
use Rattle.model.specs.Lists.{any}
use Rattle.model.specs.TupleSet.{TupleSet, without}
use Rattle.model.specs.Network.{total}
use Rattle.model.specs.Consistency.{filtered}
use Rattle.model.specs.LiveWords.{living}
use Rattle.model.specs.Agreement.{Cell}
use Rattle.model.specs.Request.{Change, choose, Instance, combinations_of, Request, removes}
use Rattle.model.specs.Reply.{Reply, Keeps}

-- The lists that are handed from call to call: the live words and the live counts.
pub record Marks : Type 0 where
  pub words : List ℕ
  pub counts : List ℕ

-- One call: an instance, live words and counts of its own or else the shared ones, a support list and a change.
pub record Call : Type 0 where
  pub given : Instance
  pub own : Option Marks
  pub supports : List ℕ
  pub change : Change

abbrev pub lent_marks : Option Marks → Marks → Marks
lent_marks none shared = shared
lent_marks (some own) shared = own

-- the call's request while the shared marks are s
abbrev pub call_request : Marks → Call → Request
call_request s c =
    let lent = lent_marks c.own s in
    record { given = c.given; words = lent.words; supports = c.supports; counts = lent.counts; change = c.change }

-- what the shared marks are after a call that leaves `after` in those lent to it
abbrev pub shared_after : Option Marks → Marks → Marks → Marks
shared_after none shared after = after
shared_after (some own) shared after = shared

-- the marks that a reply leaves
abbrev pub marks_in : Reply → Marks
marks_in p = record { words = p.words; counts = p.counts }

-- A call that was made, with its reply.
abbrev pub Made : Type 0
Made = Call × Reply

-- it was accepted, which is to say that it was not refused
abbrev pub is_accepted : Made → Bool
is_accepted c = not (eqb c.1.answer.kind 2)

-- A list's calls are on the shared instance and marks, but a call that was refused may be on others.
abbrev pub Proper : Instance → List Made → Type 0
Proper I made =
    (c : Made) → Memᴰ c made → ((c.0.given ≡ I) × (c.0.own ≡ none)) ⊎ (is_accepted c ≡ false)

-- The shared marks, how many tuples were withdrawn and deleted so far, and the last accepted call with its reply.
pub record State : Type 0 where
  pub marks : Marks
  pub gone : ℕ
  pub last : Option Made

abbrev pub start : Marks → State
start s = record { marks = s; gone = 0; last = none }

-- the state after a call, by its reply
abbrev pub after : State → Made → State
after st c =
    record {
      marks = shared_after c.0.own st.marks (marks_in c.1);
      gone = st.gone + (c.1.answer.withdrawn + c.1.answer.deleted);
      last = cond (is_accepted c) (some c) st.last;
    }

abbrev pub after_all : State → List Made → State
after_all st [] = st
after_all st (c ∷ cs) = after_all (after st c) cs

-- each call is given the marks that the last one left, and keeps its contract
abbrev pub AllKeep : State → List Made → Type 0
AllKeep st [] = Unit {0}
AllKeep st (c ∷ cs) = Keeps (call_request st.marks c.0) c.1 × AllKeep (after st c) cs

-- some call of the list was accepted
unfoldable pub any_accepted : List Made → Bool
any_accepted made = any is_accepted made

-- an accepted call of the list removes tuple g
unfoldable pub removed_by : Instance → List Made → ℕ → Bool
removed_by I made g = any (λ (c : Made). is_accepted c && removes I.network c.0.change g) made

-- the starting tuples
abbrev pub starting : Instance → List ℕ → TupleSet
starting I ws = living (total I.network) ws

-- one filtering of the starting tuples without all that accepted calls removed
unfoldable pub remaining : Instance → List ℕ → List Made → TupleSet
remaining I ws made = filtered I.network (combinations_of I) (without (removed_by I made) (starting I ws))

-- ---- Choices one by one (card 7)

-- one choose call for each pair, in their order, on the instance and the shared marks, each lent the supports that the last one left
abbrev pub Singly : Instance → List ℕ → List Cell → List Made → Type 0
Singly I supports [] [] = Unit {0}
Singly I supports [] (c ∷ made) = ⊥
Singly I supports (p ∷ pairs) [] = ⊥
Singly I supports (p ∷ pairs) (c ∷ made) =
    (c.0 ≡ record { given = I; own = none; supports = supports; change = choose p.0 p.1 }) × Singly I c.1.supports pairs made

-- the supports that the last of them leaves
abbrev pub supports_after : List ℕ → List Made → List ℕ
supports_after supports [] = supports
supports_after supports (c ∷ made) = supports_after c.1.supports made
