-- What a change leaves in the bytes lent: on decoded lists, with a plan, with an opening.
use Rattle.std.specs.Prelude.{◌≡◌, List, ◌++◌, ℕ, ◌*◌, ◌/◌, ◌%◌, ◌≤◌, length, take, drop}
use Rattle.model.specs.Request.{Change, Instance, Request}
use Rattle.model.specs.LiveWords.{is_live}
use Rattle.model.specs.Fault.{untrue, list_faults}
use Rattle.model.specs.Reply.{Reply, reply, request}
use Rattle.layout.specs.declared.Shape.{Shape}
use Rattle.layout.specs.Shape.{instance_of}
use Rattle.layout.specs.Setting.{Setting, setting, instance_in}
use Rattle.wire.specs.Entries.{entries16, entries64, bytes}
use Rattle.request.specs.declared.checks.Opening.{Opening}
use Rattle.request.specs.declared.plan.Plan.{Plan}
use Rattle.request.specs.Answer.{Covered}
use Rattle.request.specs.Checks.{Opened}
use Rattle.request.specs.Plan.{Planned}
use Rattle.changes.specs.Change.{changed, Ready}
use Rattle.encoding.specs.Records.{counts_in, with_counts}
use Rattle.encoding.specs.Packed.{packed, Outcome, outcome, encoded, reply_bytes}
use Rattle.encoding.specs.Call.{decoded_change, left}

-- ---- On decoded words, numbers and counts

-- the lists, with the starts planned
abbrev pub setting_for : Plan → List ℕ → List ℕ → ℕ → List ℕ → Setting
setting_for p variables values m members = setting (λ (xs : List ℕ). xs) variables values p.starts members m

-- the entries written as the first bytes of a list
abbrev pub over : ℕ → List ℕ → List ℕ → List ℕ
over k xs bs = bytes k xs ++ drop (k * length xs) bs

-- a reply written over the bytes lent: its counts into the records, its words and its numbers as the first bytes
abbrev pub written_over : Reply → List ℕ → List ℕ → List ℕ → Outcome
written_over r sheets marks supports =
    outcome (packed r.answer) (with_counts sheets r.counts) (over 8 r.words marks) (over 2 r.supports supports)

-- A change can be made on the words, the numbers and the counts, and there are bytes enough for them.
pub record Writable (G : Setting) (words numbers counts removed sheets marks supports : List ℕ) : Type 0 where
  pub ready : Ready G words numbers counts removed
  pub sheets-room : 6 * length counts ≤ length sheets
  pub marks-room : 8 * length words ≤ length marks
  pub supports-room : 2 * length numbers ≤ length supports

-- of each list of bytes lent, what it is at entry and what is left of it
abbrev pub WritesChange : ℕ → Setting → List ℕ → List ℕ → List ℕ → List ℕ → List ℕ → List ℕ → List ℕ → List ℕ → List ℕ → Type 0
WritesChange n G words numbers removed sheets sheets' marks marks' supports supports' =
    left n sheets' marks' supports' ≡ written_over (changed (instance_in G) (is_live removed) words numbers) sheets marks supports

-- ---- On the bytes

-- the request of an instance and the entries that these bytes hold
abbrev pub request_in : Instance → List ℕ → List ℕ → List ℕ → Change → Request
request_in I sheets marks supports change = request I (entries64 marks) (entries16 supports) (counts_in sheets) change

-- what is answered and left is the reply, as a number and bytes, to the request of an instance and these bytes
abbrev pub AnswersOn : ℕ → Instance → List ℕ → List ℕ → List ℕ → List ℕ → List ℕ → List ℕ → Change → Type 0
AnswersOn n I sheets sheets' marks marks' supports supports' change =
    left n sheets' marks' supports' ≡ reply_bytes (reply (request_in I sheets marks supports (decoded_change change))) sheets marks supports

-- The bytes are whole numbers of words and of support numbers.
pub record WholeBytes (marks supports : List ℕ) : Type 0 where
  pub words : length marks % 8 ≡ 0
  pub numbers : length supports % 2 ≡ 0

-- Decoded from the bytes: the first live words, a bit for each tuple, and all counts.
pub record Decoded (starts words counts sheets marks : List ℕ) : Type 0 where
  pub covered : Covered starts words
  pub first : words ≡ take (length words) (entries64 marks)
  pub all : counts ≡ counts_in sheets

-- ---- With a plan

-- p is the plan of this change, on the entries that these bytes hold
abbrev pub PlannedOn : Plan → Instance → List ℕ → List ℕ → List ℕ → Change → Type 0
PlannedOn p I sheets marks supports change =
    Planned p I (length marks / 8) (length supports / 2) (untrue I.network (entries64 marks) (counts_in sheets)) change

-- The plan is one for these lists and bytes, and has no fault.
pub record PlansBytes (p : Plan) (variables values : List ℕ) (m : ℕ) (members words counts sheets marks supports : List ℕ) : Type 0 where
  pub shape : Shape
  pub change : Change
  pub planned : PlannedOn p (instance_of shape variables values m members) sheets marks supports change
  pub none : p.fault ≡ 0
  pub decoded : Decoded p.starts words counts sheets marks
  pub whole : WholeBytes marks supports

-- for every change that it is one for, what is left is the reply to the request that the bytes hold
abbrev pub LeavesPlanned : ℕ → Plan → List ℕ → List ℕ → ℕ → List ℕ → List ℕ → List ℕ → List ℕ → List ℕ → List ℕ → List ℕ → Type 0
LeavesPlanned n p variables values m members sheets sheets' marks marks' supports supports' =
    (S : Shape) (change : Change) → (let I = instance_of S variables values m members in
    PlannedOn p I sheets marks supports change → left n sheets' marks' supports' ≡ encoded (reply (request_in I sheets marks supports change)) sheets)

-- ---- With an opening

-- o is the opening of every change call, as far as number 12, on as many words and numbers as these bytes hold
abbrev pub OpenedOn : Opening → Instance → List ℕ → List ℕ → Type 0
OpenedOn o I marks supports = Opened o (list_faults I (length marks / 8) (length supports / 2)) I.network.relations

-- The opening is one for these lists and bytes, and has no fault; there are as many records as relations.
pub record Readable (o : Opening) (relations : ℕ) (I : Instance) (sheets marks supports : List ℕ) : Type 0 where
  pub opened : OpenedOn o I marks supports
  pub none : o.fault ≡ 0
  pub records : relations ≡ length sheets / 6
  pub whole : WholeBytes marks supports

-- .. and words and counts are decoded
pub record OpensBytes (o : Opening) (variables values : List ℕ) (m : ℕ) (members words counts sheets marks supports : List ℕ) : Type 0 where
  pub shape : Shape
  pub opened : OpenedOn o (instance_of shape variables values m members) marks supports
  pub none : o.fault ≡ 0
  pub decoded : Decoded o.starts words counts sheets marks
  pub whole : WholeBytes marks supports

-- on every shape that it opens, the call is answered
abbrev pub AnswersOpened : ℕ → Opening → List ℕ → List ℕ → ℕ → List ℕ → List ℕ → List ℕ → List ℕ → List ℕ → List ℕ → List ℕ → Change → Type 0
AnswersOpened n o variables values m members sheets sheets' marks marks' supports supports' change =
    (S : Shape) → (let I = instance_of S variables values m members in
    OpenedOn o I marks supports → AnswersOn n I sheets sheets' marks marks' supports supports' change)
