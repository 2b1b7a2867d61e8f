-- What a change does, and the contracts of the change calls.
use Rattle.std.specs.Prelude.{◌≡◌, Bool, List, ℕ, ◌-◌, length}
use Rattle.model.specs.declared.Answer.{Answer}
use Rattle.model.specs.TupleSet.{count, without}
use Rattle.model.specs.Network.{total}
use Rattle.model.specs.Consistency.{filtered}
use Rattle.model.specs.LiveWords.{is_live, living}
use Rattle.model.specs.Request.{Change, Instance, combinations_of}
use Rattle.model.specs.Fault.{untrue}
use Rattle.model.specs.Reply.{Reply, leaving, request, replied, Keeps}
use Rattle.layout.specs.declared.Shape.{Shape}
use Rattle.layout.specs.Shape.{instance_of}
use Rattle.layout.specs.Setting.{Setting, network, instance_in, Sound}
use Rattle.engine.specs.Work as engine
use Rattle.request.specs.declared.plan.Plan.{Plan}
use Rattle.request.specs.Removal as request'
use Rattle.request.specs.Plan.{Planned}

-- what is left and answered once the live ids that pass are removed and the rest is filtered
unfoldable pub changed : Instance → (ℕ → Bool) → List ℕ → List ℕ → Reply
changed I removed words supports =
    let S = living (total I.network) words in
    let R = without removed S in
    let L = filtered I.network (combinations_of I) R in
    leaving I L (record { left = count L; withdrawn = count S - count R; deleted = count R - count L }) words supports

-- An instance without fault, words and numbers enough, a count for each relation, and words that hold ids of its tuples.
pub record Ready (G : Setting) (words supports counts removed : List ℕ) : Type 0 where
  pub sound : Sound G
  pub space : engine.Room G words supports
  pub tally : length counts ≡ length (network G).relations
  pub removal : request'.Room words removed (total (network G))

-- of each list lent, what it is at entry and what is left of it
abbrev pub Changes : Answer → Setting → List ℕ → List ℕ → List ℕ → List ℕ → List ℕ → List ℕ → List ℕ → Type 0
Changes a G words words' supports supports' counts counts' removed =
    replied a words' supports' counts' ≡ changed (instance_in G) (is_live removed) words supports

-- A change call keeps its contract.
abbrev pub Replies : Answer → Instance → List ℕ → List ℕ → List ℕ → List ℕ → List ℕ → List ℕ → Change → Type 0
Replies a I words words' supports supports' counts counts' change =
    Keeps (request I words supports counts change) (replied a words' supports' counts')

-- p is the plan of this change on these lists
abbrev pub PlannedOn : Plan → Instance → List ℕ → List ℕ → List ℕ → Change → Type 0
PlannedOn p I words supports counts change =
    Planned p I (length words) (length supports) (untrue I.network words counts) change

-- The plan is one for these lists.
pub record Plans (p : Plan) (variables values : List ℕ) (m : ℕ) (members words supports counts : List ℕ) : Type 0 where
  pub shape : Shape
  pub change : Change
  pub planned : PlannedOn p (instance_of shape variables values m members) words supports counts change

-- .. and for every change that it is one for, the call keeps its contract
abbrev pub RepliesPlanned : Answer → Plan → List ℕ → List ℕ → ℕ → List ℕ → List ℕ → List ℕ → List ℕ → List ℕ → List ℕ → List ℕ → Type 0
RepliesPlanned a p variables values m members words words' supports supports' counts counts' =
    (S : Shape) (change : Change) → (let I = instance_of S variables values m members in
    PlannedOn p I words supports counts change → Replies a I words words' supports supports' counts counts' change)
