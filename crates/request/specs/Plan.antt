-- What a change call is to do.
use Rattle.std.specs.Prelude.{◌≡◌, Bool, List, ℕ, ◌*◌, ◌≤◌}
use Rattle.model.specs.Limits.{word_bits, max_support_numbers}
use Rattle.model.specs.Network.{total}
use Rattle.model.specs.Consistency.{needed}
use Rattle.model.specs.Request.{Change, filter, withdraw, choose_several, Instance}
use Rattle.model.specs.Fault.{first_fault, refusal, faults_on}
use Rattle.live.specs.Words.{WordArray}
use Rattle.layout.specs.declared.Shape.{Shape}
use Rattle.layout.specs.Shape.{relations_of, instance_of}
use Rattle.layout.specs.Setting.{Lists, Setting, network, instance_in, listed, Sound}
use Rattle.request.specs.declared.checks.Opening.{Opening}
use Rattle.request.specs.declared.plan.Plan.{Plan}
use Rattle.request.specs.declared.removal.Ids.{Ids}
use Rattle.request.specs.declared.choices.Choices.{Choices}
use Rattle.request.specs.Checks.{Opened}
use Rattle.request.specs.Removal.{IdsOf, Holds, removed_by}
use Rattle.request.specs.Choices.{ChoicesOf}

-- the lists of an instance, with these starts
abbrev pub setting_of : List ℕ → Instance → Setting
setting_of starts I =
    record {
      lists = record { variables = I.network.variables; values = I.network.values; starts = starts };
      members = I.members;
      m = I.m;
    }

-- The setting is the instance, and has no fault; there are words and numbers enough for it.
pub record Sufficient (G : Setting) (I : Instance) (words numbers : ℕ) : Type 0 where
  pub same : instance_in G ≡ I
  pub sound : Sound G
  pub enough : total (network G) ≤ word_bits * words
  pub short : needed (network G) (listed G) ≤ max_support_numbers
  pub room : needed (network G) (listed G) ≤ numbers

-- .. and the plan's words hold the ids of its tuples that the change removes
pub record Clear (p : Plan) (I : Instance) (words numbers : ℕ) (change : Change) : Type 0 where
  pub sufficient : Sufficient (setting_of p.starts I) I words numbers
  pub full : WordArray p.removed
  pub holds : Holds p.removed (removed_by (network (setting_of p.starts I)) change)

-- The plan of a change on so many live words and support numbers, with counts that are wrong or not.
pub record Planned (p : Plan) (I : Instance) (words numbers : ℕ) (wrong : Bool) (change : Change) : Type 0 where
  pub fault : p.fault ≡ refusal (first_fault (faults_on I words numbers wrong change))
  pub clear : p.fault ≡ 0 → Clear p I words numbers change

-- the lists, with the starts of an opening
abbrev pub lists_from : Opening → List ℕ → List ℕ → Lists
lists_from o variables values = record { variables = variables; values = values; starts = o.starts }

-- an opening of every change call on these lists
abbrev pub Opens : Opening → Shape → List ℕ → List ℕ → ℕ → List ℕ → ℕ → ℕ → Bool → Type 0
Opens o S variables values m members words numbers wrong =
    Opened o (faults_on (instance_of S variables values m members) words numbers wrong filter) (relations_of S)

-- the plan of a change whose opening is o, whatever lists it opens
abbrev pub PlansFrom : Plan → Opening → Change → Type 0
PlansFrom p o change =
    (S : Shape) (variables values : List ℕ) (m : ℕ) (members : List ℕ) (words numbers : ℕ) (wrong : Bool) →
    Opens o S variables values m members words numbers wrong →
    Planned p (instance_of S variables values m members) words numbers wrong change

-- .. of the withdrawal of every list whose ids these are
abbrev pub PlansIds : Plan → Opening → Ids → Type 0
PlansIds p o r = (ids : List ℕ) → IdsOf r ids → PlansFrom p o (withdraw ids)

-- .. on these variables and values
abbrev pub PlansOn : Plan → Opening → List ℕ → List ℕ → Change → Type 0
PlansOn p o variables values change =
    (S : Shape) (m : ℕ) (members : List ℕ) (words numbers : ℕ) (wrong : Bool) →
    Opens o S variables values m members words numbers wrong →
    Planned p (instance_of S variables values m members) words numbers wrong change

-- .. of the choice of all pairs whose choices these are
abbrev pub PlansChoices : Plan → Opening → List ℕ → List ℕ → Choices → Type 0
PlansChoices p o variables values r = (xs vs : List ℕ) → ChoicesOf r xs vs → PlansOn p o variables values (choose_several xs vs)
