-- Plans from what the checks find: of the faults that all change calls test, and of the change's own.
-- From the laws of the checks, and of two tables of faults.
use mathlib.Core.Path.{◌≡◌, sym, ap, ◌∙◌}
use mathlib.Core.Bool.{Bool}
use mathlib.Core.List.{List, [], ◌∷◌}
use Prim.Native.Nat.{ℕ}
use native.Mathlib.Decide.{ℕ_discrete}
use Rattle.model.specs.Request.{Change, filter, Instance}
use Rattle.model.specs.Fault.{first_fault, refusal, change_faults, list_faults, faults_on}
use Rattle.model.proofs.Fault.{first_fault-front, numbered-shared, refusal-shared, refusal-own, refusal-neither}
use Rattle.live.specs.Words.{WordArray}
use Rattle.layout.specs.declared.Shape.{Shape}
use Rattle.layout.specs.Shape.{relations_of, instance_of}
use Rattle.layout.specs.Setting.{Setting, network}
use Rattle.request.specs.declared.checks.Opening.{Opening}
use Rattle.request.specs.declared.plan.Plan.{Plan}
use Rattle.request.specs.Checks.{Opened}
use Rattle.request.specs.Removal.{Holds, removed_by}
use Rattle.request.specs.Plan.{setting_of, Sufficient, Planned, Opens}
use Rattle.request.proofs.Openings.{opened-none, tested-instance, tested-sound, tested-enough, checked-tested, checked-needed}

module _ (S : Shape) (variables values : List ℕ) (m : ℕ) (members : List ℕ) (words numbers : ℕ) (wrong : Bool) (change : Change) (o : Opening) (opened : Opens o S variables values m members words numbers wrong) where
  abbrev I : Instance
  I = instance_of S variables values m members

  abbrev pub G : Setting
  G = setting_of o.starts I

  -- the change's own fault
  abbrev own : ℕ
  own = refusal (first_fault (change_faults I.network change))

  -- without fault there is none of 2 to 12
  opened-listed : o.fault ≡ 0 → Opened o (list_faults I words numbers) (relations_of S)
  unfolding faults_on
  opened-listed none =
      record {
        fault = none ∙ sym (ap refusal (first_fault-front (list_faults I words numbers) ((18, wrong) ∷ []) (opened-none o (faults_on I words numbers wrong filter) (relations_of S) opened (numbered-shared I words numbers wrong) none)));
        starts = opened.starts;
      }

  pub opened-sufficient : o.fault ≡ 0 → Sufficient G I words numbers
  opened-sufficient none =
      let listed = opened-listed none in
      let tested = checked-tested S variables values m members words o none numbers listed in
      let needs = checked-needed S variables values m members words o none numbers listed in
      record {
        same = tested-instance S variables values m members words o none tested;
        sound = tested-sound S variables values m members words o none tested;
        enough = tested-enough S variables values m members words o none tested;
        short = needs.0;
        room = needs.1;
      }

  abbrev plan : ℕ → List ℕ → Plan
  plan f removed = record { fault = f; starts = o.starts; removed = removed }

  -- a fault that all change calls test
  pub planned-shared : (removed : List ℕ) → (o.fault ≡ 0 → ⊥) → Planned (plan o.fault removed) I words numbers wrong change
  planned-shared removed d =
      record { fault = sym (ap refusal (refusal-shared I words numbers wrong change o.fault opened.fault d)); clear = λ z. absurd (d z) }

  -- .. or none of these: the change's own fault, or the ids that it removes
  module _ (none : o.fault ≡ 0) (f : ℕ) (e : f ≡ own) where
    shared : 0 ≡ refusal (first_fault (faults_on I words numbers wrong filter))
    shared = sym none ∙ opened.fault

    number : Dec (f ≡ 0) → f ≡ refusal (first_fault (faults_on I words numbers wrong change))
    number (yes z) = z ∙ sym (ap refusal (refusal-neither I words numbers wrong change shared (sym z ∙ e)))
    number (no d) = sym (ap refusal (refusal-own I words numbers wrong change shared f e d))

    pub planned-own : (removed : List ℕ) → (f ≡ 0 → WordArray removed × Holds removed (removed_by (network G) change)) → Planned (plan f removed) I words numbers wrong change
    planned-own removed held =
        record {
          fault = number (ℕ_discrete f 0);
          clear = λ z. record { sufficient = opened-sufficient none; full = (held z).0; holds = (held z).1 };
        }
