-- The facts of a shape without fault, with starts that are its own.
-- From the bridge from no fault to the facts.
use mathlib.Core.Path.{◌≡◌, sym, ap, subst, ◌∙◌}
use mathlib.Core.Option.{none}
use mathlib.Core.List.{List}
use Prim.Native.Nat.{ℕ}
use Rattle.model.specs.Limits.{max_relations}
use Rattle.model.specs.Network.{Network, total}
use Rattle.model.specs.Combination.{Combination}
use Rattle.model.specs.Consistency.{needed}
use Rattle.model.specs.Fault.{first_fault, network_faults, combination_faults}
use Rattle.layout.specs.declared.Shape.{Shape}
use Rattle.layout.specs.Shape.{relations_of, network_of, instance_of}
use Rattle.layout.specs.Starts.{tuple_start, starts_of, outline}
use Rattle.layout.specs.Setting.{Lists, network_in, SoundLists, SoundPairs, Sound}
use Rattle.layout.proofs.SoundStarts.{tuple-count}
use Rattle.layout.proofs.Outline.{needed-outline}
use Rattle.layout.proofs.Bridge.{network-is, laid_of, paired-of}

-- ---- A shape without the faults 2 to 6, with its starts

module _ (S : Shape) (variables values starts : List ℕ) (e : starts ≡ starts_of (relations_of S)) (sound : first_fault (network_faults (network_of S variables values)) ≡ none) where
  abbrev pub opened : Lists
  opened = record { variables = variables; values = values; starts = starts }

  pub opened-network : network_in opened ≡ network_of S variables values
  opened-network =
      ap (λ (xs : List ℕ). network_in (record { variables = variables; values = values; starts = xs })) e ∙ network-is S variables values sound

  pub opened-laid : SoundLists opened
  opened-laid =
      subst (λ (xs : List ℕ). SoundLists (record { variables = variables; values = values; starts = xs })) (sym e) (laid_of S variables values sound)

  pub opened-total : tuple_start starts max_relations ≡ total (network_of S variables values)
  opened-total = tuple-count opened-laid.framed ∙ ap total opened-network

  pub opened-needed : (cs : List Combination) → needed (outline starts) cs ≡ needed (network_of S variables values) cs
  opened-needed cs = needed-outline opened cs ∙ ap (λ (N : Network). needed N cs) opened-network

  module _ (m : ℕ) (members : List ℕ) where
    pub opened-instance : record { network = network_in opened; m = m; members = members } ≡ instance_of S variables values m members
    opened-instance = ap (λ (N : Network). record { network = N; m = m; members = members }) opened-network

    -- .. and without the faults 7 to 9
    module _ (fine : first_fault (combination_faults (instance_of S variables values m members)) ≡ none) where
      pub opened-paired : SoundPairs starts m members
      opened-paired = paired-of (instance_of S variables values m members) fine starts (ap (λ (N : Network). N.relations) opened-network)

      pub opened-sound : Sound (record { lists = opened; members = members; m = m })
      opened-sound = record { laid = opened-laid; paired = opened-paired }
