-- The scopes of a network without fault 6.
use Rattle.std.specs.Prelude.{Bool, ℕ, length}
use Rattle.model.specs.Lists.{from, all}
use Rattle.model.specs.Network.{Network, scope_of}
use Rattle.model.specs.Fault.{proper_scope}

-- every relation's scope is proper
abbrev pub proper_scopes : Network → Bool
proper_scopes N = all (λ (r : ℕ). proper_scope (scope_of N r)) (from 0 (length N.relations))
