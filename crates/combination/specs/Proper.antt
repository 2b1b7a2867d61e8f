-- A combination whose members exist and rise, by the number of relations.
use Rattle.std.specs.Prelude.{Bool, ◌&&◌, ℕ, ltb}
use Rattle.model.specs.Lists.{all, pairwise}
use Rattle.model.specs.Combination.{Combination}

-- every member is a number below count
abbrev pub below : ℕ → Combination → Bool
below count c = all (λ (r : ℕ). ltb r count) c

-- the model's test of a combination's members, where there are count relations
abbrev pub proper : ℕ → Combination → Bool
proper count c = below count c && pairwise ltb c
