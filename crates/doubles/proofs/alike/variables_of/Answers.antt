-- `variables_of` hands `mask_of` the part of the list where the scope lies.
-- From the laws of places and of scopes.
use Rattle.std.proofs.Common.{◌≡◌, ap, ap₂, ◌∙◌, ℕ, ◌+◌, ◌-◌, ◌<◌, take, drop, arith}
use lib.Dec.{ltb}
use Rattle.model.specs.Limits.{max_relations, variable_count}
use Rattle.model.specs.Lists.{all, elem}
use Rattle.model.specs.Network.{scope_of}
use Rattle.layout.specs.Starts.{variable_start}
use Rattle.layout.specs.Setting.{Lists, network_in, SoundLists}
use Rattle.layout.proofs.SoundStarts.{relations-few, scope-rises}
use Rattle.layout.proofs.Places.{scope-within, scope-is}
use Rattle.combination.proofs.Found.{scope-variables}
use Rattle.doubles.proofs.alike.variables_of.Goals as goal

part-is : (L : Lists) → (laid : SoundLists L) → (r a e : ℕ) → r < max_relations → a ≡ variable_start L.starts r → e ≡ variable_start L.starts (r + 1) → take (e - a) (drop a L.variables) ≡ scope_of (network_in L) r
part-is L laid r a e few p q = ap₂ (λ (n k : ℕ). take (n - k) (drop k L.variables)) q p ∙ scope-is laid r few

few : (c : goal.After-variable_start-scope_end) → c.args.r < max_relations
few c = omega (arith, relations-few c.requires.0.framed)

pub slice_bounds-mask_of-count : goal.slice_bounds-mask_of-count
slice_bounds-mask_of-count c = omega (arith, scope-rises c.requires.0.framed c.args.r (few c))

pub slice_bounds-mask_of-start : goal.slice_bounds-mask_of-start
slice_bounds-mask_of-start c = omega (arith, scope-rises c.requires.0.framed c.args.r (few c))

pub slice_bounds-mask_of-end : goal.slice_bounds-mask_of-end
slice_bounds-mask_of-end c = omega (arith, scope-within c.requires.0 c.args.r (few c))

pub mask_of-requires : goal.mask_of-requires
mask_of-requires c =
    ap (all (λ (x : ℕ). ltb x variable_count)) (part-is _ c.requires.0 c.args.r _ _ (omega (arith, relations-few c.requires.0.framed)) c.variable_start-scope.ensures.0 c.variable_start-scope_end.ensures.0)
    ∙ scope-variables c.requires.0 c.args.r c.requires.1

pub returns : goal.returns
returns c v =
    c.mask_of.ensures v
    ∙ ap (elem v) (part-is _ c.requires.0 c.args.r _ _ (omega (arith, relations-few c.requires.0.framed)) c.variable_start-scope.ensures.0 c.variable_start-scope_end.ensures.0)
