use Rattle.std.proofs.Common.{◌≡◌, ◌-◌, ◌<◌, length, take, drop, ap, ◌∙◌, arith}
use Rattle.model.specs.Limits.{max_relations}
use Rattle.model.specs.Lists.{elem}
use Rattle.model.specs.Network.{scope_of}
use Rattle.layout.specs.Starts.{records_in}
use Rattle.layout.specs.Setting.{lists, network_in}
use Rattle.layout.proofs.SoundStarts.{relations-few, relation-count, scope-rises}
use Rattle.layout.proofs.Places.{scope-within, scope-is}
use Rattle.combination.proofs.Found.{found-start, found-next, found-end, scope-variables}
use Rattle.combination.proofs.masks.Goals as goal

pub loop-r-init : goal.loop-r-init
loop-r-init c = found-start (lists (λ x. x.now) c.args.variables c.args.values c.args.starts)

pub variable_start-scope_end-requires : goal.variable_start-scope_end-requires
variable_start-scope_end-requires c = omega (arith, relation-count c.requires.framed, relations-few c.requires.framed)

pub slice_bounds-mask_of-count : goal.slice_bounds-mask_of-count
slice_bounds-mask_of-count c = omega (arith, relation-count c.requires.framed, relations-few c.requires.framed, scope-rises c.requires.framed c.loop-r.r)

pub slice_bounds-mask_of-start : goal.slice_bounds-mask_of-start
slice_bounds-mask_of-start c = omega (arith, relation-count c.requires.framed, relations-few c.requires.framed, scope-rises c.requires.framed c.loop-r.r)

pub slice_bounds-mask_of-end : goal.slice_bounds-mask_of-end
slice_bounds-mask_of-end c = omega (arith, relation-count c.requires.framed, relations-few c.requires.framed, scope-within c.requires c.loop-r.r)

pub mask_of-requires : goal.mask_of-requires
mask_of-requires c =
    let exists : c.loop-r.r < length (records_in c.args.starts.now) = omega (arith, relation-count c.requires.framed) in
    let few : c.loop-r.r < max_relations = omega (arith, exists, relations-few c.requires.framed) in
    rw (c.variable_start-scope.ensures.0, c.variable_start-scope_end.ensures.0, scope-is c.requires c.loop-r.r few) (scope-variables c.requires c.loop-r.r exists)

pub bounds-sets-wide : goal.bounds-sets-wide
bounds-sets-wide c = omega (arith, relation-count c.requires.framed, relations-few c.requires.framed)

pub loop-r-preserved : goal.loop-r-preserved
loop-r-preserved c =
    let exists : c.loop-r.r < length (records_in c.args.starts.now) = omega (arith, relation-count c.requires.framed) in
    let few : c.loop-r.r < max_relations = omega (arith, exists, relations-few c.requires.framed) in
    let part : take (c.variable_start-scope_end.result - c.variable_start-scope.result) (drop c.variable_start-scope.result c.args.variables.now) ≡ scope_of (network_in (lists (λ x. x.now) c.args.variables c.args.values c.args.starts)) c.loop-r.r =
    rw (c.variable_start-scope.ensures.0, c.variable_start-scope_end.ensures.0) (scope-is c.requires c.loop-r.r few) in
    rw c.wide.ensures.0 (found-next c.requires c.loop-r.r c.loop-r.sets c.loop-r.invariant c.mask_of.result exists (λ x. c.mask_of.ensures x ∙ ap (elem x) part))

pub returns : goal.returns
returns c = found-end c.requires c.loop-r.r c.loop-r.sets c.loop-r.invariant (omega (arith, relation-count c.requires.framed))
