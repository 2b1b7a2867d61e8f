use Rattle.std.proofs.Common.{◌<◌, [], ◌∷◌, length, sym, ap, ◌∙◌, arith, length-append}
use Rattle.std.specs.Slice.Iter.{chunks_exact_rest}
use Rattle.model.specs.Lists.{all}
use Rattle.model.specs.Combination.{combinations}
use Rattle.network.proofs.Walk.{all-passes, all-fails, all-ends}
use Rattle.model.proofs.Lists.{all_get_d}
use Rattle.combination.specs.Masks.{connected_in, known}
use Rattle.combination.proofs.Members.{comes, none_comes}
use Rattle.combination.proofs.all_connected.Goals as goal

pub connected-requires : goal.connected-requires
connected-requires c =
    let k = length c.loop-c.yielded in
    let next = comes c.args.m k c.args.members.now (omega arith) _ c.in-Some.c.now (chunks_exact_rest c.next.new.self) c.loop-c.invariant.rest c.in-Some.ensures.steps.1.0 (c.in-Some.ensures.steps.1.1 ∙ c.loop-c.invariant.size) in
    ap (all (known c.args.masks.now)) (sym next.is) ∙ all_get_d (all (known c.args.masks.now)) (combinations c.args.m c.args.members.now) k [] c.requires.members_value next.below

pub returns-then-not-connected : goal.returns-then-not-connected
returns-then-not-connected c =
    let k = length c.loop-c.yielded in
    let next = comes c.args.m k c.args.members.now (omega arith) _ c.in-Some.c.now (chunks_exact_rest c.next.new.self) c.loop-c.invariant.rest c.in-Some.ensures.steps.1.0 (c.in-Some.ensures.steps.1.1 ∙ c.loop-c.invariant.size) in
    sym (all-fails (connected_in c.args.masks.now) (combinations c.args.m c.args.members.now) k [] next.below (ap (connected_in c.args.masks.now) next.is ∙ sym c.connected.ensures ∙ c.if-not-connected.true)) ∙ c.loop-c.invariant.left

pub loop-c-preserved : goal.loop-c-preserved
loop-c-preserved c =
    let k = length c.loop-c.yielded in
    let next = comes c.args.m k c.args.members.now (omega arith) _ c.in-Some.c.now (chunks_exact_rest c.next.new.self) c.loop-c.invariant.rest c.in-Some.ensures.steps.1.0 (c.in-Some.ensures.steps.1.1 ∙ c.loop-c.invariant.size) in
    rw (length-append c.loop-c.yielded (c.in-Some.c ∷ []))
    (record {
      rest = next.left_is;
      size = c.in-Some.ensures.steps.0 ∙ c.loop-c.invariant.size;
      left = sym (all-passes (connected_in c.args.masks.now) (combinations c.args.m c.args.members.now) k [] next.below (ap (connected_in c.args.masks.now) next.is ∙ sym c.connected.ensures ∙ c.if-not-connected.false)) ∙ c.loop-c.invariant.left;
    })

pub returns : goal.returns
returns c =
    let k = length c.loop-c.yielded in
    let short : length (chunks_exact_rest c.loop-c.c-iterator) < c.args.m = omega (arith, c.in-None.ensures.steps.1.0, c.loop-c.invariant.size) in
    sym (all-ends (connected_in c.args.masks.now) (combinations c.args.m c.args.members.now) k (none_comes c.args.m k c.args.members.now (omega arith) (chunks_exact_rest c.loop-c.c-iterator) c.loop-c.invariant.rest short)) ∙ c.loop-c.invariant.left
