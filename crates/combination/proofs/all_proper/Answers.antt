use Rattle.std.proofs.Common.{◌<◌, [], ◌∷◌, length, sym, ap, ◌∙◌, arith, length-append}
use Rattle.std.specs.Slice.Iter.{chunks_exact_rest}
use Rattle.model.specs.Combination.{combinations}
use Rattle.network.proofs.Walk.{all-passes, all-fails, all-ends}
use Rattle.combination.specs.Proper.{proper}
use Rattle.combination.proofs.Members.{comes, none_comes}
use Rattle.combination.proofs.all_proper.Goals as goal

pub returns-then-not-proper : goal.returns-then-not-proper
returns-then-not-proper c =
    let k = length c.loop-c.yielded in
    let next = comes c.args.m k c.args.members.now (omega arith) _ c.in-Some.c.now (chunks_exact_rest c.next.new.self) c.loop-c.invariant.rest c.in-Some.ensures.steps.1.0 (c.in-Some.ensures.steps.1.1 ∙ c.loop-c.invariant.size) in
    sym (all-fails (proper c.args.count) (combinations c.args.m c.args.members.now) k [] next.below (ap (proper c.args.count) next.is ∙ sym c.proper.ensures ∙ c.if-not-proper.true)) ∙ c.loop-c.invariant.left

pub loop-c-preserved : goal.loop-c-preserved
loop-c-preserved c =
    let k = length c.loop-c.yielded in
    let next = comes c.args.m k c.args.members.now (omega arith) _ c.in-Some.c.now (chunks_exact_rest c.next.new.self) c.loop-c.invariant.rest c.in-Some.ensures.steps.1.0 (c.in-Some.ensures.steps.1.1 ∙ c.loop-c.invariant.size) in
    rw (length-append c.loop-c.yielded (c.in-Some.c ∷ []))
    (record {
      rest = next.left_is;
      size = c.in-Some.ensures.steps.0 ∙ c.loop-c.invariant.size;
      left = sym (all-passes (proper c.args.count) (combinations c.args.m c.args.members.now) k [] next.below (ap (proper c.args.count) next.is ∙ sym c.proper.ensures ∙ c.if-not-proper.false)) ∙ c.loop-c.invariant.left;
    })

pub returns : goal.returns
returns c =
    let k = length c.loop-c.yielded in
    let short : length (chunks_exact_rest c.loop-c.c-iterator) < c.args.m = omega (arith, c.in-None.ensures.steps.1.0, c.loop-c.invariant.size) in
    sym (all-ends (proper c.args.count) (combinations c.args.m c.args.members.now) k (none_comes c.args.m k c.args.members.now (omega arith) (chunks_exact_rest c.loop-c.c-iterator) c.loop-c.invariant.rest short)) ∙ c.loop-c.invariant.left
