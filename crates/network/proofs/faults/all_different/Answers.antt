use Rattle.std.proofs.Common.{◌≡◌, ℕ, sym, ap, ◌∙◌, ◌+◌, arith, nat_eq, slice_index_or, drop, not}
use Rattle.std.specs.List.{list_any}
use Rattle.std.proofs.lemmas.Grind.{common_steps}
use Rattle.model.specs.Fault.{different}
use Rattle.network.proofs.Walk.{all-different, pairwise-passes, pairwise-fails}
use Rattle.network.proofs.faults.all_different.Goals as goal

pub returns-then-contains : goal.returns-then-contains
returns-then-contains c =
    let x = slice_index_or c.args.scope.now c.loop-i.i 0 in
    let rest = drop (c.loop-i.i + 1) c.args.scope.now in
    let found : c.contains.result ≡ list_any (λ (y : ℕ). nat_eq y x) rest = grind (arith, common_steps) in
    sym (pairwise-fails different c.args.scope.now c.loop-i.i 0 (omega arith) (all-different x rest ∙ ap not (sym found ∙ c.if-contains.true)))
    ∙ c.loop-i.invariant

pub loop-i-preserved : goal.loop-i-preserved
loop-i-preserved c =
    let x = slice_index_or c.args.scope.now c.loop-i.i 0 in
    let rest = drop (c.loop-i.i + 1) c.args.scope.now in
    let found : c.contains.result ≡ list_any (λ (y : ℕ). nat_eq y x) rest = grind (arith, common_steps) in
    sym (pairwise-passes different c.args.scope.now c.loop-i.i 0 (omega arith) (all-different x rest ∙ ap not (sym found ∙ c.if-contains.false)))
    ∙ c.loop-i.invariant
