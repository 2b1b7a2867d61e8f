-- From the contracts of `layout::tuple_start` and `live::is_live`, and the law of the first number from k on.
use Rattle.std.proofs.Common.{◌≡◌, true, false, ◌+◌, ◌-◌, get_or, sym, ap, ◌∙◌, arith}
use Rattle.model.specs.LiveWords.{is_live}
use Rattle.model.proofs.Lists.{from_cons}
use Rattle.worklist.specs.Supports.{is_chosen_live}
use Rattle.worklist.proofs.list.all_live.Goals as goal

pub returns-then-not-is_live : goal.returns-then-not-is_live
returns-then-not-is_live c =
    let a = c.args in
    let dead : is_chosen_live a.words.now a.starts.now a.members.now a.base a.tuples c.loop-k.k ≡ false =
    ap (λ g. is_live a.words.now (g + get_or a.tuples c.loop-k.k 0)) (sym c.tuple_start-first.ensures)
    ∙ sym c.is_live.ensures
    ∙ c.if-not-is_live.true
    in
    rw (from_cons c.loop-k.k a.m c.loop-k-test.true, dead) at c.loop-k.invariant

pub loop-k-preserved : goal.loop-k-preserved
loop-k-preserved c =
    let a = c.args in
    let alive : is_chosen_live a.words.now a.starts.now a.members.now a.base a.tuples c.loop-k.k ≡ true =
    ap (λ g. is_live a.words.now (g + get_or a.tuples c.loop-k.k 0)) (sym c.tuple_start-first.ensures)
    ∙ sym c.is_live.ensures
    ∙ c.if-not-is_live.false
    in
    rw (from_cons c.loop-k.k a.m c.loop-k-test.true, alive) at c.loop-k.invariant

pub returns : goal.returns
returns c =
    let e : c.args.m - c.loop-k.k ≡ 0 = omega arith in
    rw e at c.loop-k.invariant
