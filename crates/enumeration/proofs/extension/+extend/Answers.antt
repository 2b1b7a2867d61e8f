-- One relation after the other is chosen, and completed. From the laws of completions and of lists that combinations are added to.
use Rattle.std.proofs.Common.{◌++◌, sym, ◌∙◌, ℕ, ◌+◌, arith, rules}
use Rattle.enumeration.specs.Stage.{extensions}
use Rattle.enumeration.proofs.Added.{Going, going_next, going-over, going_end}
use Rattle.enumeration.proofs.Extending.{extensions-end, extensions-shut, extensions-next}
use Rattle.enumeration.proofs.extension.+extend.Goals as goal
use Rattle.enumeration.proofs.extension.+extend.Goals.{After-extend-n}

-- those with relation r, and those without it
ahead : (t : ℕ) (c : After-extend-n t) → let a = c.args in let l = c.loop-r in Going a.m (extensions a.near.now c.joined-more.result c.put.result a.m (a.k + 1) (l.r + 1) a.count ++ extensions a.near.now a.sets.now a.members a.m a.k (l.r + 1) a.count) (extensions a.near.now a.sets.now a.members a.m a.k a.from a.count) a.found a.list.now l.n l.list
ahead t c =
    let a = c.args in
    rw c.put.ensures
    (rw (extensions-next a.near.now a.sets.now a.members a.m a.k a.count c.loop-r.r c.joined-more.result (omega arith) (search rules) (omega arith) (rw c.wide.ensures.0 at c.joined-more.ensures)) at c.loop-r.invariant)

pub returns-then-not-extendable : goal.returns-then-not-extendable
returns-then-not-extendable t c =
    let a = c.args in
    going_end a.m (rw (extensions-shut a.near.now a.sets.now a.members a.m a.k a.count (omega arith) c.loop-r.r (sym c.extendable.ensures ∙ c.if-not-extendable.true)) at c.loop-r.invariant)

pub returns-then-wide-gt-MAX_COMBINATIONS : goal.returns-then-wide-gt-MAX_COMBINATIONS
returns-then-wide-gt-MAX_COMBINATIONS t c = going-over c.args.m _ _ (ahead t (goal.at.returns-then-wide-gt-MAX_COMBINATIONS t c).After-extend-n) c.extend-n.ensures (omega arith)

pub loop-r-preserved : goal.loop-r-preserved
loop-r-preserved t c = going_next c.args.m _ _ (ahead t (goal.at.loop-r-preserved t c).After-extend-n) c.extend-n.ensures (omega arith)

pub returns : goal.returns
returns t c =
    let a = c.args in
    going_end a.m (rw (extensions-end a.near.now a.sets.now a.members a.m a.k a.count (omega arith) c.loop-r.r (omega arith)) at c.loop-r.invariant)
