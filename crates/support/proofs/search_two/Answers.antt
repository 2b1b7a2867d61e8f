-- The walk begins at the first live tuple, and where it stops the hard search goes on. From the laws of one member's turn.
use Rattle.std.proofs.Common.{◌%◌, arith, rules}
use mathlib.Core.Logic.{◌⊎◌}
use borrow.Author.Tests.{eq-eqb, ne_eqb}
use Rattle.support.proofs.Turn.{turn_on, span-asks, walk-asks, walk-forward, come-first, come-walked}
use Rattle.support.proofs.search_two.Goals as goal
use Rattle.support.proofs.search_two.Goals.{then-kind-eq-FOUND-via-then-kind-eq-FOUND, then-kind-eq-FOUND-via-else-kind-eq-FOUND+then-end-at}

pub span_of-span-requires : goal.span_of-span-requires
span_of-span-requires c = let A = c.requires.long.1 in span-asks _ c.args.k A.seeking.sound A.inside

pub next-from-requires : goal.next-from-requires
next-from-requires c =
    let T = turn_on c.requires.long.1 (search rules) (search rules) c.span_of-span.result c.span_of-span.ensures in
    walk-asks T c.span_of-span.result.start (omega arith) (walk-forward T)

pub walk_last-walked-requires-clause-walk_at : goal.walk_last-walked-requires-clause-walk_at
walk_last-walked-requires-clause-walk_at c =
    let T = turn_on c.requires.long.1 (search rules) (search rules) c.span_of-span.result c.span_of-span.ensures in
    (rw c.next-from.ensures (come-first T), c.requires.k_in_bounds.0)

pub returns-then-kind-eq-FOUND : goal.returns-then-kind-eq-FOUND
returns-then-kind-eq-FOUND c =
    let T = turn_on c.requires.long.1 (search rules) (search rules) c.span_of-span.result c.span_of-span.ensures in
    let w = c.walk_last-walked.result in
    come-walked T w c.walk_last-walked.ensures
    (elim c.then-kind-eq-FOUND.branch [
      | then-kind-eq-FOUND-via-then-kind-eq-FOUND u ↦ ◌⊎◌.inl (eq-eqb (w.kind % 2) 1 u.if-kind-eq-FOUND.true)
      | then-kind-eq-FOUND-via-else-kind-eq-FOUND+then-end-at u ↦ ◌⊎◌.inr (ne_eqb (w.kind % 2) 1 u.if-kind-eq-FOUND.false, u.if-end-at.true)
    ])
