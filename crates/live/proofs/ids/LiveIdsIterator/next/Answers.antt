-- The next live id is at or behind the place where the search begins, and at or before its end.
use Rattle.std.proofs.Common.{arith}
use Rattle.live.proofs.ids.LiveIdsIterator.next.Goals as goal
use Rattle.model.proofs.LiveWords.{next_live-first}

pub overflow_add-self : goal.overflow_add-self
overflow_add-self c =
    let s = c.args.self.now in
    omega (arith, s.inside, next_live-first s.words.now s.at s.end s.inside.rises)

pub invariant_of-self : goal.invariant_of-self
invariant_of-self c =
    let s = c.args.self.now in
    let found = next_live-first s.words.now s.at s.end s.inside.rises in
    record { inside = record { rises = omega (arith, found); long = s.inside.long; few = s.inside.few } }

pub returns-clause-goes : goal.returns-clause-goes
returns-clause-goes c =
    let s = c.args.self.now in
    omega (arith, next_live-first s.words.now s.at s.end s.inside.rises)
