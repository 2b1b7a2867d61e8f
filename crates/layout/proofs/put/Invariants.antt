-- x is put where its place is passed.
use Rattle.std.proofs.Common.{◌≡◌, set, nat_lt, cond}
use Rattle.layout.proofs.put.Given as goal

abbrev pub invariant-loop-j : goal.invariant-loop-j
invariant-loop-j l = l.place-items ≡ cond (nat_lt l.k l.j) (set l.fn.numbers l.k l.x) l.fn.numbers
