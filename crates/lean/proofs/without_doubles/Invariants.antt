-- `without_doubles` goes from member to member: the words are lean so far.
use Rattle.lean.specs.Lean.{LeanFrom}
use Rattle.lean.proofs.without_doubles.Given as goal

abbrev pub invariant-loop-j : goal.invariant-loop-j
invariant-loop-j l = LeanFrom (record { variables = l.variables; values = l.values; starts = l.starts }) l.members l.place l.initial.words l.words
