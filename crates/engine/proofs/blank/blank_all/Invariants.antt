-- The dead tuples of the pairs before `p` have their numbers.
use Rattle.layout.specs.Starts.{outline}
use Rattle.engine.specs.Blank.{Blanked}
use Rattle.engine.proofs.blank.blank_all.Given as goal

abbrev pub invariant-loop-p : goal.invariant-loop-p
invariant-loop-p l = Blanked (outline l.starts) l.m l.members l.p l.words l.initial.numbers l.numbers
