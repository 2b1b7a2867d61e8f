-- The first i pairs are added.
use Rattle.request.proofs.Pairs.{Paired}
use Rattle.wire.specs.Entries.{entries16, entries32}
use Rattle.encoding.proofs.choices.choices_at.Given as goal

abbrev pub invariant-loop-i : goal.invariant-loop-i
invariant-loop-i l = Paired (entries16 l.questions) (entries32 l.codes) l.firsts l.seconds l.bound l.i
