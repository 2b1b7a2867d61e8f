-- `gather_others` goes from member to member: what agrees with fresh tuples of those before is gathered.
use Rattle.layout.specs.Setting.{network_in}
use Rattle.spreading.proofs.Meeting.{Through}
use Rattle.spreading.proofs.fresh.gather_others.Given as goal

abbrev pub invariant-loop-i : goal.invariant-loop-i
invariant-loop-i l =
    Through (network_in (record { variables = l.variables; values = l.values; starts = l.starts })) l.members l.place l.j l.fresh l.words l.initial.sum l.sum l.i
