-- `spread_members` goes step by step: what is narrowed so far keeps every support.
use Rattle.layout.specs.Setting.{network_in}
use Rattle.narrowing.specs.Narrows.{Long}
use Rattle.spreading.specs.Spread.{KeepsSupports}
use Rattle.spreading.proofs.spread_members.Given as goal

abbrev pub invariant-loop-left : goal.invariant-loop-left
invariant-loop-left l =
    record {
      long : Long l.words;
      keeps : KeepsSupports (network_in (record { variables = l.variables; values = l.values; starts = l.starts })) l.members l.place l.from l.initial.words l.words;
    }

abbrev pub decreases-loop-left : goal.decreases-loop-left
decreases-loop-left l = l.left
