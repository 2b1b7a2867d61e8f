-- `narrow_to_fresh` goes from member to member: what is narrowed so far keeps every support.
use Rattle.layout.specs.Setting.{network_in}
use Rattle.narrowing.specs.Narrows.{Long}
use Rattle.spreading.specs.Spread.{KeepsSupports}
use Rattle.spreading.proofs.fresh.narrow_to_fresh.Given as goal

abbrev pub invariant-loop-j : goal.invariant-loop-j
invariant-loop-j l =
    record {
      long : Long l.words;
      keeps : KeepsSupports (network_in (record { variables = l.variables; values = l.values; starts = l.starts })) l.members l.place 0 l.initial.words l.words;
    }
