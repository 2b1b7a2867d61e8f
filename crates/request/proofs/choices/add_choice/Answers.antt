use Rattle.std.proofs.Common.{arith}
use Rattle.request.specs.Choices.{ChoiceAdded}
use Rattle.request.proofs.Removed.{above-max}
use Rattle.request.proofs.Pairs.{choice-kept, choice-outside}
use Rattle.request.proofs.choices.add_choice.Goals as goal
use Rattle.request.proofs.choices.add_choice.Goals.{then-at-lt-VARIABLES, else-at-lt-VARIABLES}

pub returns : goal.returns
returns c =
    let a = c.args in
    let k = c.wide-at.result in
    let e = c.wide-at.ensures.0 in
    let fs = c.if-at-lt-VARIABLES.firsts in
    let ss = c.if-at-lt-VARIABLES.seconds in
    let added : ChoiceAdded a.firsts.now a.seconds.now a.x a.v fs ss =
    elim c.if-at-lt-VARIABLES.branch [
      | then-at-lt-VARIABLES w ↦ choice-kept a.firsts.now a.seconds.now a.x a.v k w.joined-both.result fs ss e (omega arith) (omega arith) w.joined-both.ensures w.firsts-is w.seconds-is
      | else-at-lt-VARIABLES w ↦ choice-outside a.firsts.now a.seconds.now a.x a.v fs ss (omega arith) w.firsts-is w.seconds-is
    ] in
    (added, above-max a.bound a.x c.max.result (omega arith))
