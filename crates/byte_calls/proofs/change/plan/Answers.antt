-- From what the four plans ensure.
use Rattle.wire.specs.Entries.{entries16, entries32}
use Rattle.byte_calls.specs.Call.{change_in}
use Rattle.byte_calls.proofs.change.plan.Goals as goal

pub returns-in-Filter : goal.returns-in-Filter
unfolding change_in
returns-in-Filter c = rw c.in-Filter.is (λ S m members. c.plan_filter.ensures S c.args.variables.now c.args.values.now m members)

pub returns-in-Withdraw : goal.returns-in-Withdraw
unfolding change_in
returns-in-Withdraw c =
    rw c.in-Withdraw.is (λ S m members. c.plan_withdraw.ensures (entries16 c.args.listed.now) c.ids_at.ensures S c.args.variables.now c.args.values.now m members)

pub returns-in-Choose : goal.returns-in-Choose
unfolding change_in
returns-in-Choose c = rw c.in-Choose.is c.plan_choose.ensures

pub returns-in-ChooseSeveral : goal.returns-in-ChooseSeveral
unfolding change_in
returns-in-ChooseSeveral c =
    rw c.in-ChooseSeveral.is (c.plan_choose_several.ensures (entries16 c.args.listed.now) (entries32 c.args.chosen.now) c.choices_at.ensures)
