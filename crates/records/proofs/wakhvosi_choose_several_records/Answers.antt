-- From the contract of `packed::choose_several`, and the law from the reply to the parts to the reply to the records.
use Rattle.model.specs.Request.{choose_several}
use Rattle.records.proofs.Replies.{replies-on}
use Rattle.records.proofs.wakhvosi_choose_several_records.Goals as goal

pub returns : goal.returns
returns c =
    let a = c.args in
    replies-on a.relations.now a.variables.now a.values.now a.m a.members.now a.words.now a.supports.now (choose_several c.args.xs.now c.args.vs.now) _ c.parts_of-parts.ensures c.choose_several-done.result _ _ c.choose_several-done.ensures c.write_back.result _ c.write_back.ensures
