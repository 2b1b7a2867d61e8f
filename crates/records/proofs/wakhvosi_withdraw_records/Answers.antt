-- From the contract of `packed::withdraw`, and the law from the reply to the parts to the reply to the records.
use Rattle.model.specs.Request.{withdraw}
use Rattle.records.proofs.Replies.{replies-on}
use Rattle.records.proofs.wakhvosi_withdraw_records.Goals as goal

pub returns : goal.returns
returns c =
    let a = c.args in
    replies-on a.relations.now a.variables.now a.values.now a.m a.members.now a.words.now a.supports.now (withdraw c.args.ids.now) _ c.parts_of-parts.ensures c.withdraw-done.result _ _ c.withdraw-done.ensures c.write_back.result _ c.write_back.ensures
