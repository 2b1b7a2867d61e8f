-- `packed::withdraw` lends the counts of the first relations to `changes::withdraw`, and packs its answer.
-- From what both ensure, and that the numbers of a reply are read back from their bits.
use Rattle.std.proofs.Common.{◌≡◌, length, take, rules}
use Rattle.model.specs.Limits.{max_relations}
use Rattle.model.specs.Request.{withdraw}
use Rattle.layout.specs.Shape.{instance_of}
use Rattle.encoding.proofs.Packed.{replied-subject}
use Rattle.records.proofs.Packing.{done-reply}
use Rattle.records.proofs.packed.withdraw.Goals as goal

pub done-requires : goal.done-requires
done-requires c = replied-subject _ _ c.withdraw-a.ensures

pub returns : goal.returns
returns c =
    let a = c.args in
    let room : length a.parts.live ≡ max_relations = search rules in
    let back : length c.withdraw-a.new.counts ≡ length (take c.at_most_64-n.result a.parts.live) = search rules in
    done-reply a.parts c.at_most_64-n.result c.at_most_64-n.ensures room (instance_of a.parts.shape a.variables.now a.values.now a.m a.members.now) a.words.now a.supports.now c.withdraw-a.new.words c.withdraw-a.new.supports c.withdraw-a.new.counts (withdraw c.args.ids.now)
    c.withdraw-a.result c.done.result c.withdraw-a.ensures back c.done.ensures
