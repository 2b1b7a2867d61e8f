-- From what the change, the stores and the packing ensure.
use Rattle.std.proofs.Common.{ap, arith}
use Rattle.model.specs.LiveWords.{is_live}
use Rattle.model.specs.Reply.{Reply}
use Rattle.layout.specs.Setting.{instance_in}
use Rattle.byte_calls.specs.Planned.{setting_for}
use Rattle.byte_calls.proofs.Calls.{changed-subject}
use Rattle.byte_calls.proofs.change.write_change.Goals as goal

pub pack-requires : goal.pack-requires
pack-requires c =
    let a = c.args in
    omega (
      arith,
      ap (λ (r : Reply). r.answer.subject) c.change-a.ensures,
      changed-subject (instance_in (setting_for a.plan a.variables.now a.values.now a.m a.members.now)) (is_live a.plan.removed) a.words.now a.numbers.now c.requires.ready.sound.laid.framed.bounded.relations,
    )
