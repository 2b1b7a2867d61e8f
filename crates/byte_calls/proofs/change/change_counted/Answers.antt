-- From what its parts ensure, and the laws from an opening and a plan to the reply.
use Rattle.std.proofs.Common.{◌∙◌, ◌/◌, length}
use Rattle.layout.specs.Shape.{instance_of}
use Rattle.request.proofs.Plans.{opened-sufficient}
use Rattle.encoding.specs.Call.{decoded_change}
use Rattle.byte_calls.specs.Call.{change_in}
use Rattle.byte_calls.proofs.Calls.{bytes-refused, bytes-accepted, planned-refused, planned-accepted, planned-covered, decoded-enough, checked-opens}
use Rattle.byte_calls.proofs.change.change_counted.Goals as goal

pub plan-plan-requires : goal.plan-plan-requires
plan-plan-requires c =
    let a = c.args in
    let r = c.requires in
    λ z. (opened-sufficient r.shape a.variables.now a.values.now a.m a.members.now (length a.marks.now / 8) (length a.supports.now / 2) _ (decoded_change (change_in a.call a.listed.now a.chosen.now)) c.counted-opened.result
    (checked-opens r.shape _ _ _ _ a.sheets.now a.marks.now a.supports.now a.opening r.opened r.none a.words.now a.counts.now r.decoded _ c.counted-opened.ensures)
    z).sound.laid

pub returns-then-plan-ne0 : goal.returns-then-plan-ne0
returns-then-plan-ne0 c =
    let a = c.args in
    let r = c.requires in
    λ S opened.
    let planned = c.plan-plan.ensures S a.m a.members.now _ _ _ (checked-opens S a.variables.now a.values.now a.m a.members.now a.sheets.now a.marks.now a.supports.now a.opening opened r.none a.words.now a.counts.now r.decoded _ c.counted-opened.ensures) in
    bytes-refused _ _ _ _ c.plan-plan.result.fault _ c.pack.ensures (planned-refused _ _ _ _ _ c.plan-plan.result planned c.if-plan-ne0.true)

pub make-requires : goal.make-requires
make-requires c =
    let a = c.args in
    let r = c.requires in
    let planned = c.plan-plan.ensures r.shape a.m a.members.now _ _ _ (checked-opens r.shape a.variables.now a.values.now a.m a.members.now a.sheets.now a.marks.now a.supports.now a.opening r.opened r.none a.words.now a.counts.now r.decoded _ c.counted-opened.ensures) in
    record {
      shape = r.shape;
      change = decoded_change (change_in a.call a.listed.now a.chosen.now);
      planned = planned;
      none = c.if-plan-ne0.false;
      decoded = record {
        covered = planned-covered (instance_of r.shape a.variables.now a.values.now a.m a.members.now) _ a.sheets.now a.marks.now a.supports.now c.plan-plan.result planned c.if-plan-ne0.false a.words.now
            (decoded-enough r.shape a.variables.now a.values.now a.m a.members.now a.sheets.now a.marks.now a.supports.now a.opening r.opened r.none a.words.now a.counts.now r.decoded);
        first = r.decoded.first;
        all = r.decoded.all;
      };
      whole = r.whole;
    }

pub returns : goal.returns
returns c =
    let a = c.args in
    let r = c.requires in
    λ S opened.
    let planned = c.plan-plan.ensures S a.m a.members.now _ _ _ (checked-opens S a.variables.now a.values.now a.m a.members.now a.sheets.now a.marks.now a.supports.now a.opening opened r.none a.words.now a.counts.now r.decoded _ c.counted-opened.ensures) in
    c.make.ensures S _ planned ∙ bytes-accepted _ _ _ _ (planned-accepted _ _ _ _ _ c.plan-plan.result planned c.if-plan-ne0.false)
