-- A pass that adds nothing has reached all that can be reached.
use Rattle.std.proofs.Common.{◌<◌, length, slice_index_or, sym, subst, ◌∙◌, arith}
use Rattle.std.proofs.lemmas.Grind.{common_steps}
use Rattle.combination.proofs.Members.{known-below, first_member}
use Rattle.combination.proofs.Reached.{Passed, none, again, absorbed-le, connected-meets}
use Rattle.combination.proofs.connected.Goals as goal

pub loop-reached-init : goal.loop-reached-init
loop-reached-init c = rw c.wide.ensures.0 none

pub absorb-next-requires : goal.absorb-next-requires
absorb-next-requires c = known-below c.args.masks.now c.args.members.now c.requires

pub all_meet-requires : goal.all_meet-requires
all_meet-requires c = known-below c.args.masks.now c.args.members.now c.requires

pub returns-then-next-reached : goal.returns-then-next-reached
returns-then-next-reached c =
    let some : 0 < length c.args.members.now = grind (arith, common_steps) in
    c.all_meet.ensures
    ∙ connected-meets c.args.masks.now c.args.members.now c.requires (first_member c.args.members.now some) c.loop-reached.reached c.loop-reached.invariant (sym c.absorb-next.ensures ∙ c.if-next-reached.true)

pub loop-reached-smaller : goal.loop-reached-smaller
loop-reached-smaller c = omega (arith, absorbed-le c.args.masks.now c.args.members.now c.loop-reached.reached)

pub loop-reached-preserved : goal.loop-reached-preserved
loop-reached-preserved c =
    subst (Passed c.args.masks.now c.args.members.now (slice_index_or c.args.masks.now (slice_index_or c.args.members.now 0 0) 0)) (sym c.absorb-next.ensures) (again c.loop-reached.invariant)
