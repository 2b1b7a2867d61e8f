-- From what `spend_member` ensures, and the laws of what is spent.
use Rattle.std.proofs.Common.{refl, ◌∙◌, arith}
use Rattle.model.proofs.LiveWords.{cleared-length}
use Rattle.support.proofs.Walking.{few-tuples, member_below, member-start, member-end, member-within}
use Rattle.support.proofs.Spent.{ones-live, spends-none, spends-more, spends-flag}
use Rattle.support.proofs.fresh_after.Goals as goal
use Rattle.support.proofs.fresh_after.Goals.{then-j-place, else-j-place}

pub loop-j-init : goal.loop-j-init
loop-j-init c =
    let a = c.args in
    record { long = refl; spends = spends-none _ c.requires.1.sound a.k a.bound _ ones-live }

pub end_below-end-requires : goal.end_below-end-requires
end_below-end-requires c = (c.requires.1.sound.laid.framed, member_below _ c.requires.1.sound c.loop-j.j c.loop-j-test.true)

pub spend_member-requires : goal.spend_member-requires
spend_member-requires c =
    let a = c.args in
    let R = c.requires.1.sound in
    let j = c.loop-j.j in
    let E = c.end_below-end.ensures in
    let n = member-end _ R j c.loop-j-test.true in
    record {
      long = (c.requires.0, c.loop-j.invariant.long);
      spend_at = record {
        laid = R.laid;
        first = omega (arith, member_below _ R a.place R.place);
        own = R.own;
        second = omega (arith, member_below _ R j c.loop-j-test.true);
        from_first = E.above _ (omega (arith, n)) (λ q. rw q c.requires.1.bounded);
        to_end = omega (arith, E.to_end, n);
      };
    }

pub loop-j-preserved : goal.loop-j-preserved
loop-j-preserved c =
    let a = c.args in
    let R = c.requires.1.sound in
    let j = c.loop-j.j in
    let i = c.loop-j.invariant in
    let n = member-end _ R j c.loop-j-test.true in
    elim c.if-j-place.branch [
      | then-j-place w ↦
          let E = w.end_below-end.ensures in
          rw w.fresh-is record {
            long = w.spend_member.ensures.long;
            spends = spends-more _ R a.k a.bound j c.loop-j-test.true w.end_below-end.result (omega (arith, E.to_end, n)) E.below c.loop-j.fresh _ w.spend_member.ensures i.spends;
          }
      | else-j-place w ↦ rw w.fresh-is record { long = i.long; spends = i.spends }
    ]

pub returns : goal.returns
returns c =
    let a = c.args in
    let R = c.requires.1.sound in
    let i = c.loop-j.invariant in
    let f = c.tuple_start.ensures ∙ member-start _ R a.place R.place in
    rw c.clear.ensures (cleared-length c.tuple_start.result c.loop-j.fresh ∙ i.long, spends-flag _ R a.k a.bound c.loop-j.fresh i.long c.tuple_start.result f i.spends)

pub clear-requires : goal.clear-requires
clear-requires c =
    let R = c.requires.1.sound in
    let p = c.args.place in
    omega (arith, c.tuple_start.ensures, member-start _ R p R.place, R.own, member-within _ R p R.place, few-tuples _ R, c.loop-j.invariant.long)
