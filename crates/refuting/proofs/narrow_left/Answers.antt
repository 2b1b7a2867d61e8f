-- `narrow_left` narrows member by member, by what `narrow_member` ensures, and the laws of members narrowed one after the other.
use Rattle.std.proofs.Common.{◌+◌, length, get_or, sym, ap, ◌∙◌, subst}
use Rattle.model.specs.Network.{first_id}
use Rattle.layout.specs.Setting.{network_in}
use Rattle.narrowing.specs.Narrows.{Narrowed}
use Rattle.narrowing.proofs.Narrowing.{narrowed-on, narrowed-one}
use Rattle.refuting.specs.Refuted.{Left}
use Rattle.refuting.proofs.narrow_left.Goals as goal
use Rattle.refuting.proofs.narrow_left.Goals.{then-is_in+else-not-narrow_member, else-is_in}

pub returns-then-not-narrow_member : goal.returns-then-not-narrow_member
returns-then-not-narrow_member c =
    let a = c.args in
    let l = c.loop-j in
    let p = c.requires.1 in
    let N = network_in (record { variables = a.variables.now; values = a.values.now; starts = a.starts.now }) in
    let at : Left a.members.now a.left l.j = record { inside = c.loop-j-test.true; in-set = sym c.is_in.ensures ∙ c.if-is_in.true } in
    let s = get_or a.members.now l.j 0 in (
      c.narrow_member.ensures.0,
      (
        narrowed-on N (first_id N a.r + a.x) a.words.now l.words c.narrow_member.new.words l.invariant.narrowed
            (narrowed-one N a.r a.x s p.0.own (p.1.0.other l.j at) l.words c.narrow_member.new.words c.narrow_member.ensures.1.0),
        λ e. record { j = l.j; at = at; dead = c.narrow_member.ensures.1.1 c.if-not-narrow_member.true },
      ),
    )

pub loop-j-preserved : goal.loop-j-preserved
loop-j-preserved c =
    let a = c.args in
    let l = c.loop-j in
    let p = c.requires.1 in
    let N = network_in (record { variables = a.variables.now; values = a.values.now; starts = a.starts.now }) in
    let y = first_id N a.r + a.x in
    elim c.if-is_in.branch [
      | then-is_in+else-not-narrow_member w ↦
          let at : Left a.members.now a.left l.j = record { inside = c.loop-j-test.true; in-set = sym c.is_in.ensures ∙ w.if-is_in.true } in
          let s = get_or a.members.now l.j 0 in
          record {
            long = ap length w.words-is ∙ w.narrow_member.ensures.0;
            narrowed = subst (Narrowed N y a.words.now) (sym w.words-is)
                (narrowed-on N y a.words.now l.words w.narrow_member.new.words l.invariant.narrowed
                (narrowed-one N a.r a.x s p.0.own (p.1.0.other l.j at) l.words w.narrow_member.new.words w.narrow_member.ensures.1.0));
          }
      | else-is_in w ↦ record { long = ap length w.words-is ∙ l.invariant.long; narrowed = subst (Narrowed N y a.words.now) (sym w.words-is) l.invariant.narrowed }
    ]
