-- `narrow_members` narrows member by member, by what `narrow_member` ensures, and the laws of members narrowed one after the other.
use Rattle.std.proofs.Common.{◌+◌, length, get_or, sym, ap, ◌∙◌, subst}
use Rattle.model.specs.Network.{first_id}
use Rattle.layout.specs.Setting.{network_in}
use Rattle.narrowing.specs.Narrows.{Narrowed, Later}
use Rattle.narrowing.proofs.Narrowing.{narrowed-on, narrowed-one}
use Rattle.narrowing.proofs.narrow_members.Goals as goal
use Rattle.narrowing.proofs.narrow_members.Goals.{then-j-place+else-not-narrow_member, else-j-place}

pub returns-then-not-narrow_member : goal.returns-then-not-narrow_member
returns-then-not-narrow_member c =
    let a = c.args in
    let l = c.loop-j in
    let N = network_in (record { variables = a.variables.now; values = a.values.now; starts = a.starts.now }) in
    let later : Later a.members.now a.place a.k l.j = record { from-k = l.auto.j; inside = c.loop-j-test.true; other = c.if-j-place.true } in
    let s = get_or a.members.now l.j 0 in (
      c.narrow_member.ensures.0,
      (
        narrowed-on N (first_id N a.r + a.x) a.words.now l.words c.narrow_member.new.words l.invariant.narrowed
            (narrowed-one N a.r a.x s c.requires.1.0.own (c.requires.1.1.other l.j later) l.words c.narrow_member.new.words c.narrow_member.ensures.1.0),
        λ e. record { j = l.j; later = later; dead = c.narrow_member.ensures.1.1 c.if-not-narrow_member.true },
      ),
    )

pub loop-j-preserved : goal.loop-j-preserved
loop-j-preserved c =
    let a = c.args in
    let l = c.loop-j in
    let N = network_in (record { variables = a.variables.now; values = a.values.now; starts = a.starts.now }) in
    let y = first_id N a.r + a.x in
    elim c.if-j-place.branch [
      | then-j-place+else-not-narrow_member w ↦
          let later : Later a.members.now a.place a.k l.j = record { from-k = l.auto.j; inside = c.loop-j-test.true; other = w.if-j-place.true } in
          let s = get_or a.members.now l.j 0 in
          record {
            long = ap length w.words-is ∙ w.narrow_member.ensures.0;
            narrowed = subst (Narrowed N y a.words.now) (sym w.words-is)
                (narrowed-on N y a.words.now l.words w.narrow_member.new.words l.invariant.narrowed
                (narrowed-one N a.r a.x s c.requires.1.0.own (c.requires.1.1.other l.j later) l.words w.narrow_member.new.words w.narrow_member.ensures.1.0));
          }
      | else-j-place w ↦ record { long = ap length w.words-is ∙ l.invariant.long; narrowed = subst (Narrowed N y a.words.now) (sym w.words-is) l.invariant.narrowed }
    ]
