-- From the laws of a support list whose dead tuples' numbers are made 65,535, and the laws of starts and of pairs.
use Rattle.std.proofs.Common.{ℕ, ◌-◌, ◌*◌, ◌<◌, get_or, ◌∙◌, ap₂, arith}
use Rattle.model.specs.Network.{Network, size, first_id}
use Rattle.model.specs.Consistency.{support_start}
use Rattle.layout.specs.Starts.{outline}
use Rattle.layout.proofs.SoundStarts.{tuple-start, size_in, ids-rise, ids-within}
use Rattle.layout.proofs.Pairs.{member_below, pair-within}
use Rattle.engine.proofs.Blanks.{blank-as, blanked-more}
use Rattle.engine.proofs.blank.blank_all.Goals as goal

pub tuple_start-first-requires : goal.tuple_start-first-requires
tuple_start-first-requires c = omega (arith, member_below c.requires.framed c.requires.paired c.loop-p.p c.loop-p-test.true)

pub overflow_add-r : goal.overflow_add-r
overflow_add-r c = omega (arith, member_below c.requires.framed c.requires.paired c.loop-p.p c.loop-p-test.true)

pub tuple_start-end-requires : goal.tuple_start-end-requires
tuple_start-end-requires c = omega (arith, member_below c.requires.framed c.requires.paired c.loop-p.p c.loop-p-test.true)

pub blank_dead-requires : goal.blank_dead-requires
blank_dead-requires c =
    let f = c.requires.framed in
    let p = c.loop-p.p in
    let r : ℕ = get_or c.args.members.now p 0 in
    let h : r < 64 = member_below f c.requires.paired p c.loop-p-test.true in
    let begin = c.wide.ensures.0 ∙ c.requires.places p (omega arith) in
    let within = pair-within f c.requires.paired p c.loop-p-test.true in
    let first = c.tuple_start-first.ensures in
    let end = c.tuple_start-end.ensures in
    record {
      few = c.requires.paired.list.few;
      rises = omega (arith, first, end, ids-rise f r h);
      bits = omega (arith, end, ids-within f r h, c.requires.enough);
      inside = omega (arith, begin, within, ap₂ (λ (e b : ℕ). (e - b) * c.args.m) end first, c.requires.room, c.loop-p.invariant.long);
    }

pub loop-p-preserved : goal.loop-p-preserved
loop-p-preserved c =
    let a = c.args in
    let l = c.loop-p in
    let f = c.requires.framed in
    let N : Network = outline a.starts.now in
    let r : ℕ = get_or a.members.now l.p 0 in
    let h : r < 64 = member_below f c.requires.paired l.p c.loop-p-test.true in
    let first = c.tuple_start-first.ensures in
    let end = c.tuple_start-end.ensures in
    blanked-more N a.m a.members.now a.words.now a.numbers.now l.p c.loop-p-test.true l.numbers c.blank_dead.new.numbers l.invariant
    (blank-as a.m c.wide.result c.tuple_start-first.result a.words.now l.numbers (support_start N a.m a.members.now l.p) (first_id N r)
    (c.tuple_start-end.result - c.tuple_start-first.result) (size N r) c.blank_dead.new.numbers
    (c.wide.ensures.0 ∙ c.requires.places l.p (omega arith))
    (first ∙ tuple-start f r (omega arith))
    (ap₂ (λ (e b : ℕ). e - b) end first ∙ size_in f r h)
    c.blank_dead.ensures)
