-- A tuple whose twin fell falls. From the laws of a tuple's id.
use Rattle.std.proofs.Common.{ℕ, sym, ◌∙◌, ap, arith}
use mathlib.Core.Bool.{true≢false}
use Rattle.model.specs.LiveWords.{cleared}
use Rattle.layout.proofs.SoundStarts.{tuples-few}
use Rattle.layout.proofs.Pairs.{tuple-below}
use Rattle.engine.proofs.Parts.{id-is}
use Rattle.engine.proofs.visit.replace.Goals as goal

pub overflow_add-tuple_start : goal.overflow_add-tuple_start
overflow_add-tuple_start c =
    let S = c.requires.renew_at.seek.seeker in
    let a = c.args in
    omega (arith, id-is S.sound a.x S.pair c.wide.ensures.0 c.tuple_start.ensures, tuple-below S.sound a.p a.x S.pair S.index, tuples-few S.sound.laid.framed)

pub clear-requires : goal.clear-requires
clear-requires c =
    let S = c.requires.renew_at.seek.seeker in
    let a = c.args in
    omega (arith, id-is S.sound a.x S.pair c.wide.ensures.0 c.tuple_start.ensures, tuple-below S.sound a.p a.x S.pair S.index, S.working.space.enough)

pub returns-in-Fallen-clause-renewed : goal.returns-in-Fallen-clause-renewed
returns-in-Fallen-clause-renewed c =
    let S = c.requires.renew_at.seek.seeker in
    let a = c.args in
    let id = id-is S.sound a.x S.pair c.wide.ensures.0 c.tuple_start.ensures in
    let t = c.in-Fallen.ensures in
    record {
      kept = λ q. absurd (true≢false (sym q));
      removed = λ _. (c.clear.ensures ∙ ap (λ (g : ℕ). cleared g a.words.now) id, t.outcome.0, t.outcome.1);
    }
