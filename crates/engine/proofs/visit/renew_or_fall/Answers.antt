-- A doomed tuple has no support. From the laws of a tuple's id.
use Rattle.std.proofs.Common.{ℕ, refl, sym, ◌∙◌, ap, arith}
use mathlib.Core.Bool.{true≢false}
use Rattle.model.specs.LiveWords.{is_live, cleared}
use Rattle.layout.proofs.SoundStarts.{tuples-few}
use Rattle.layout.proofs.Pairs.{tuple-below}
use Rattle.engine.proofs.Parts.{id-is}
use Rattle.engine.proofs.visit.renew_or_fall.Goals as goal

pub overflow_add-id : goal.overflow_add-id
overflow_add-id c =
    let S = c.requires.renew_at.seek.seeker in
    let a = c.args in
    omega (arith, id-is S.sound a.x S.pair c.wide.ensures.0 c.tuple_start.ensures, tuple-below S.sound a.p a.x S.pair S.index, tuples-few S.sound.laid.framed)

pub is_live-requires : goal.is_live-requires
is_live-requires c =
    let S = c.requires.renew_at.seek.seeker in
    let a = c.args in
    omega (arith, id-is S.sound a.x S.pair c.wide.ensures.0 c.tuple_start.ensures, tuple-below S.sound a.p a.x S.pair S.index, tuples-few S.sound.laid.framed, c.requires.long_2.0)

pub clear-requires : goal.clear-requires
clear-requires c =
    let S = c.requires.renew_at.seek.seeker in
    let a = c.args in
    omega (arith, id-is S.sound a.x S.pair c.wide.ensures.0 c.tuple_start.ensures, tuple-below S.sound a.p a.x S.pair S.index, S.working.space.enough)

pub returns-then-is_live-clause-renewed : goal.returns-then-is_live-clause-renewed
returns-then-is_live-clause-renewed c =
    let S = c.requires.renew_at.seek.seeker in
    let a = c.args in
    let id = id-is S.sound a.x S.pair c.wide.ensures.0 c.tuple_start.ensures in
    record {
      kept = λ q. absurd (true≢false (sym q));
      removed = λ _. (
        c.clear.ensures ∙ ap (λ (g : ℕ). cleared g a.words.now) id,
        refl,
        c.requires.long_2.1 a.x S.index (ap (is_live a.doomed.now) (sym id) ∙ sym c.is_live.ensures ∙ c.if-is_live.true),
      );
    }
