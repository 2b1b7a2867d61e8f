-- From the laws of a support list whose dead tuples' numbers are made 65,535.
use Rattle.std.proofs.Common.{◌≡◌, ℕ, ◌+◌, ◌-◌, ◌*◌, ◌≤◌, length, replicate, sym, ◌∙◌, ap, ap₂, arith}
use Rattle.model.specs.Limits.{no_support}
use Rattle.model.specs.LiveWords.{is_live}
use Rattle.worklist.proofs.Stretch.{replaced}
use Rattle.engine.proofs.Blanks.{blank-live, blank-dead, next_place, next-inside}
use Rattle.engine.proofs.blank.blank_dead.Goals as goal
use Rattle.engine.proofs.blank.blank_dead.Goals.{then-not-is_live, else-not-is_live}

pub loop-g-preserved : goal.loop-g-preserved
loop-g-preserved c =
    let a = c.args in
    let l = c.loop-g in
    let i = l.invariant in
    let n : ℕ = l.g - a.first in
    let next : l.g + 1 - a.first ≡ n + 1 = omega arith in
    let id : l.g ≡ a.first + n = omega arith in
    let place = next_place a.start a.first l.g a.end a.m l.auto.g c.loop-g-test.true in
    let inside = next-inside a.start a.first l.g a.end a.m l.auto.g c.loop-g-test.true in
    let fits : a.start + (l.g + 1 - a.first) * a.m ≤ length a.numbers.now = omega (arith, inside, c.requires.inside) in
    let lives = c.is_live.ensures ∙ ap (is_live a.words.now) id in
    record {
      blanked = elim c.if-not-is_live.branch [
        | then-not-is_live w ↦
            blank-dead a.m a.start a.first a.words.now a.numbers.now n (l.g + 1 - a.first) l.numbers next i.blanked fits c.if-not-is_live.numbers
            (sym lives ∙ w.if-not-is_live.true)
            (w.numbers-is ∙ w.blank.ensures ∙ ap₂ (λ (at k : ℕ). replaced l.numbers (replicate k no_support) at k) i.place c.wide-each.ensures.0)
        | else-not-is_live w ↦
            rw w.numbers-is (blank-live a.m a.start a.first a.words.now a.numbers.now n (l.g + 1 - a.first) l.numbers next i.blanked fits (sym lives ∙ w.if-not-is_live.false))
      ];
      place = omega (arith, place, i.place, c.wide-each.ensures.0);
    }
