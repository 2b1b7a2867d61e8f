use Rattle.std.proofs.Common.{◌+◌, ◌*◌, ◌/◌, ◌%◌, ℕ, sym, ap, subst, ◌∙◌, arith}
use Rattle.std.proofs.lemmas.Grind.{common_steps}
use Rattle.live.proofs.Bits.{one_shl}
use Rattle.bridging.specs.Bridge.{raised, Adds}
use Rattle.bridging.proofs.Tables.{adds_one, adds-all}
use Rattle.bridging.proofs.add.Goals as goal

pub returns-then-class-lt-OF_ANY : goal.returns-then-class-lt-OF_ANY
returns-then-class-lt-OF_ANY c =
    let a = c.args in
    subst (Adds a.row a.class a.reached.now)
    (sym (c.raise.ensures ∙ ap (λ (w : ℕ). raised (4 * a.row + a.class / 64) w a.reached.now) (one_shl (a.class % 64) (omega arith))))
    (adds_one a.reached.now c.requires.0 a.row c.requires.1.0 a.class c.if-class-lt-OF_ANY.true)

pub returns-else-class-lt-OF_ANY : goal.returns-else-class-lt-OF_ANY
returns-else-class-lt-OF_ANY c =
    let a = c.args in
    let ones = c.fill.ensures.after (λ y e. e) in
    adds-all a.reached.now c.requires.0 a.row c.requires.1.0 a.class _ c.fill.array_long (λ i from to. grind (arith, common_steps, ones)) (λ i o. grind (arith, common_steps, ones))
