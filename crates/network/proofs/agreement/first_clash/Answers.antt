-- A column's variable is not shared, or it is found and its values are compared.
use Rattle.std.proofs.Common.{◌≡◌, ℕ, ◌+◌, length, get_or, sym, subst, ◌∙◌, arith}
use Rattle.model.specs.Lists.{lesser}
use Rattle.std.proofs.Math.Option.{some}
use Rattle.std.proofs.lemmas.Bool.Decides.{nat_tests}
use Prim.Native.Nat.{min}
use borrow.Author.Count.{below_more}
use Rattle.network.proofs.Clash.{Lowest, lowest-passes, lowest-clash, lowest-end, clash-unshared, clash-fitting, clash-unfitting}
use Rattle.network.proofs.agreement.first_clash.Goals as goal
use Rattle.network.proofs.agreement.first_clash.Goals.{else-shared-test, then-shared-test+then-x-y+then-not-fit, then-shared-test+then-x-y+else-not-fit}

-- the lesser of two numbers as `min` gives it
lesser-min : (m n x : ℕ) → m ≡ min n x → lesser n (some x) ≡ m
lesser-min m n x e = grind (arith, nat_tests)

pub shared-init : goal.shared-init
shared-init c = (c.loop-i.invariant, λ k h. absurd (omega arith))

pub shared-preserved : goal.shared-preserved
shared-preserved c = (c.shared.invariant.0, below_more _ _ c.shared.invariant.1 c.if-x-y.false)

pub loop-i-preserved : goal.loop-i-preserved
loop-i-preserved c =
    let xs = c.args.scope_a.now in
    let vs = c.args.a.now in
    let ys = c.args.scope_b.now in
    let ws = c.args.b.now in
    let i = c.loop-i.i in
    let j = c.shared.j in
    let before = c.shared.invariant in
    elim c.shared-test.branch [
      | else-shared-test w ↦
          subst (Lowest xs vs ys ws (i + 1)) (sym w.lowest-is)
          (lowest-passes xs vs ys ws before.0 (clash-unshared xs vs ys ws i (λ l h. before.1 l (omega (arith, h, w.shared-test)))))
      | then-shared-test+then-x-y+then-not-fit w ↦
          subst (Lowest xs vs ys ws (i + 1)) (lesser-min c.shared-test.lowest c.shared.lowest (get_or xs i 0) (omega arith))
          (lowest-clash xs vs ys ws before.0 j (clash-unfitting xs vs ys ws c.requires.1 i j (omega (arith, w.shared-test)) w.if-x-y.true (sym w.fit.ensures ∙ w.if-not-fit.true)))
      | then-shared-test+then-x-y+else-not-fit w ↦
          subst (Lowest xs vs ys ws (i + 1)) (sym w.lowest-is)
          (lowest-passes xs vs ys ws before.0 (clash-fitting xs vs ys ws c.requires.1 i j (omega (arith, w.shared-test)) w.if-x-y.true (sym w.fit.ensures ∙ w.if-not-fit.false)))
    ]

pub returns : goal.returns
returns c =
    let end : c.loop-i.i ≡ length c.args.scope_a.now = omega arith in
    lowest-end c.args.scope_a.now c.args.a.now c.args.scope_b.now c.args.b.now c.requires.0 c.requires.1
    (subst (λ (i : ℕ). Lowest c.args.scope_a.now c.args.a.now c.args.scope_b.now c.args.b.now i c.loop-i.lowest) end c.loop-i.invariant)
