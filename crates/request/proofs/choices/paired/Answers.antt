use Rattle.std.proofs.Common.{◌≤◌, [], ◌∷◌, min, length, sym, ap, ◌∙◌, arith, length-append, length-drop}
use mathlib.Core.Logic.{⊎_elim}
use Rattle.request.proofs.Pairs.{paired-start, paired-next, paired-end, front}
use Rattle.request.proofs.choices.paired.Goals as goal

pub loop-x-init : goal.loop-x-init
loop-x-init c = record { kept = paired-start _ _; variables = (cc); values = (cc) }

pub loop-x-preserved : goal.loop-x-preserved
loop-x-preserved c =
    let k = length c.loop-x.yielded in
    let x = front c.args.xs.now k c.in-Some.x.now c.next.new.self.a.rest.now (sym c.loop-x.invariant.variables ∙ c.in-Some.ensures.steps.0) in
    let v = front c.args.vs.now k c.in-Some.v.now c.next.new.self.b.rest.now (sym c.loop-x.invariant.values ∙ c.in-Some.ensures.steps.1) in
    rw (length-append c.loop-x.yielded ((c.in-Some.x, c.in-Some.v) ∷ []))
    (record {
      kept = paired-next _ _ c.loop-x.firsts c.loop-x.seconds c.loop-x.bound k c.loop-x.invariant.kept x.0 v.0 _ _ _ _ _ x.1 v.1 c.add_choice-bound.ensures.0 c.add_choice-bound.ensures.1;
      variables = x.2;
      values = v.2;
    })

pub returns : goal.returns
returns c =
    let k = length c.loop-x.yielded in
    let past : min (length c.args.xs.now) (length c.args.vs.now) ≤ k =
    ⊎_elim {C = min (length c.args.xs.now) (length c.args.vs.now) ≤ k}
    (λ w. omega (arith, w.1.0, ap length c.loop-x.invariant.variables, length-drop k c.args.xs.now))
    (λ w. omega (arith, w.1.0, ap length c.loop-x.invariant.values, length-drop k c.args.vs.now)) c.in-None.ensures.steps in
    paired-end _ _ c.loop-x.firsts c.loop-x.seconds c.loop-x.bound k c.loop-x.invariant.kept past
