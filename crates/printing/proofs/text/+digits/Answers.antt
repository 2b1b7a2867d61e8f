-- The last digit stands behind those of v / 10. From the laws of decimal digits and of texts written one behind another.
use Rattle.std.proofs.Common.{◌≡◌, ap, sym, ◌∙◌, ℕ, ◌/◌, ◌+◌, ◌≤◌, ◌<◌, length, length-append, arith}
use Rattle.model.specs.Text.{decimal, max_code}
use Rattle.model.proofs.Text.{decimal_digit, decimal-large}
use Rattle.printing.proofs.Appended.{appended-byte, appended_then, appended-same, appended-end}
use Rattle.printing.proofs.text.+digits.Goals as goal

one-digit : (v : ℕ) → v < 10 → length (decimal v) ≡ 1
one-digit v h = ap length (decimal_digit v h)

one_more : (v : ℕ) → 10 ≤ v → v ≤ max_code → length (decimal v) ≡ length (decimal (v / 10)) + 1
one_more v h m = ap length (decimal-large v h m) ∙ length-append (decimal (v / 10)) _

pub bounds-out-at : goal.bounds-out-at
bounds-out-at t c = omega (arith, one-digit c.args.v c.if-v-lt10.true)

pub returns-then-v-lt10 : goal.returns-then-v-lt10
returns-then-v-lt10 t c =
    let s = one-digit c.args.v c.if-v-lt10.true in
    appended-same (sym (decimal_digit c.args.v c.if-v-lt10.true)) (appended-byte c.args.out.now c.args.at (48 + c.args.v) (omega (arith, s)))

pub digits-n-requires : goal.digits-n-requires
digits-n-requires t c = (omega arith, omega (arith, one_more c.args.v (omega arith) (omega arith)))

pub bounds-out-n : goal.bounds-out-n
bounds-out-n t c = let l = one_more c.args.v (omega arith) (omega arith) in omega (arith, l, appended-end (omega (arith, l)) c.digits-n.ensures, c.digits-n.ensures.long)

pub returns : goal.returns
returns t c =
    let l = one_more c.args.v (omega arith) (omega arith) in
    let last = appended-end (omega (arith, l)) c.digits-n.ensures in
    appended-same (sym (decimal-large c.args.v (omega arith) (omega arith)))
    (appended_then c.digits-n.ensures (appended-byte c.digits-n.new.out c.digits-n.result _ (omega (arith, l, last, c.digits-n.ensures.long))))
