-- Each field but the last has a comma behind it. From the laws of texts written part by part.
use Rattle.std.proofs.Common.{◌≡◌, ap, ◌∙◌, ℕ, ◌-◌, length, drop, arith}
use lib.Seq.{get_or-take, length-take-le}
use Rattle.model.specs.Text.{line_text}
use Rattle.printing.proofs.Appended.{remains-length, remains-then, remains-same, remains-last}
use Rattle.printing.proofs.Lines.{field_fits, line_text-drop, line_text-last}
use Rattle.printing.proofs.text.line.Goals as goal

pub field-n-requires : goal.field-n-requires
field-n-requires c =
    let f = c.args.fields.now in
    let l = c.loop-v in
    let others = length-take-le (length f - 1) f (omega arith) in
    rw (get_or-take (length f - 1) f l.v-index 0 (omega (arith, others)))
    (omega (arith, others, c.requires, l.invariant.long, remains-length (omega (arith, c.requires)) l.invariant, field_fits f l.v-index (omega (arith, others))))

pub loop-v-preserved : goal.loop-v-preserved
loop-v-preserved c =
    let f = c.args.fields.now in
    let l = c.loop-v in
    let others = length-take-le (length f - 1) f (omega arith) in
    remains-then (remains-same (line_text-drop f l.v-index (omega (arith, others))) l.invariant)
    (rw (get_or-take (length f - 1) f l.v-index 0 (omega (arith, others))) at c.field-n.ensures)

pub field-requires : goal.field-requires
field-requires c =
    let f = c.args.fields.now in
    let l = c.loop-v in
    let last : l.v-index ≡ length f - 1 = omega (arith, length-take-le (length f - 1) f (omega arith)) in
    rw (← last) (omega (arith, c.requires, l.invariant.long, remains-length (omega (arith, c.requires)) l.invariant, field_fits f l.v-index (omega (arith, last))))

pub returns : goal.returns
returns c =
    let f = c.args.fields.now in
    let l = c.loop-v in
    let last : l.v-index ≡ length f - 1 = omega (arith, length-take-le (length f - 1) f (omega arith)) in
    remains-last (remains-same (ap (λ (k : ℕ). line_text (drop k f)) last ∙ line_text-last f (length f - 1) (omega arith)) l.invariant) c.field.ensures
