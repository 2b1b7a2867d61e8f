-- The answer's line, and the lines of the combinations behind it. From how long they are at most, and the text of the reply.
use Rattle.std.proofs.Common.{◌≡◌, ap₂, [], ◌∷◌, ℕ, ◌*◌, ◌≤◌, ◌<◌, length, take, arith, rules}
use lib.Seq.{length-take-le}
use Rattle.model.specs.Edges.{max_member_list}
use Rattle.model.specs.Text.{line_text}
use Rattle.model.proofs.Text.{line_text-length}
use Rattle.printing.specs.Lines.{output, answer_room}
use Rattle.printing.proofs.Appended.{appended_then, appended-same, appended-end}
use Rattle.printing.proofs.CombinationText.{combinations-short}
use Rattle.desk.proofs.Enumerated.{listed-text}
use Rattle.desk.proofs.combinations.print_listed.Goals as goal

answer-short : (count : ℕ) → length (line_text (0 ∷ 0 ∷ count ∷ 0 ∷ [])) ≤ answer_room
answer-short count = line_text-length 0 (0 ∷ count ∷ 0 ∷ [])

pub line-n-requires : goal.line-n-requires
line-n-requires c = let long : length c.args.out.now ≡ output = search rules in (search rules, omega (arith, long, answer-short c.args.count))

pub combination_lines-requires : goal.combination_lines-requires
combination_lines-requires c =
    let each = c.wide-each.result in
    let end = c.wide.result * each in
    let is-end = ap₂ (λ (n m : ℕ). n * m) c.wide.ensures.0 c.wide-each.ensures.0 in
    let few : end ≤ max_member_list = omega (arith, is-end, c.requires.1.1) in
    let numbers : length c.widened.new.into ≡ max_member_list = search rules in
    let long : length c.args.out.now ≡ output = search rules in
    let pos : 0 < each = omega (arith, c.wide-each.ensures.0, c.requires.1.0) in (
      pos,
      omega (arith, long, few, answer-short c.args.count, appended-end {at = 0} (omega arith) c.line-n.ensures, c.line-n.ensures.long, combinations-short each pos (take end c.widened.new.into), length-take-le end c.widened.new.into (omega (arith, few, numbers))),
    )

pub returns : goal.returns
returns c =
    let each = c.wide-each.result in
    let is-end = ap₂ (λ (n m : ℕ). n * m) c.wide.ensures.0 c.wide-each.ensures.0 in
    appended-same (listed-text c.args.count c.args.m each (c.wide.result * each) c.args.members.now c.widened.new.into c.wide-each.ensures.0 is-end (omega (arith, is-end, c.requires.0, c.requires.1.1)) c.widened.ensures)
    (appended_then c.line-n.ensures c.combination_lines.ensures)
