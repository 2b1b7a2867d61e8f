-- One combination after the other is written. From the laws of the lines of combinations, and of texts written part by part.
use Rattle.std.proofs.Common.{◌≡◌, ap, ◌∙◌, List, ◌++◌, ℕ, length, length-append, arith}
use Rattle.std.specs.Slice.Iter.{chunks_exact_rest}
use Rattle.model.specs.Combination.{combinations}
use Rattle.model.specs.Text.{line_text, text_of}
use Rattle.printing.proofs.Appended.{remains-length, remains-then, remains-same, remains-none}
use Rattle.printing.proofs.CombinationText.{combination_first, combination_none}
use Rattle.printing.proofs.combinations.combination_lines.Goals as goal
use Rattle.printing.proofs.combinations.combination_lines.Goals.{In-Some}

-- the next combination's line, and those of the others
split : (c : In-Some) → text_of (combinations c.args.m (chunks_exact_rest c.loop-combination.combination-iterator)) ≡ line_text c.in-Some.combination.now ++ text_of (combinations c.args.m (chunks_exact_rest c.next.new.self))
split c =
    let s = c.in-Some.ensures.steps in
    ap (λ (xs : List ℕ). text_of (combinations c.args.m xs)) s.1.0 ∙ combination_first c.args.m c.in-Some.combination.now (chunks_exact_rest c.next.new.self) c.requires.0 (s.1.1 ∙ c.loop-combination.invariant.sized)

pub line-n-requires : goal.line-n-requires
line-n-requires c =
    let s = c.in-Some.ensures.steps in
    let r = c.loop-combination.invariant.left in
    let e = split (goal.at.line-n-requires c).In-Some in (
      omega (arith, s.1.1, c.loop-combination.invariant.sized, c.requires.0),
      omega (arith, c.requires.1, r.long, remains-length (omega (arith, c.requires.1)) r, ap length e, length-append (line_text c.in-Some.combination.now) (text_of (combinations c.args.m (chunks_exact_rest c.next.new.self)))),
    )

pub loop-combination-preserved : goal.loop-combination-preserved
loop-combination-preserved c = record {
  sized = c.in-Some.ensures.steps.0 ∙ c.loop-combination.invariant.sized;
  left = remains-then (remains-same (split (goal.at.loop-combination-preserved c).In-Some) c.loop-combination.invariant.left) c.line-n.ensures;
}

pub returns : goal.returns
returns c =
    let s = c.in-None.ensures.steps in
    remains-none (remains-same (combination_none c.args.m (chunks_exact_rest c.loop-combination.combination-iterator) (omega (arith, s.1.0, c.loop-combination.invariant.sized))) c.loop-combination.invariant.left)
