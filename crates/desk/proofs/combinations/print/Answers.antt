-- `print` writes the refusal's line, or what is listed.
-- From what the two ways ensure, and the text of a refusal.
use mathlib.Core.Path.{◌≡◌, sym, ap, ◌∙◌}
use mathlib.Core.List.{[], ◌∷◌}
use native.Mathlib.Omega.{arith}
use lib.ListN.{length}
use borrow.Author.Rules.{rules}
use Rattle.model.specs.declared.Enumeration.{Enumeration}
use Rattle.model.specs.Enumeration.{enumerated}
use Rattle.model.specs.Text.{text_of}
use Rattle.model.specs.Listing.{enumeration_lines}
use Rattle.model.proofs.Text.{line_text-length}
use Rattle.printing.specs.Lines.{output}
use Rattle.printing.proofs.Appended.{appended-same}
use Rattle.desk.proofs.Enumerated.{refused-text}
use Rattle.desk.proofs.combinations.print.Goals as goal

pub print_listed-requires : goal.print_listed-requires
print_listed-requires c = (c.requires.0, c.requires.1 c.in-Listed.count c.in-Listed.is)

pub line-requires : goal.line-requires
line-requires c =
    let long : length c.args.out.now ≡ output = search rules in
    (search rules, omega (arith, long, line_text-length 2 (c.in-Refused.f ∷ 0 ∷ 0 ∷ [])))

pub returns-in-Refused : goal.returns-in-Refused
returns-in-Refused c =
    let a = c.args in
    appended-same (refused-text c.in-Refused.f a.m a.members.now ∙ ap (λ (answer : Enumeration). text_of (enumeration_lines a.m (enumerated answer a.members.now))) (sym c.in-Refused.is))
    c.line.ensures
