-- The one line of a text that is not in the form. From the definition of the text of lines.
use Rattle.std.proofs.Common.{[], ◌∷◌, sym, rules}
use mathlib.Core.List.{append-nil}
use Rattle.model.specs.Text.{decimal, line_text, text_of}
use Rattle.printing.proofs.Appended.{appended-same}
use Rattle.desk.proofs.refused.Goals as goal

pub line-requires : goal.line-requires
unfolding decimal
line-requires c = search rules

pub returns : goal.returns
unfolding text_of
returns c = appended-same (sym (append-nil (line_text (2 ∷ 1 ∷ 0 ∷ 0 ∷ [])))) c.line.ensures
