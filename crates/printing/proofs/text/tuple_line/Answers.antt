-- Two fields, and then the line of the values. From the laws of texts written one behind another.
use Rattle.std.proofs.Common.{◌≡◌, sym, rules}
use Rattle.printing.proofs.Appended.{appended_then, appended-same}
use Rattle.printing.proofs.Lines.{line_text-tuple}
use Rattle.printing.proofs.text.tuple_line.Goals as goal

pub returns : goal.returns
returns c =
    let relation : c.from.result ≡ c.args.relation = search rules in
    let index : c.from-2.result ≡ c.args.index = search rules in
    appended-same (sym (line_text-tuple c.args.relation c.args.index c.args.values.now c.requires.0))
    (appended_then (rw relation at c.field-k.ensures) (appended_then (rw index at c.field-n.ensures) c.line.ensures))
