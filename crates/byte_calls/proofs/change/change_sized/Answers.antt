-- From what the decoders and `change_decoded` ensure, and that a longer list is refused as one of one entry too many is.
use Rattle.std.proofs.Common.{ap, ◌∙◌}
use Rattle.model.specs.Reply.{Reply}
use Rattle.encoding.specs.Packed.{reply_bytes}
use Rattle.encoding.proofs.Records.{shape-count}
use Rattle.byte_calls.proofs.Calls.{enough-values, decoded-reply}
use Rattle.byte_calls.proofs.change.change_sized.Goals as goal

pub change_decoded-requires : goal.change_decoded-requires
change_decoded-requires g c = (shape-count c.args.sheets.now _ c.shape_at-shape.ensures, c.requires.0)

pub returns : goal.returns
returns g c =
    c.change_decoded.ensures
    ∙ ap (λ (r : Reply). reply_bytes r c.args.sheets.now c.args.marks.now c.args.supports.now)
    (decoded-reply _ _ _ _ _ _ c.shape_at-shape.ensures c.load-variable_count.ensures.held (c.load-value_count.ensures.held ∙ enough-values _ c.args.codes.now (c.requires.1, c.requires.2)) c.args.m c.args.combinations.now _ c.load-member_count.ensures.held _ _ _ _)
