-- From what the decoders and `test_decoded` ensure, and that a longer list is refused as one of one entry too many is.
use Rattle.std.proofs.Common.{ap, ◌∙◌}
use Rattle.encoding.specs.Packed.{packed_pair}
use Rattle.byte_calls.proofs.Calls.{enough-values, decoded-test}
use Rattle.byte_calls.proofs.reading.test_sized.Goals as goal

pub returns : goal.returns
returns g c =
    c.test_decoded.ensures
    ∙ ap packed_pair
    (decoded-test _ _ _ _ _ _ c.shape_at-shape.ensures c.load-variable_count.ensures.held (c.load-value_count.ensures.held ∙ enough-values _ c.args.codes.now c.requires) c.args.m c.args.combinations.now _ c.load-member_count.ensures.held _)
