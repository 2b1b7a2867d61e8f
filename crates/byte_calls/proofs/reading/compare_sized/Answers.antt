-- From what the decoders, `compare` and the packing ensure, and that a longer list is refused as one of one entry too many is.
use Rattle.std.proofs.Common.{ap, ◌∙◌}
use Rattle.encoding.specs.Packed.{packed_pair}
use Rattle.byte_calls.proofs.Calls.{enough-values, decoded-compare}
use Rattle.byte_calls.proofs.reading.compare_sized.Goals as goal

pub returns : goal.returns
returns g c =
    c.pack_comparison.ensures
    ∙ ap packed_pair
    (c.compare.ensures
    ∙ decoded-compare _ _ _ _ _ _ c.shape_at-shape.ensures c.load-variable_count.ensures.held (c.load-value_count.ensures.held ∙ enough-values _ c.args.codes.now c.requires) c.args.a c.args.b)
