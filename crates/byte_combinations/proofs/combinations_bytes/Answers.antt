-- From what the decoders and `combinations_decoded` ensure, and that a longer list is refused as one of one entry too many is.
use Rattle.std.proofs.Common.{◌∙◌}
use Rattle.byte_combinations.proofs.Written.{decoded-listing}
use Rattle.byte_combinations.proofs.combinations_bytes.Goals as goal

pub returns : goal.returns
returns c =
    c.combinations_decoded.ensures
    ∙ decoded-listing _ _ _ _ _ _ c.shape_at-shape.ensures c.load-variable_count.ensures.held c.load-value_count.ensures.held c.args.m c.args.combinations.now
