-- From what the decoders, the move and the encoder ensure, and that a longer list is refused as one of one entry too many is.
use Rattle.std.proofs.Common.{arith, rules, sym, length, ◌≡◌, length-take-le}
use Rattle.model.specs.Edges.{max_values}
use Rattle.model.specs.Moves.{widen}
use Rattle.byte_moves.proofs.Moved.{refused-bytes, done-few, short-bytes, done-bytes}
use Rattle.byte_moves.proofs.widen_bytes.Goals as goal

pub returns-then-n-ne0 : goal.returns-then-n-ne0
returns-then-n-ne0 c =
    refused-bytes widen _ _ _ _ _ _ _ _ _ _ c.shape_at-shape.ensures c.load-variable_count.ensures.held c.load-value_count.ensures.held (search rules) c.widen.ensures
    _ c.pack_moved-n.ensures c.if-n-ne0.true

pub returns-then-target-value_count : goal.returns-then-target-value_count
returns-then-target-value_count c =
    short-bytes widen _ _ _ _ _ _ _ _ _ _ c.shape_at-shape.ensures c.load-variable_count.ensures.held c.load-value_count.ensures.held (search rules) c.widen.ensures
    _ c.pack_moved-n.ensures c.if-n-ne0.false _ c.pack_moved.ensures (omega arith)

-- every value has a place in the array
pub slice_bounds-moved-end : goal.slice_bounds-moved-end
slice_bounds-moved-end c =
    let long : length c.widen.new.target ≡ max_values = search rules in
    let few = done-few widen _ _ _ c.args.target.now _ _ _ _ _ _ c.shape_at-shape.ensures c.load-variable_count.ensures.held c.load-value_count.ensures.held (search rules) c.widen.ensures _ c.pack_moved-n.ensures c.if-n-ne0.false in
    omega arith

pub slice_bounds-store-end : goal.slice_bounds-store-end
slice_bounds-store-end c =
    let long : length c.widen.new.target ≡ max_values = search rules in
    let few = done-few widen _ _ _ c.args.target.now _ _ _ _ _ _ c.shape_at-shape.ensures c.load-variable_count.ensures.held c.load-value_count.ensures.held (search rules) c.widen.ensures _ c.pack_moved-n.ensures c.if-n-ne0.false in
    sym (length-take-le _ _ (omega arith))

pub returns : goal.returns
returns c =
    done-bytes widen _ _ _ _ _ _ _ _ _ _ c.shape_at-shape.ensures c.load-variable_count.ensures.held c.load-value_count.ensures.held (search rules) c.widen.ensures
    _ c.pack_moved-n.ensures c.if-n-ne0.false (omega arith) _ c.load-value_count.ensures.count _ c.store.ensures
