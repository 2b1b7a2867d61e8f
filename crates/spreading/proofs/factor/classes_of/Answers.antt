-- From the laws of scopes.
use Rattle.std.proofs.Common.{arith}
use Rattle.layout.proofs.SoundStarts.{width-in, scope-rises, columns-few}
use Rattle.layout.proofs.Places.{scope-within}
use Rattle.spreading.proofs.factor.classes_of.Goals as goal

pub slice_bounds-v-items-count : goal.slice_bounds-v-items-count
slice_bounds-v-items-count c = omega (arith, scope-rises c.requires.1.0.framed c.args.s c.requires.1.1)

pub slice_bounds-v-items-start : goal.slice_bounds-v-items-start
slice_bounds-v-items-start c = omega (arith, scope-rises c.requires.1.0.framed c.args.s c.requires.1.1)

pub slice_bounds-v-items-end : goal.slice_bounds-v-items-end
slice_bounds-v-items-end c = omega (arith, scope-within c.requires.1.0 c.args.s c.requires.1.1)

pub classes_in-requires : goal.classes_in-requires
classes_in-requires c =
    let framed = c.requires.1.0.framed in
    let few = c.requires.1.1 in
    (c.requires.0, record { laid = c.requires.1.0; relation = few; inside = omega (arith, width-in framed c.args.s few) })

pub returns : goal.returns
returns c =
    let framed = c.requires.1.0.framed in
    let few = c.requires.1.1 in
    omega (arith, width-in framed c.args.s few, columns-few framed c.args.s few)
