-- `tuple_hash` hands `hash_in` the parts of the lists where the tuple lies.
-- From the laws of places.
use Rattle.std.proofs.Common.{arith}
use Rattle.layout.proofs.Places.{place-within}
use Rattle.doubles.proofs.tuple_hash.Goals as goal

pub slice_bounds-hash_in-count : goal.slice_bounds-hash_in-count
slice_bounds-hash_in-count c = omega (arith, place-within c.requires.0.laid c.args.r c.args.x c.requires.0.own _ c.place_of-p.ensures)

pub slice_bounds-hash_in-start : goal.slice_bounds-hash_in-start
slice_bounds-hash_in-start c = omega (arith, place-within c.requires.0.laid c.args.r c.args.x c.requires.0.own _ c.place_of-p.ensures)

pub slice_bounds-hash_in-end : goal.slice_bounds-hash_in-end
slice_bounds-hash_in-end c = omega (arith, place-within c.requires.0.laid c.args.r c.args.x c.requires.0.own _ c.place_of-p.ensures)

pub slice_bounds-hash_in-end-2 : goal.slice_bounds-hash_in-end-2
slice_bounds-hash_in-end-2 c = omega (arith, place-within c.requires.0.laid c.args.r c.args.x c.requires.0.own _ c.place_of-p.ensures)
