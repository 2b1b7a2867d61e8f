-- Each tuple lies within the lists, and its columns are proper.
use Rattle.std.proofs.Common.{List, sym, ap, ap₂, ◌∙◌, arith}
use Rattle.model.specs.Agreement.{Cell, first_clashing, clash_number}
use Rattle.model.proofs.Agreement.{first_clash-at}
use Rattle.layout.specs.Setting.{network_in}
use Rattle.layout.proofs.Places.{below-limit, place-within, place-cells}
use Rattle.network.proofs.Columns.{place-columns}
use Rattle.network.proofs.agreement.tuples_clash.Goals as goal

pub place_of-p-requires : goal.place_of-p-requires
place_of-p-requires c = (c.requires.laid.framed, below-limit c.requires.laid c.args.r c.args.x c.requires.first)

pub place_of-q-requires : goal.place_of-q-requires
place_of-q-requires c = (c.requires.laid.framed, below-limit c.requires.laid c.args.s c.args.y c.requires.second)

pub slice_bounds-first_clash-count : goal.slice_bounds-first_clash-count
slice_bounds-first_clash-count c = omega (arith, place-within c.requires.laid c.args.r c.args.x c.requires.first c.place_of-p.result c.place_of-p.ensures)

pub slice_bounds-first_clash-start : goal.slice_bounds-first_clash-start
slice_bounds-first_clash-start c = omega (arith, place-within c.requires.laid c.args.r c.args.x c.requires.first c.place_of-p.result c.place_of-p.ensures)

pub slice_bounds-first_clash-end : goal.slice_bounds-first_clash-end
slice_bounds-first_clash-end c = omega (arith, place-within c.requires.laid c.args.r c.args.x c.requires.first c.place_of-p.result c.place_of-p.ensures)

pub slice_bounds-first_clash-end-2 : goal.slice_bounds-first_clash-end-2
slice_bounds-first_clash-end-2 c = omega (arith, place-within c.requires.laid c.args.r c.args.x c.requires.first c.place_of-p.result c.place_of-p.ensures)

pub slice_bounds-first_clash-count-3 : goal.slice_bounds-first_clash-count-3
slice_bounds-first_clash-count-3 c = omega (arith, place-within c.requires.laid c.args.s c.args.y c.requires.second c.place_of-q.result c.place_of-q.ensures)

pub slice_bounds-first_clash-start-3 : goal.slice_bounds-first_clash-start-3
slice_bounds-first_clash-start-3 c = omega (arith, place-within c.requires.laid c.args.s c.args.y c.requires.second c.place_of-q.result c.place_of-q.ensures)

pub slice_bounds-first_clash-end-3 : goal.slice_bounds-first_clash-end-3
slice_bounds-first_clash-end-3 c = omega (arith, place-within c.requires.laid c.args.s c.args.y c.requires.second c.place_of-q.result c.place_of-q.ensures)

pub slice_bounds-first_clash-end-4 : goal.slice_bounds-first_clash-end-4
slice_bounds-first_clash-end-4 c = omega (arith, place-within c.requires.laid c.args.s c.args.y c.requires.second c.place_of-q.result c.place_of-q.ensures)

pub first_clash-requires : goal.first_clash-requires
first_clash-requires c = (
  place-columns c.requires.laid c.args.r c.args.x c.requires.first c.place_of-p.result c.place_of-p.ensures,
  place-columns c.requires.laid c.args.s c.args.y c.requires.second c.place_of-q.result c.place_of-q.ensures,
)

pub returns : goal.returns
returns c =
    c.first_clash.ensures
    ∙ ap clash_number
    (ap₂ (λ (xs ys : List Cell). first_clashing xs ys)
    (place-cells c.requires.laid c.args.r c.args.x c.requires.first c.place_of-p.result c.place_of-p.ensures)
    (place-cells c.requires.laid c.args.s c.args.y c.requires.second c.place_of-q.result c.place_of-q.ensures)
    ∙ sym (first_clash-at (network_in (record { variables = c.args.variables.now; values = c.args.values.now; starts = c.args.starts.now })) c.args.r c.args.x c.args.s c.args.y c.requires.first c.requires.second))
