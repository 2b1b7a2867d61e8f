-- The first fitting tuple completes a support, and where none fits there is none. From the laws of the last member's turn.
use Rattle.std.proofs.Common.{◌+◌, refl, sym, ◌∙◌, ap, rules}
use mathlib.Core.Logic.{◌⊎◌}
use Rattle.support.specs.Search.{past_own}
use Rattle.support.proofs.Turn.{turn_on, span-asks, fitting-at}
use Rattle.support.proofs.Last.{last_none, last_found}
use Rattle.support.proofs.search_last.Goals as goal

pub span_of-span-requires : goal.span_of-span-requires
span_of-span-requires c = let A = c.requires.long.1 in span-asks _ c.args.k A.seeking.sound A.inside

pub first_fitting-g-requires : goal.first_fitting-g-requires
first_fitting-g-requires c =
    let A = c.requires.long.1 in
    let R = A.seeking.sound in
    let T = turn_on A (search rules) (search rules) c.span_of-span.result c.span_of-span.ensures in
    (c.requires.long.0, fitting-at T c.args.index.now A.seeking.indexed c.args.place c.args.own R.place R.own (◌⊎◌.inl (refl, refl)))

pub returns-then-span-g : goal.returns-then-span-g
returns-then-span-g c =
    let A = c.requires.long.1 in
    let T = turn_on A (search rules) (search rules) c.span_of-span.result c.span_of-span.ensures in
    sym (last_none T A.lives c.first_fitting-g.result c.first_fitting-g.ensures c.if-span-g.true)

pub returns : goal.returns
returns c =
    let A = c.requires.long.1 in
    let T = turn_on A (search rules) (search rules) c.span_of-span.result c.span_of-span.ensures in
    let full = c.past_own-full.ensures ∙ ap (past_own c.args.place c.args.own (c.args.k + 1)) c.put.ensures in
    sym (last_found T A.lives c.requires.k_value c.first_fitting-g.result c.first_fitting-g.ensures c.if-span-g.false c.past_own-full.result full)
