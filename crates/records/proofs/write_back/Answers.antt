-- From the laws of counts written one after the other.
use Rattle.std.proofs.Common.{◌≡◌, ◌+◌, length, take, drop, ◌++◌, List, suc, get_or, slice_set, refl, sym, ◌∙◌, ap, arith, length-take-le}
use Rattle.model.specs.declared.Record.{Record}
use Rattle.records.specs.Records.{no_record, counted, lesser}
use Rattle.records.proofs.Written.{written, written_none, written_next, written_all, written-front_of}
use Rattle.records.proofs.write_back.Goals as goal

pub loop-i-init : goal.loop-i-init
loop-i-init c = sym (written_none _ c.args.done.live)

pub loop-i-preserved : goal.loop-i-preserved
loop-i-preserved c =
    let live = c.args.done.live in
    let i = c.loop-i.i in
    let lent = take c.to_write-n.result c.args.relations.now in
    let next : suc i ≡ i + 1 = omega arith in
    ap (λ (Rs : List Record). slice_set Rs i (counted (get_or Rs i no_record) (get_or live i 0))) c.loop-i.invariant
    ∙ sym (written_next lent live i)
    ∙ ap (written lent live) next

pub returns : goal.returns
returns c =
    let live = c.args.done.live in
    let lent = c.args.relations.now in
    let n = c.to_write-n.result in
    let few : length (take n lent) ≡ n = length-take-le n lent (omega arith) in
    let all : c.loop-i.i ≡ n = omega arith in (
      refl,
      ap (λ (Rs : List Record). Rs ++ drop n lent) (c.loop-i.invariant ∙ ap (written (take n lent) live) all)
          ∙ written-front_of n lent live
          ∙ ap (written lent live) c.to_write-n.ensures
          ∙ written_all lent live (lesser c.args.done.written),
    )
