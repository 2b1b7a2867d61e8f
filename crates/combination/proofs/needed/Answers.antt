use Rattle.std.proofs.Common.{◌≡◌, ℕ, ◌*◌, ◌%◌, length, map, slice_index_or, sym, ap₂, ◌∙◌, arith}
use native.Mathlib.Nat.{div-add-mod'}
use Rattle.model.specs.Lists.{sum}
use Rattle.model.specs.Network.{size}
use Rattle.model.proofs.Combination.{needed-whole}
use Rattle.layout.specs.Starts.{outline}
use Rattle.layout.proofs.SoundStarts.{ids-rise, ids-few, size_in}
use Rattle.layout.proofs.Pairs.{member_below}
use Rattle.combination.proofs.Members.{sum-next, sum-end}
use Rattle.combination.proofs.needed.Goals as goal

pub overflow_add-r : goal.overflow_add-r
overflow_add-r c = omega (arith, member_below c.requires.0 c.requires.1 c.loop-r.r-index)

pub tuple_start-requires : goal.tuple_start-requires
tuple_start-requires c = omega (arith, member_below c.requires.0 c.requires.1 c.loop-r.r-index)

pub tuple_start-requires-in-loop-r : goal.tuple_start-requires-in-loop-r
tuple_start-requires-in-loop-r c = omega (arith, member_below c.requires.0 c.requires.1 c.loop-r.r-index)

pub overflow_sub-tuple_start : goal.overflow_sub-tuple_start
overflow_sub-tuple_start c =
    omega (arith, ids-rise c.requires.0 (slice_index_or c.args.members.now c.loop-r.r-index 0) (member_below c.requires.0 c.requires.1 c.loop-r.r-index (omega arith)))

pub loop-r-preserved : goal.loop-r-preserved
loop-r-preserved c =
    let r = slice_index_or c.args.members.now c.loop-r.r-index 0 in
    let exists = member_below c.requires.0 c.requires.1 c.loop-r.r-index (omega arith) in record {
      whole = omega (arith, size_in c.requires.0 r exists, sum-next (size (outline c.args.starts.now)) c.args.members.now c.loop-r.r-index);
      few = omega (arith, ids-few c.requires.0 r exists);
    }

pub returns : goal.returns
returns c =
    let whole : length c.args.members.now % c.args.m ≡ 0 = omega (arith, div-add-mod' (length c.args.members.now) c.args.m, c.requires.1.list.whole) in
    let done : c.loop-r.tuples ≡ sum (map (size (outline c.args.starts.now)) c.args.members.now) = omega (arith, sum-end (size (outline c.args.starts.now)) c.args.members.now c.loop-r.r-index) in
    ap₂ (λ (a b : ℕ). a * b) done c.wide.ensures.0 ∙ sym (needed-whole (outline c.args.starts.now) c.args.m c.args.members.now whole)
