-- `live::count_below` meets its contract: the ones of the word's low bits are the live ids below `end`.
-- From the law of the count of ones.
use mathlib.Core.Path.{◌≡◌}
use Prim.Native.Nat.{◌/◌, ◌%◌, ◌^◌}
use native.Mathlib.Nat.{mod-lt}
use native.Mathlib.Omega.{arith}
use lib.ListN.{get_or}
use lib.Pow.{pow_pos}
use lib.Count.{ones-le}
use Rattle.live.proofs.Bits.{one_shl, ones-living_from}
use Rattle.live.proofs.count_below.Goals as goal

pub returns-then-k-eq0 : goal.returns-then-k-eq0
returns-then-k-eq0 c = let z : c.args.end % 64 ≡ 0 = omega arith in rw z

pub nonzero_rem-result : goal.nonzero_rem-result
nonzero_rem-result c = let k = c.args.end % 64 in omega (arith, one_shl k (omega arith), pow_pos k)

pub overflow_cast-result-3 : goal.overflow_cast-result-3
overflow_cast-result-3 c =
    let ws = c.args.words.now in
    let end = c.args.end in
    rw (one_shl (end % 64) (omega arith))
    (omega (arith, ones-le (end % 64) (get_or ws (end / 64) 0 % 2 ^ (end % 64)) (mod-lt (get_or ws (end / 64) 0) (pow_pos (end % 64)))))

pub returns : goal.returns
returns c =
    let ws = c.args.words.now in
    let end = c.args.end in
    rw (one_shl (end % 64) (omega arith))
    (ones-living_from ws (end / 64) (end % 64) (omega arith))
