-- From the laws of pairs: where the next one's numbers begin, and that they lie within the support list.
use Rattle.layout.specs.Starts.{SoundStarts}
use Rattle.layout.specs.Setting.{SoundPairs}
use Rattle.worklist.specs.Supports.{SupportsFit}
use Rattle.std.proofs.Common.{◌≡◌, ℕ, ◌+◌, ◌-◌, ◌*◌, ◌≤◌, ◌<◌, List, length, get_or, refl, sym, ◌∙◌, arith, below_more}
use lib.ListN.{set, length-set}
use lib.Seq.{get_or-set_same, get_or-set_other}
use Rattle.model.specs.Combination.{pair_member}
use Rattle.model.specs.Consistency.{support_start}
use Rattle.layout.specs.Starts.{tuple_start, outline}
use Rattle.layout.proofs.SoundStarts.{ids-rise}
use Rattle.layout.proofs.Pairs.{member_below, pair-next, pair-first, pair-within}
use Rattle.worklist.proofs.list.pair_starts.Goals as goal

pub loop-p-init : goal.loop-p-init
loop-p-init c = record {
  entries = refl;
  written = λ k h. let e : k ≡ 0 = omega arith in rw e (sym (pair-first c.args.starts.now c.args.m c.args.members.now));
}

pub overflow_add-r : goal.overflow_add-r
overflow_add-r c = omega (arith, member_below c.requires.0 c.requires.1 c.loop-p.p (omega arith))

pub tuple_start-requires : goal.tuple_start-requires
tuple_start-requires c = omega (arith, member_below c.requires.0 c.requires.1 c.loop-p.p (omega arith))

pub tuple_start-requires-in-loop-p : goal.tuple_start-requires-in-loop-p
tuple_start-requires-in-loop-p c = omega (arith, member_below c.requires.0 c.requires.1 c.loop-p.p (omega arith))

pub overflow_sub-size : goal.overflow_sub-size
overflow_sub-size c =
    let r = pair_member c.args.members.now c.loop-p.p in
    omega (arith, ids-rise c.requires.0 r (member_below c.requires.0 c.requires.1 c.loop-p.p (omega arith)))

-- the entry that is written is where the next pair's numbers begin, and lies within the support list
next-entry : {starts members : List ℕ} {m p : ℕ} (b s e : ℕ) → SoundStarts starts → SoundPairs starts m members → SupportsFit starts m members → p < length members → b ≡ support_start (outline starts) m members p → e ≡ tuple_start starts (pair_member members p + 1) → s ≡ tuple_start starts (pair_member members p) → (b + (e - s) * m ≡ support_start (outline starts) m members (p + 1)) × (b + (e - s) * m ≤ 32768)
next-entry {starts} {members} {m} {p} b s e framed paired fit h w f g =
    let n : b + (e - s) * m ≡ support_start (outline starts) m members (p + 1) = rw (w, f, g) (pair-next framed paired p h) in
    (n, omega (arith, n, pair-next framed paired p h, pair-within framed paired p h))

pub overflow_mul-begins : goal.overflow_mul-begins
overflow_mul-begins c =
    let e = next-entry _ _ _ c.requires.0 c.requires.1 c.requires.2 c.loop-p-test.true (c.loop-p.invariant.written c.loop-p.p (omega arith)) c.tuple_start.ensures c.tuple_start-in-loop-p.ensures in
    omega (arith, e.1)

pub overflow_add-begins : goal.overflow_add-begins
overflow_add-begins c =
    let e = next-entry _ _ _ c.requires.0 c.requires.1 c.requires.2 c.loop-p-test.true (c.loop-p.invariant.written c.loop-p.p (omega arith)) c.tuple_start.ensures c.tuple_start-in-loop-p.ensures in
    omega (arith, e.1)

pub loop-p-preserved : goal.loop-p-preserved
loop-p-preserved c =
    let l = c.loop-p in
    let e = next-entry _ _ _ c.requires.0 c.requires.1 c.requires.2 c.loop-p-test.true (l.invariant.written l.p (omega arith)) c.tuple_start.ensures c.tuple_start-in-loop-p.ensures in
    let v = get_or l.begins l.p 0 + (c.tuple_start.result - c.tuple_start-in-loop-p.result) * c.args.m in
    let room : l.p + 1 < length l.begins = omega (arith, l.invariant.entries, c.requires.1.list.short) in
    let all = below_more
    (λ k. get_or (set l.begins (l.p + 1) v) k 0 ≡ support_start (outline c.args.starts.now) c.args.m c.args.members.now k)
    (l.p + 1)
    (λ k h. get_or-set_other l.begins (l.p + 1) k v 0 (λ q. omega arith) ∙ l.invariant.written k (omega arith))
    (get_or-set_same l.begins (l.p + 1) v 0 room ∙ e.0)
    in
    record { entries = length-set l.begins (l.p + 1) v ∙ l.invariant.entries; written = λ k h. all k (omega arith) }
