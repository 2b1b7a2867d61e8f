-- From the law of the count of ones, and that ids before and after a place are counted apart.
use Rattle.std.proofs.Common.{arith, ◌≡◌, ap, sym, ◌∙◌, ℕ, ◌+◌, ◌-◌, ◌*◌, ◌/◌, ◌%◌}
use lib.Count.{ones-le}
use lib.ListN.{get_or}
use Rattle.model.specs.TupleSet.{count}
use Rattle.model.specs.LiveWords.{is_live, living_from}
use Rattle.model.proofs.LiveWords.{count-from-le, count-split}
use Rattle.live.proofs.Between.{between, one_word}
use Rattle.live.proofs.count.Goals as goal

pub overflow_add-n : goal.overflow_add-n
overflow_add-n c =
    let a = c.args in
    let i = c.loop-i.i in
    omega (
      arith,
      ones-le 64 (get_or a.words.now i 0) (c.type_inv.words i).fits,
      count-from-le (is_live a.words.now) (64 * (a.start / 64)) (a.end - 64 * (a.start / 64)),
    )

pub loop-i-preserved : goal.loop-i-preserved
loop-i-preserved c =
    let a = c.args in
    let i = c.loop-i.i in
    omega (arith, one_word a.words.now i a.end (omega arith) (c.type_inv.words i).fits)

pub overflow_add-result : goal.overflow_add-result
overflow_add-result c =
    let a = c.args in
    omega (
      arith,
      c.count_below.ensures,
      count-from-le (is_live a.words.now) (64 * (a.end / 64)) (a.end % 64),
      count-from-le (is_live a.words.now) (64 * (a.start / 64)) (a.end - 64 * (a.start / 64)),
    )

-- what is counted is the ids of start's word below start, and those from start on
counted : (c : goal.After-count_below-2) → c.loop-i.n + c.count_below.result ≡ c.count_below-2.result + between c.args.words.now c.args.start c.args.end
counted c =
    let a = c.args in
    let ws = a.words.now in
    let s = a.start in
    let e = a.end in
    let i : c.loop-i.i ≡ e / 64 = omega arith in
    let p : e - 64 * (e / 64) ≡ e % 64 = omega arith in
    let q : s - 64 * (s / 64) ≡ s % 64 = omega arith in
    omega (
      arith,
      ap (λ (x : ℕ). between ws (64 * x) e) i,
      c.count_below.ensures ∙ ap (λ (k : ℕ). count (living_from (64 * (e / 64)) k ws)) (sym p),
      c.count_below-2.ensures ∙ ap (λ (k : ℕ). count (living_from (64 * (s / 64)) k ws)) (sym q),
      count-split (is_live ws) (64 * (s / 64)) s e (omega arith) (omega arith),
    )

pub overflow_sub-result : goal.overflow_sub-result
overflow_sub-result c = omega (arith, counted c)

pub returns : goal.returns
returns c = omega (arith, counted c)
