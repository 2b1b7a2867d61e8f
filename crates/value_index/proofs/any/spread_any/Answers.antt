use Rattle.std.proofs.Common.{◌≡◌, ◌+◌, ◌*◌, ℕ, subst, arith}
use Rattle.value_index.specs.Plan.{digit_count, digit_rows, row_words}
use Rattle.value_index.specs.Index.{JoinsRow}
use Rattle.value_index.proofs.ValueRows.{nth-within, sound-same}
use Rattle.value_index.proofs.Entries.{grows-on}
use Rattle.value_index.proofs.Spread.{SpreadsRows, spread-more, spread-all}
use Rattle.value_index.proofs.any.spread_any.Goals as goal

pub join_row-requires : goal.join_row-requires
join_row-requires c =
    let column = c.requires.1.0 c.if-start-eq0.false in
    let own = nth-within column c.loop-k.k (omega arith) in
    let any = nth-within column (digit_count c.args.index.now * digit_rows c.args.index.now) (omega arith) in
    (c.loop-k.invariant.full, (omega (arith, column.behind), (omega (arith, any, c.any_row-any.ensures), omega (arith, own))))

pub loop-k-preserved : goal.loop-k-preserved
loop-k-preserved c =
    let l = c.loop-k in
    let a = c.args in
    let before = a.index.now in
    let new = c.join_row.new.index in
    let grown = c.join_row.ensures.1.0 in record {
      full = c.join_row.ensures.0;
      grown = grows-on before l.index new l.invariant.grown grown;
      spread = spread-more before l.index new a.start (64 * a.from) (64 * a.to) l.invariant.grown grown l.k
          (subst (λ (r : ℕ). JoinsRow r (a.start + l.k * row_words before) (64 * a.from) (64 * a.to) l.index new) c.any_row-any.ensures c.join_row.ensures.1.1)
          l.invariant.spread;
    }

pub returns : goal.returns
returns c =
    let l = c.loop-k in
    let a = c.args in
    let before = a.index.now in
    let all : l.k ≡ digit_count before * digit_rows before = omega arith in (
      l.invariant.full,
      (
        l.invariant.grown,
        λ _. spread-all before l.index a.start (64 * a.from) (64 * a.to) (sound-same before l.index l.invariant.grown.same c.requires.0.1) l.invariant.grown
            (subst (λ (n : ℕ). SpreadsRows a.start n (64 * a.from) (64 * a.to) before l.index) all l.invariant.spread),
      ),
    )
