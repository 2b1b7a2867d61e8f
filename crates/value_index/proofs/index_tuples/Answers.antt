use Rattle.std.proofs.Common.{◌+◌, ◌-◌, ◌*◌, get_or, arith}
use Rattle.value_index.proofs.Entries.{grows-on}
use Rattle.value_index.proofs.Spread.{spread-indexed}
use Rattle.value_index.proofs.index_tuples.Goals as goal

pub returns : goal.returns
returns c =
    let a = c.args in
    let mid = c.enter_tuples.new.index in
    let new = c.spread_columns.new.index in
    let grown = c.spread_columns.ensures.1.0 in
    let laid = c.requires.laid in (
      c.spread_columns.ensures.0,
      (
        grows-on a.index.now mid new c.enter_tuples.ensures.1.0 grown,
        λ g u h k l.
            spread-indexed mid new grown a.r k (get_or a.values.now (a.at + (g - a.start) * a.width + k) 0) g a.start a.end laid.1.0 (omega (arith, l, laid.1.1)) u h
            (c.spread_columns.ensures.1.1 k l) (c.enter_tuples.ensures.1.1 k l g u h),
      ),
    )
