-- `narrow_member` narrows the relation's ids to those in all rows of the tuple's values, or leaves them as they are, by the laws of a
-- relation's ids, and the law that whatever agrees is in all these rows.
use Rattle.std.proofs.Common.{eqb, arith}
use borrow.Author.Tests.{ltb-false, eqb-true, not-false}
use Rattle.layout.specs.Setting.{network_in}
use Rattle.narrowing.specs.TupleRows.{in_rows}
use Rattle.narrowing.proofs.TupleRows.{rows-for-within, agreeing-rows}
use Rattle.narrowing.proofs.Narrowing.{ids-of, agreeing-none, kept-agreeing, dead-none, dead-past}
use Rattle.narrowing.proofs.narrow_member.Goals as goal

pub next-requires : goal.next-requires
next-requires c =
    let p = c.requires.1 in
    let ids = ids-of p.0.laid p.0.indexed c.args.s _ _ p.1 c.tuple_start-start.ensures c.tuple_start-end.ensures in
    (omega (arith, ids), omega (arith, ids.bits.1), ids.bits.1)

-- they share no variable
pub returns-then-scope_bits-eq0 : goal.returns-then-scope_bits-eq0
returns-then-scope_bits-eq0 c =
    let a = c.args in
    let p = c.requires.1 in
    let N = network_in (record { variables = a.variables.now; values = a.values.now; starts = a.starts.now }) in
    let ids = ids-of p.0.laid p.0.indexed a.s _ _ p.1 c.tuple_start-start.ensures c.tuple_start-end.ensures in (
      c.requires.0,
      (
        agreeing-none N a.r a.x a.s a.words.now,
        λ e.
            let l = ltb-false c.next.result c.tuple_start-end.result e in
            dead-past N a.s c.tuple_start-start.result c.tuple_start-end.result ids.begin ids.stop a.words.now (omega (arith, l, c.next.ensures)),
      ),
    )

pub keep_rows-requires : goal.keep_rows-requires
keep_rows-requires c =
    let a = c.args in
    let p = c.requires.1 in (
      c.requires.0,
      (
        rows-for-within p.0.laid p.0.indexed a.r a.x a.s p.1 c.rows_for-n.ensures,
        (ids-of p.0.laid p.0.indexed a.s _ _ p.1 c.tuple_start-start.ensures c.tuple_start-end.ensures).bits,
      ),
    )

pub returns : goal.returns
returns c =
    let a = c.args in
    let p = c.requires.1 in
    let N = network_in (record { variables = a.variables.now; values = a.values.now; starts = a.starts.now }) in
    let from = c.tuple_start-start.result in
    let to = c.tuple_start-end.result in
    let ids = ids-of p.0.laid p.0.indexed a.s from to p.1 c.tuple_start-start.ensures c.tuple_start-end.ensures in
    let left = c.keep_rows.result in
    let kept = c.keep_rows.ensures in (
      kept.long,
      (
        kept-agreeing N a.s from to ids.begin ids.stop a.r a.x (in_rows a.index.now c.rows_for-n.new.rows c.rows_for-n.result) a.words.now _
            (λ z h g. agreeing-rows p.0.laid p.0.indexed a.r a.x a.s z p.0.own h g c.rows_for-n.ensures)
            kept.kept,
        λ e. dead-none N a.s from to ids.begin ids.stop _ (kept.none (eqb-true left 0 (not-false (eqb left 0) e))),
      ),
    )
