-- `gather` joins the relation's ids that are in all rows of the tuple's values, by the law that whatever agrees is in all these rows.
use Rattle.layout.specs.Setting.{network_in}
use Rattle.narrowing.specs.TupleRows.{in_rows}
use Rattle.narrowing.proofs.TupleRows.{rows-for-within, agreeing-rows}
use Rattle.narrowing.proofs.Narrowing.{ids-of}
use Rattle.narrowing.proofs.Gathered.{joins-gathers}
use Rattle.narrowing.proofs.gather.gather.Goals as goal

pub gather_rows-requires : goal.gather_rows-requires
gather_rows-requires c =
    let a = c.args in
    let p = c.requires.seeks in (
      c.requires.long,
      (
        rows-for-within p.0.laid p.0.indexed a.r a.x a.s p.1 c.rows_for-n.ensures,
        (ids-of p.0.laid p.0.indexed a.s _ _ p.1 c.tuple_start-start.ensures c.tuple_start-end.ensures).bits,
      ),
    )

pub returns : goal.returns
returns c =
    let a = c.args in
    let p = c.requires.seeks in
    let N = network_in (record { variables = a.variables.now; values = a.values.now; starts = a.starts.now }) in
    let ids = ids-of p.0.laid p.0.indexed a.s _ _ p.1 c.tuple_start-start.ensures c.tuple_start-end.ensures in (
      c.gather_rows.ensures.long,
      joins-gathers N a.r a.x a.s c.tuple_start-start.result c.tuple_start-end.result ids.begin ids.stop (in_rows a.index.now c.rows_for-n.new.rows c.rows_for-n.result) a.from.now a.to.now _
          (λ z h g. agreeing-rows p.0.laid p.0.indexed a.r a.x a.s z p.0.own h g c.rows_for-n.ensures)
          c.gather_rows.ensures,
    )
