use Rattle.network.proofs.Columns.{number-agrees}
use Rattle.network.proofs.agreement.tuples_agree.Goals as goal

pub returns : goal.returns
returns c =
    number-agrees (record { variables = c.args.variables.now; values = c.args.values.now; starts = c.args.starts.now }) c.args.r c.args.x c.args.s c.args.y c.tuples_clash.result c.requires c.tuples_clash.ensures
