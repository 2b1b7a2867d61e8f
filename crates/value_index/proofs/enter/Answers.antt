use Rattle.std.proofs.Common.{◌+◌, ◌∙◌, arith, length-set, get_or-set_other}
use Rattle.value_index.proofs.Entries.{entered-one}
use Rattle.value_index.proofs.enter.Goals as goal

pub returns : goal.returns
returns c =
    let ws = c.args.index.now in (
      length-set ws _ _ ∙ c.requires.0,
      (
        λ k h. get_or-set_other ws _ k _ 0 (λ e. absurd (omega arith)),
        λ h. entered-one ws c.args.row c.args.g (c.args.row + c.wide.result) h (omega arith) (omega arith),
      ),
    )
