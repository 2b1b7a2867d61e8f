-- From what the checks and `change_opened` ensure, and the laws from an opening to the reply.
use Rattle.byte_calls.proofs.Calls.{bytes-refused, opened-refused}
use Rattle.byte_calls.proofs.change.change_decoded.Goals as goal

pub returns-then-opening-ne0 : goal.returns-then-opening-ne0
returns-then-opening-ne0 c =
    bytes-refused _ _ _ _ c.checked-opening.result.fault _ c.pack.ensures (opened-refused _ _ _ _ _ c.checked-opening.result c.checked-opening.ensures c.if-opening-ne0.true)
