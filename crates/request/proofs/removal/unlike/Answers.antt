use Rattle.request.proofs.Removed.{blank-full}
use Rattle.request.proofs.Unlike.{added-holds}
use Rattle.request.proofs.removal.unlike.Goals as goal

pub add_unlike-requires : goal.add_unlike-requires
add_unlike-requires c = (c.requires, blank-full)

pub returns : goal.returns
returns c = added-holds _ _ c.add_unlike.ensures
