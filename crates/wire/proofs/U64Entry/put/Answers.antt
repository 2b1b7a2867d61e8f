-- The two halves of an entry, by their law.
use Rattle.std.proofs.Common.{rules}
use Rattle.wire.proofs.Entries.{put-halves}
use Rattle.wire.proofs.U64Entry.put.Goals as goal

pub returns : goal.returns
returns c = search (rules, put-halves 4)
