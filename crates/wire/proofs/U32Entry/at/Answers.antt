-- The two halves of an entry, by their law.
use Rattle.std.proofs.Common.{rules}
use Rattle.wire.proofs.Entries.{entry-halves}
use Rattle.wire.proofs.U32Entry.at.Goals as goal

pub returns : goal.returns
returns c = search (rules, entry-halves 2)
