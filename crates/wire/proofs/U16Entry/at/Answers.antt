-- The two bytes of an entry, by the law of an entry's halves.
use Rattle.std.proofs.Common.{rules}
use Rattle.wire.proofs.Entries.{entry-one, entry-halves}
use Rattle.wire.proofs.U16Entry.at.Goals as goal

pub returns : goal.returns
returns c = search (rules, entry-halves 1, entry-one)
