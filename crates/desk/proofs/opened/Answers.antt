-- A text that is read is in range.
use Rattle.std.proofs.Common.{arith}
use borrow.Author.Tests.{not-false}
use Rattle.model.proofs.Reading.{writable-fields}
use Rattle.desk.proofs.Standing.{standing-writable}
use Rattle.desk.proofs.opened.Goals as goal

pub copied-requires : goal.copied-requires
copied-requires c = ((writable-fields _ (standing-writable c.read-book.ensures (not-false _ c.if-not-book.false))).0, omega (arith, c.read-book.ensures.variables-filled.within))

pub copied-requires-2 : goal.copied-requires-2
copied-requires-2 c = ((writable-fields _ (standing-writable c.read-book.ensures (not-false _ c.if-not-book.false))).1, omega (arith, c.read-book.ensures.members-filled.within))
