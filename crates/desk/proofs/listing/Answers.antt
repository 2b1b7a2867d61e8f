-- Whether the text is in the form decides its listing. From the opening, and that a text that is read is in range.
use Rattle.std.proofs.Common.{◌≡◌, ap, Bool, true, false, cond}
use Rattle.std.proofs.Math.Option.{Option, none, some}
use borrow.Author.Tests.{not-false, not-true}
use Rattle.model.specs.Request.{Instance}
use Rattle.model.specs.Text.{text_of}
use Rattle.model.specs.Listing.{lines_for, listing}
use Rattle.desk.proofs.Standing.{instance_in, opened-read, opened-writable}
use Rattle.desk.proofs.Written.{written}
use Rattle.desk.proofs.listing.Goals as goal
use Rattle.desk.proofs.listing.Goals.{After-opened-book}

told : (c : After-opened-book) (ok : Bool) → c.opened-book.result.ok ≡ ok → text_of (lines_for (cond ok (some (instance_in c.opened-book.result c.opened-book.new.variables c.opened-book.new.values c.opened-book.new.members)) none)) ≡ listing c.args.text.now
unfolding listing
told c ok e = ap (λ (o : Option Instance). text_of (lines_for o)) (opened-read c.opened-book.ensures ok e)

pub returns-then-not-book-clause-text : goal.returns-then-not-book-clause-text
returns-then-not-book-clause-text c = (written (listing c.args.text.now) (told (goal.at.returns-then-not-book-clause-text c).After-opened-book false (not-true _ c.if-not-book.true)) c.refused.ensures).1

pub filtered-requires : goal.filtered-requires
filtered-requires c = opened-writable c.opened-book.ensures (not-false _ c.if-not-book.false)

pub returns-clause-text : goal.returns-clause-text
returns-clause-text c = (written (listing c.args.text.now) (told (goal.at.returns-clause-text c).After-opened-book true (not-false _ c.if-not-book.false)) c.filtered.ensures).1
