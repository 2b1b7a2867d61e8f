-- Whether the text is in the form decides what is listed. From the opening.
use Rattle.std.proofs.Common.{◌≡◌, ap, Bool, true, false, cond}
use Rattle.std.proofs.Math.Option.{Option, none, some}
use borrow.Author.Tests.{not-false, not-true}
use Rattle.model.specs.Request.{Instance}
use Rattle.model.specs.Text.{text_of}
use Rattle.model.specs.Listing.{combination_lines_for, combination_listing}
use Rattle.desk.proofs.Standing.{instance_in, opened-read}
use Rattle.desk.proofs.Written.{written}
use Rattle.desk.proofs.combination_listing.Goals as goal
use Rattle.desk.proofs.combination_listing.Goals.{After-opened-book}

told : (c : After-opened-book) (ok : Bool) → c.opened-book.result.ok ≡ ok → text_of (combination_lines_for c.args.asked (cond ok (some (instance_in c.opened-book.result c.opened-book.new.variables c.opened-book.new.values c.opened-book.new.members)) none)) ≡ combination_listing c.args.asked c.args.text.now
unfolding combination_listing
told c ok e = ap (λ (o : Option Instance). text_of (combination_lines_for c.args.asked o)) (opened-read c.opened-book.ensures ok e)

pub returns-then-not-book-clause-text : goal.returns-then-not-book-clause-text
returns-then-not-book-clause-text c = (written (combination_listing c.args.asked c.args.text.now) (told (goal.at.returns-then-not-book-clause-text c).After-opened-book false (not-true _ c.if-not-book.true)) c.refused.ensures).1

pub returns-clause-text : goal.returns-clause-text
returns-clause-text c = (written (combination_listing c.args.asked c.args.text.now) (told (goal.at.returns-clause-text c).After-opened-book true (not-false _ c.if-not-book.false)) c.listed.ensures).1
