use Rattle.std.proofs.Common.{rules}
use Rattle.std.proofs.lemmas.Iterator.{YieldsList-from_slice}
use Rattle.std.proofs.lemmas.Iterator.Search.{any_from_yields_List}
use borrow.Author.Tests.{tests}
use Rattle.model.specs.Moves.{too_wide}
use Rattle.layout.proofs.StdLists.{any-list_any}
use Rattle.moves.proofs.any_too_wide.Goals as goal

pub returns : goal.returns
returns c =
    rw any-list_any
    (any_from_yields_List too_wide _ _ _ c.any.ensures.ran (YieldsList-from_slice c.args.values.now (cc)) (λ x b q k. search (rules, tests)))
