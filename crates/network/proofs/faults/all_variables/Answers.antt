use Rattle.std.proofs.Common.{rules, ltb}
use Rattle.std.proofs.lemmas.Iterator.{YieldsList-from_slice}
use Rattle.std.proofs.lemmas.Iterator.Search.{all_from_yields_List}
use borrow.Author.Tests.{tests}
use Rattle.layout.proofs.StdLists.{all-list_all}
use Rattle.network.proofs.faults.all_variables.Goals as goal

pub returns : goal.returns
returns c =
    rw all-list_all
    (all_from_yields_List (λ x. ltb x 64) _ _ _ c.all.ensures.ran (YieldsList-from_slice c.args.scope.now (cc)) (λ x b q k. search (rules, tests)))
